-- `ordering::repeated::find_first` meets its contract. It answers the first goal with one behind it, or what the list behind it has; the
-- measure is the goal's place, as the next one's is lower. Assumes nothing.
use native.Mathlib.Omega.{arith}
use mathlib.Core.Path.{refl}
use Rattle.ordering.proofs.Forcing.{listed_falls, listed_next, listed_part, finds_nothing, finds_here, finds_further}
use borrow.Author.Rules.{rules}
use Rattle.ordering.proofs.repeated.+find_first.Goals as goal

pub returns-then-list-eq0 : goal.returns-then-list-eq0
returns-then-list-eq0 t c = finds_nothing _ _ _

pub find_first-requires : goal.find_first-requires
find_first-requires t c =
    (omega (arith, listed_falls c.requires c.if-list-eq0.false c.goal_at-goal.ensures.is), search (rules, listed_next))

pub returns-then-goal-ne0 : goal.returns-then-goal-ne0
returns-then-goal-ne0 t c = search (rules, finds_further)

pub find_second-requires : goal.find_second-requires
find_second-requires t c = search (rules, listed_next, listed_part)

pub find_first-requires-in-None : goal.find_first-requires-in-None
find_first-requires-in-None t c =
    (omega (arith, listed_falls c.requires c.if-list-eq0.false c.goal_at-goal.ensures.is), search (rules, listed_next))

pub returns-in-Some : goal.returns-in-Some
returns-in-Some t c = search (rules, finds_here, c.in-Some.ensures, refl)

pub returns-in-None : goal.returns-in-None
returns-in-None t c = search (rules, finds_further)
