-- `ordering::repeated::find_second` meets its contract. It answers the first goal of the list, or what the list behind it has; the measure
-- is the goal's place, as the next one's is lower. Assumes nothing.
use native.Mathlib.Omega.{arith}
use mathlib.Core.Path.{refl}
use Rattle.ordering.proofs.Forcing.{listed_falls, listed_next, listed_part, later_nothing, later_here, later_further}
use borrow.Author.Rules.{rules}
use Rattle.ordering.proofs.repeated.+find_second.Goals as goal

pub returns-then-list-eq0 : goal.returns-then-list-eq0
returns-then-list-eq0 t c = later_nothing _ _ _ _ _

pub find_second-requires : goal.find_second-requires
find_second-requires t c =
    (omega (arith, listed_falls c.requires.0 c.if-list-eq0.false c.goal_at-stored.ensures.is), search (rules, listed_next))

pub returns-then-stored-ne0 : goal.returns-then-stored-ne0
returns-then-stored-ne0 t c = search (rules, later_further)

pub spines_at-requires : goal.spines_at-requires
spines_at-requires t c = search (rules, listed_part)

pub find_second-requires-in-None : goal.find_second-requires-in-None
find_second-requires-in-None t c =
    (omega (arith, listed_falls c.requires.0 c.if-list-eq0.false c.goal_at-stored.ensures.is), search (rules, listed_next))

pub returns-in-Some : goal.returns-in-Some
returns-in-Some t c = search (rules, later_here, c.in-Some.ensures, refl)

pub returns-in-None : goal.returns-in-None
returns-in-None t c = search (rules, later_further)
