-- `ordering::order::without` meets its contract. A goal before the dropped one is written anew in front of what is left of the list behind
-- it; the measure is the first goal's place, as the next one's is lower. Assumes nothing.
use native.Mathlib.Omega.{arith}
use Rattle.ordering.proofs.Ordering.{dropped_here, drops_next, anew_room, anew_fits, dropped_further}
use borrow.Author.Rules.{rules}
use Rattle.ordering.proofs.order.+without.Goals as goal

pub returns-then-list-goal : goal.returns-then-list-goal
returns-then-list-goal t c = search (rules, dropped_here)

pub without-rest-requires : goal.without-rest-requires
without-rest-requires t c = search (rules, drops_next)

pub put_goal-requires : goal.put_goal-requires
put_goal-requires t c = (
  omega (
    arith,
    anew_room c.requires c.goal_at-stored.ensures.is c.if-list-goal.false c.without-rest.ensures,
    c.without-rest.ensures.whole,
    c.requires.whole,
  ),
  search (rules, anew_fits),
)

pub overflow_add-result : goal.overflow_add-result
overflow_add-result t c =
    omega (arith, anew_room c.requires c.goal_at-stored.ensures.is c.if-list-goal.false c.without-rest.ensures)

pub returns : goal.returns
returns t c = search (rules, dropped_further)
