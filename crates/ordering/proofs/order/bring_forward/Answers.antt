-- `ordering::order::bring_forward` meets its contract. The goal that is dropped from the list is written in front of what is left, and
-- goals have the same assignments in any order. Assumes nothing.
use native.Mathlib.Omega.{arith}
use Rattle.ordering.proofs.Ordering.{ready_ranks, reached_room, ready_drops, forward_room, forward_fits, forwarded}
use borrow.Author.Rules.{rules}
use Rattle.ordering.proofs.order.bring_forward.Goals as goal

pub cheapest_from-best-requires : goal.cheapest_from-best-requires
cheapest_from-best-requires c = search (rules, ready_ranks)

pub goal_at-stored-requires : goal.goal_at-stored-requires
goal_at-stored-requires c = search (rules, reached_room)

pub without-rest-requires : goal.without-rest-requires
without-rest-requires c = search (rules, ready_drops)

pub put_goal-requires : goal.put_goal-requires
put_goal-requires c = (
  omega (
    arith,
    forward_room c.requires.0 c.requires.1 c.requires.2 c.cheapest_from-best.ensures
        c.goal_at-stored.ensures.is c.without-rest.ensures,
    c.without-rest.ensures.whole,
    c.requires.0.bounds.whole,
  ),
  forward_fits c.requires.0 c.requires.1 c.requires.2 c.cheapest_from-best.ensures c.goal_at-stored.ensures.is
      c.without-rest.ensures c.goal_at-stored.ensures.fits c.linked.ensures,
)

pub overflow_add-result : goal.overflow_add-result
overflow_add-result c =
    omega (
      arith,
      forward_room c.requires.0 c.requires.1 c.requires.2 c.cheapest_from-best.ensures
          c.goal_at-stored.ensures.is c.without-rest.ensures,
    )

pub returns : goal.returns
returns c =
    forwarded c.requires.0 c.requires.1 c.requires.2 c.cheapest_from-best.ensures c.goal_at-stored.ensures.is
    c.without-rest.ensures c.linked.ensures c.put_goal.ensures
