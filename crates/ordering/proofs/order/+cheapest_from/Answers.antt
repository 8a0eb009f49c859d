-- `ordering::order::cheapest_from` meets its contract. What it answers is the first goal or what the list behind it comes to; the measure
-- is the first goal's place, as the next one's is lower. Assumes nothing.
use native.Mathlib.Omega.{arith}
use Rattle.ordering.proofs.Ordering.{ranks_costs, ranks_next, ranks_here, ranks_further}
use Rattle.ordering.proofs.order.+cheapest_from.Goals as goal

pub cost-own-requires : goal.cost-own-requires
cost-own-requires t c = ranks_costs c.requires

pub returns-then-next-eq0 : goal.returns-then-next-eq0
returns-then-next-eq0 t c =
    ranks_here c.requires

pub cheapest_from-best-requires : goal.cheapest_from-best-requires
cheapest_from-best-requires t c = (
  omega (arith, c.requires.falls, c.goal_at-goal.ensures.is.next),
  ranks_next c.requires c.goal_at-goal.ensures.is c.if-next-eq0.false,
)

pub returns-then-best-own : goal.returns-then-best-own
returns-then-best-own t c =
    ranks_further c.requires c.goal_at-goal.ensures.is c.cheapest_from-best.ensures

pub returns : goal.returns
returns t c =
    ranks_here c.requires
