-- `ordering::order::cheapest_from` meets its contract. What it answers is the first goal or what the list behind it comes to; the measure
-- is the first goal's place, as the next one's is lower. Assumes nothing.
use Rattle.ordering.proofs.order.+cheapest_from.Given as goal

abbrev pub decreases-cheapest_from : goal.decreases-cheapest_from
decreases-cheapest_from l = l.list
