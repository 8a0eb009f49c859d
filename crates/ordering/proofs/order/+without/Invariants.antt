-- `ordering::order::without` meets its contract. A goal before the dropped one is written anew in front of what is left of the list behind
-- it; the measure is the first goal's place, as the next one's is lower. Assumes nothing.
use Rattle.ordering.proofs.order.+without.Given as goal

abbrev pub decreases-without : goal.decreases-without
decreases-without l = l.list
