-- `ordering::repeated::find_second` meets its contract. It answers the first goal of the list, or what the list behind it has; the measure
-- is the goal's place, as the next one's is lower. Assumes nothing.
use Rattle.ordering.proofs.repeated.+find_second.Given as goal

abbrev pub decreases-find_second : goal.decreases-find_second
decreases-find_second l = l.list
