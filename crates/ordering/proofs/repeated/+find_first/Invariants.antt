-- `ordering::repeated::find_first` meets its contract. It answers the first goal with one behind it, or what the list behind it has; the
-- measure is the goal's place, as the next one's is lower. Assumes nothing.
use Rattle.ordering.proofs.repeated.+find_first.Given as goal

abbrev pub decreases-find_first : goal.decreases-find_first
decreases-find_first l = l.list
