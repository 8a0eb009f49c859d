-- `joins::joining::join_into` meets its contract. The parts of two targets are joined one after another, and as many records are written
-- as either has; the measure is the length of the first slice. Assumes nothing.
use lib.ListN.{length}
use Rattle.joins.proofs.joining.+join_into.Given as goal

abbrev pub decreases-join_into : goal.decreases-join_into
decreases-join_into l = length l.first.now
