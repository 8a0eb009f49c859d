-- `abstractions::depths_into` meets its contract. The record's own depth is stored, and the depths of its parts follow it; the measure is
-- the length of the slice. Assumes nothing.
use lib.ListN.{length}
use Rattle.abstractions.proofs.+depths_into.Given as goal

abbrev pub decreases-depths_into : goal.decreases-depths_into
decreases-depths_into l = length l.s.now
