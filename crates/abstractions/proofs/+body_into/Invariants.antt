-- `abstractions::body_into` meets its contract. A copy is written by its choice, and the bytes of the parts of any other part follow its
-- record's; the measure is the length of the slice. Assumes nothing.
use lib.ListN.{length}
use Rattle.abstractions.proofs.+body_into.Given as goal

abbrev pub decreases-body_into : goal.decreases-body_into
decreases-body_into l = length l.s.now
