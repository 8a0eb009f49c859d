-- `abstractions::copies` meets its contract. A copy counts one, and the counts of the parts of any other part are added; the measure is
-- the length of the slice. Assumes nothing.
use lib.ListN.{length}
use Rattle.abstractions.proofs.+copies.Given as goal

abbrev pub decreases-copies : goal.decreases-copies
decreases-copies l = length l.s.now
