-- `shifting::is_rigid` meets its contract. An application is rigid as its head is, and any other term by its first record; the measure
-- is the length of the slice. Assumes nothing.
use lib.ListN.{length}
use Rattle.shifting.proofs.+is_rigid.Given as goal

abbrev pub decreases-is_rigid : goal.decreases-is_rigid
decreases-is_rigid l = length l.s.now
