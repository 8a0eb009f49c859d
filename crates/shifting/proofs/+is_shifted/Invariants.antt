-- `shifting::is_shifted` meets its contract. Each branch is one law of two parts compared, by the kind that both first records have; the
-- measure is the length of the first slice. Assumes nothing.
use lib.ListN.{length}
use Rattle.shifting.proofs.+is_shifted.Given as goal

abbrev pub decreases-is_shifted : goal.decreases-is_shifted
decreases-is_shifted l = length l.s.now
