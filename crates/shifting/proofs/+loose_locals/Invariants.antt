-- `shifting::loose_locals` meets its contract. Each branch is one law of marks, by the kind of the first record; the measure is the length
-- of the slice. Assumes nothing.
use lib.ListN.{length}
use Rattle.shifting.proofs.+loose_locals.Given as goal

abbrev pub decreases-loose_locals : goal.decreases-loose_locals
decreases-loose_locals l = length l.s.now
