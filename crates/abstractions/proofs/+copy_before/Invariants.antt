-- `abstractions::copy_before` meets its contract. Each branch is one law of copies among the first parts, by the kind of the first record;
-- the measure is the length of the slice. Assumes nothing.
use lib.ListN.{length}
use Rattle.abstractions.proofs.+copy_before.Given as goal

abbrev pub decreases-copy_before : goal.decreases-copy_before
decreases-copy_before l = length l.s.now
