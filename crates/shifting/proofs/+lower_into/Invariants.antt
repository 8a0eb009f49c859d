-- `shifting::lower_into` meets its contract. Each record is written as its term's, moved out, and a part's bytes follow its record's;
-- where a local forbids it, only bytes from the first written on have changed. The measure is the length of the slice. Assumes nothing.
use lib.ListN.{length}
use Rattle.shifting.proofs.+lower_into.Given as goal

abbrev pub decreases-lower_into : goal.decreases-lower_into
decreases-lower_into l = length l.s.now
