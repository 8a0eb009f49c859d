-- `substitution::shift_into` meets its contract. Each record is written as its term's shifted one, and a part's bytes follow its record's;
-- the measure is the slice's length. Assumes nothing.
use lib.ListN.{length}
use Rattle.substitution.proofs.+shift_into.Given as goal

abbrev pub decreases-shift_into : goal.decreases-shift_into
decreases-shift_into l = length l.s.now
