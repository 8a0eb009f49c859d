-- `substitution::substitute_into` meets its contract. Each record is written as its term's substituted one, and a part's bytes follow its
-- record's; the measure is the slice's length. Assumes nothing.
use lib.ListN.{length}
use Rattle.substitution.proofs.+substitute_into.Given as goal

abbrev pub decreases-substitute_into : goal.decreases-substitute_into
decreases-substitute_into l = length l.b.now
