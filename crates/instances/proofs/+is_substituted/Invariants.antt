-- `instances::is_substituted` meets its contract. Each branch is one law of a part compared with a substituted one, by the kind that both
-- first records have; the measure is the length of the body's slice. Assumes nothing.
use lib.ListN.{length}
use Rattle.instances.proofs.+is_substituted.Given as goal

abbrev pub decreases-is_substituted : goal.decreases-is_substituted
decreases-is_substituted l = length l.b.now
