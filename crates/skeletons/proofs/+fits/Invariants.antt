-- `skeletons::fits` meets its contract. Each branch is one law of a term compared with a skeleton, by the kind that both first records
-- have; the measure is the length of the skeleton's slice. Assumes nothing.
use lib.ListN.{length}
use Rattle.skeletons.proofs.+fits.Given as goal

abbrev pub decreases-fits : goal.decreases-fits
decreases-fits l = length l.c.now
