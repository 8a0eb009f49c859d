-- `skeletons::exact_part` meets its contract. Each branch is one law of walks, with holes split by the term's kind; the measure is the
-- length of the slice that is handed on. Assumes nothing.
use lib.ListN.{length}
use Rattle.skeletons.proofs.+exact_part.Given as goal

abbrev pub decreases-exact_part : goal.decreases-exact_part
decreases-exact_part l = length l.s.now
