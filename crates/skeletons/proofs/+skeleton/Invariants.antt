-- `skeleton`, `skeleton_application` and `skeleton_abstraction` of `skeletons` meet their contracts. The skeleton of a part follows from
-- those of its own parts, whose tables are shorter; the measure is the table's length. Assumes nothing.
use Prim.Native.Nat.{◌+◌, ◌*◌}
use lib.ListN.{length}
use Rattle.skeletons.proofs.+skeleton.Given as goal

abbrev pub decreases-skeleton : goal.decreases-skeleton
decreases-skeleton l = 2 * length l.s.now + 1

abbrev pub decreases-skeleton_abstraction : goal.decreases-skeleton_abstraction
decreases-skeleton_abstraction l = 2 * length l.s.now

abbrev pub decreases-skeleton_application : goal.decreases-skeleton_application
decreases-skeleton_application l = 2 * length l.s.now
