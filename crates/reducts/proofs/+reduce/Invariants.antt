-- `reduce`, `reduce_application` and `reduce_abstraction` of `reducts` meet their contracts. The reduct of a term follows from those of
-- its parts, whose tables are shorter; the measure is the table's length. Assumes nothing.
use Prim.Native.Nat.{◌+◌, ◌*◌}
use lib.ListN.{length}
use Rattle.reducts.proofs.+reduce.Given as goal

abbrev pub decreases-reduce : goal.decreases-reduce
decreases-reduce l = 2 * length l.s.now + 1

abbrev pub decreases-reduce_abstraction : goal.decreases-reduce_abstraction
decreases-reduce_abstraction l = 2 * length l.s.now

abbrev pub decreases-reduce_application : goal.decreases-reduce_application
decreases-reduce_application l = 2 * length l.s.now
