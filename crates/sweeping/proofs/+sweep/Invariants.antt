-- `sweep_part`, `sweep_application` and `sweep_abstraction` of `sweeping` meet their contracts. The sweep of a term follows from those of
-- its parts, whose tables are shorter; the measure is the table's length. Assumes nothing.
use Prim.Native.Nat.{◌+◌, ◌*◌}
use lib.ListN.{length}
use Rattle.sweeping.proofs.+sweep.Given as goal

abbrev pub decreases-sweep_abstraction : goal.decreases-sweep_abstraction
decreases-sweep_abstraction l = 2 * length l.s.now

abbrev pub decreases-sweep_application : goal.decreases-sweep_application
decreases-sweep_application l = 2 * length l.s.now

abbrev pub decreases-sweep_part : goal.decreases-sweep_part
decreases-sweep_part l = 2 * length l.s.now + 1
