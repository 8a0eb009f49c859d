-- `arranging::merge` meets its contract. The loop's invariant: lines stand in both tables from the places reached on, and merging them
-- behind what is written merges the whole. Assumes nothing.
use Prim.Native.Nat.{◌+◌, ◌-◌}
use lib.ListN.{length}
use Rattle.arranging.proofs.Merging.{MergingOn}
use Rattle.arranging.proofs.merge.Given as goal

abbrev pub invariant-loop-i : goal.invariant-loop-i
invariant-loop-i l = MergingOn l.a l.b l.values l.initial.out l.i l.j l.out

abbrev pub decreases-loop-i : goal.decreases-loop-i
decreases-loop-i l = length l.a + length l.b - (l.i + l.j)
