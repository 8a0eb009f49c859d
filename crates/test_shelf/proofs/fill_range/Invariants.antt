-- `test_shelf::fill_range` is safe. The loop's invariant: the number of answers yes is at most the buoy's, and so fits. Assumes nothing.
use Rattle.std.proofs.Common.{◌≤◌}
use Rattle.test_shelf.proofs.fill_range.Given as goal

abbrev pub invariant-loop-buoy : goal.invariant-loop-buoy
invariant-loop-buoy l = l.yes ≤ l.buoy
