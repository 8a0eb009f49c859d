-- `test_scan::scan::part_end` is safe and ends. The measure is the depth that is left.
-- Assumes nothing.
use Rattle.test_scan.proofs.scan.+part_end.Given as goal

abbrev pub decreases-part_end : goal.decreases-part_end
decreases-part_end l = l.depth
