-- `records::head_part` and `records::normal_part` meet their contracts. Each branch is one law of walks; the measure is the length of the
-- slice that is handed on. Assumes nothing.
use lib.ListN.{length}
use Rattle.records.proofs.+normal.Given as goal

abbrev pub decreases-head_part : goal.decreases-head_part
decreases-head_part l = length l.s.now

abbrev pub decreases-normal_part : goal.decreases-normal_part
decreases-normal_part l = length l.s.now
