-- `heights::heights_into` meets its contract. The invariant: the heights from record i on are written, and those of the row there are kept.
-- Assumes nothing.
use Rattle.heights.proofs.Rows.{Passed}
use Rattle.heights.proofs.heights_into.Given as goal

abbrev pub invariant-loop-i : goal.invariant-loop-i
invariant-loop-i l = Passed l.s l.initial.out l.i l.next l.first l.row l.out
