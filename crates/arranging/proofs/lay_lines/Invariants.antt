-- `arranging::lay_lines` meets its contract. The loop's invariant: the lines that are left stand as they did, and writing them behind those
-- passed gives the tables of all lines. Assumes nothing.
use Rattle.arranging.proofs.Laying.{Laying}
use Rattle.arranging.proofs.lay_lines.Given as goal

abbrev pub invariant-loop-i : goal.invariant-loop-i
invariant-loop-i l = Laying l.source l.initial.lines l.count l.initial.values l.lines l.values l.first l.i
