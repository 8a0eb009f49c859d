-- `listing::write_line` meets its contract. The loop's invariant: once the entries that are left are written behind those passed the line
-- is. Assumes nothing.
use Rattle.listing.proofs.Writers.{Writing}
use Rattle.listing.proofs.write_line.Given as goal

abbrev pub invariant-loop-i : goal.invariant-loop-i
invariant-loop-i l = Writing l.source l.fn.entries l.initial.lines l.at l.initial.values l.first l.lines l.values l.next l.i
