-- `attempts::fill_open` meets its contract. The loop's invariant: the entries below i are filled, and the others are as they were. Assumes
-- nothing.
use Rattle.attempts.specs.Steps.{FilledOpen}
use Rattle.attempts.proofs.fill_open.Given as goal

abbrev pub invariant-loop-i : goal.invariant-loop-i
invariant-loop-i l = FilledOpen l.initial.line l.n l.line l.i
