-- `arranging::before` meets its contract. The loop's invariant: the entries passed are the same, so that the others decide. Assumes
-- nothing.
use Rattle.arranging.proofs.Comparing.{Undecided}
use Rattle.arranging.proofs.before.Given as goal

abbrev pub invariant-loop-variable : goal.invariant-loop-variable
invariant-loop-variable l = Undecided l.a l.b l.values l.variable
