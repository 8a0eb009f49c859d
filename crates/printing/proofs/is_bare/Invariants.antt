-- `printing::is_bare` meets its contract. The loop's invariant: the entries of the variables passed are open. Assumes nothing.
use Rattle.printing.specs.Text.{OpenBefore}
use Rattle.printing.proofs.is_bare.Given as goal

abbrev pub invariant-loop-v : goal.invariant-loop-v
invariant-loop-v l = OpenBefore l.line l.v
