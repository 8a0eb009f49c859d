-- `assignments::mentions` meets its contract. The loop's invariant: no record passed is the variable. Assumes nothing.
use Rattle.std.proofs.Common.{ℕ, ◌*◌, ◌<◌}
use Rattle.assignments.specs.Entries.{VariableAt}
use Rattle.assignments.proofs.mentions.Given as goal

abbrev pub invariant-loop-k : goal.invariant-loop-k
invariant-loop-k l = (j : ℕ) → j < l.k → ¬ VariableAt l.s (4 * j) l.variable
