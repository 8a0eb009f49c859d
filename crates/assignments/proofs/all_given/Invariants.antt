-- `assignments::all_given` meets its contract. The loop's invariant: no variable passed lacks a value. Assumes nothing.
use Rattle.std.proofs.Common.{ℕ, ◌<◌, false}
use Rattle.assignments.specs.Entries.{Lacking}
use Rattle.assignments.proofs.all_given.Given as goal

abbrev pub invariant-loop-i : goal.invariant-loop-i
invariant-loop-i l = (j : ℕ) → j < l.i → Lacking l.s l.values l.entries j false
