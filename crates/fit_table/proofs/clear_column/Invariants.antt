-- `fit_table::clear_column` meets its contract. The loop's invariant: the entries of the buoys passed are written. Assumes nothing.
use mathlib.Core.Path.{◌≡◌}
use lib.ListN.{length}
use Rattle.fit_table.proofs.Writing.{ColumnBelow}
use Rattle.fit_table.proofs.clear_column.Given as goal

abbrev pub invariant-loop-b : goal.invariant-loop-b
invariant-loop-b l = (length l.fit ≡ length l.initial.fit) × ColumnBelow l.place l.b (λ c. ⊥) l.initial.fit l.fit
