-- `fit_table::write_column` meets its contract. The loop's invariant: the entries of the buoys passed are written. Assumes nothing.
use mathlib.Core.Path.{◌≡◌}
use lib.ListN.{length}
use Rattle.storage.specs.Storage.{recipe_of}
use Rattle.fit_table.specs.FitTable.{Fits}
use Rattle.fit_table.proofs.Writing.{ColumnBelow}
use Rattle.fit_table.proofs.write_column.Given as goal

abbrev pub invariant-loop-b : goal.invariant-loop-b
invariant-loop-b l =
    (length l.fit ≡ length l.initial.fit) × (length l.work ≡ length l.initial.work)
    × ColumnBelow l.place l.b (λ c. Fits l.left (recipe_of c l.directory l.table)) l.initial.fit l.fit
