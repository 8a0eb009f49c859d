-- `fit_table::write_row` meets its contract. The loop's invariant: the entries of the places passed are written. Assumes nothing.
use mathlib.Core.Path.{◌≡◌}
use lib.ListN.{length}
use Rattle.fit_table.specs.FitTable.{RuleFits}
use Rattle.fit_table.proofs.Writing.{RowBelow}
use Rattle.fit_table.proofs.write_row.Given as goal

abbrev pub invariant-loop-i : goal.invariant-loop-i
invariant-loop-i l =
    (length l.fit ≡ length l.initial.fit) × (length l.work ≡ length l.initial.work)
    × RowBelow l.buoy l.i (λ j. RuleFits l.book j l.recipe) l.initial.fit l.fit
