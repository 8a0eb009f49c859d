-- `listing::found` meets its contract. The two tests are those of `fits`, and where both pass the line is written where `written` has it.
-- Assumes nothing.
use native.Mathlib.Omega.{arith}
use mathlib.Core.Path.{ap}
use Prim.Native.Nat.{◌+◌}
use Rattle.listing.proofs.Storing.{total_few, found_lines_full, found_values_full, found_written, line_of}
use Rattle.listing.proofs.found.Goals as goal

pub records_of-requires : goal.records_of-requires
records_of-requires c = omega (arith, total_few)

pub overflow_add-records : goal.overflow_add-records
overflow_add-records c = omega (arith, total_few)

pub returns-then-lines-count : goal.returns-then-lines-count
returns-then-lines-count c =
    found_lines_full _ _ _ _ _ _ (ap (c.args.done.records +◌) c.records_of.ensures) c.if-lines-count.true

pub overflow_mul-records : goal.overflow_mul-records
overflow_mul-records c = omega (arith, total_few)

pub returns-then-values-records : goal.returns-then-values-records
returns-then-values-records c =
    found_values_full _ _ _ _ _ _ (ap (c.args.done.records +◌) c.records_of.ensures) c.if-values-records.true

pub write_line-end-requires : goal.write_line-end-requires
write_line-end-requires c =
    line_of _ _ _ _ _ _ (ap (c.args.done.records +◌) c.records_of.ensures) c.requires c.if-lines-count.false
    c.if-values-records.false (omega arith)

pub returns : goal.returns
returns c =
    found_written _ _ _ _ _ _ (ap (c.args.done.records +◌) c.records_of.ensures) _ _ _ c.if-lines-count.false
    c.if-values-records.false c.write_line-end.ensures
