-- `normalizing::sweep_again` meets its contract: a table without variables needs no values, and its swept form is copied back. Assumes
-- nothing.
use native.Mathlib.Omega.{arith}
use Rattle.normalizing.proofs.Sweeps.{fillable_again, again_long, again_table, again_records}
use borrow.Author.Rules.{rules}
use Rattle.normalizing.proofs.sweep_again.Goals as goal

pub sweep_filled-requires : goal.sweep_filled-requires
sweep_filled-requires c = search (rules, fillable_again)

pub returns-in_err-m : goal.returns-in_err-m
returns-in_err-m c = rw c.from_residual.ensures (search (rules, again_long, c.in_err-m.was))

pub overflow_mul-m : goal.overflow_mul-m
overflow_mul-m c =
    let x = again_table _ _ _ _ c.requires _ _ _ c.sweep_filled.ensures _ c.in_ok-m.was (omega arith) in
    search rules

pub slice_bounds-copy_into-end : goal.slice_bounds-copy_into-end
slice_bounds-copy_into-end c =
    let x = again_table _ _ _ _ c.requires _ _ _ c.sweep_filled.ensures _ c.in_ok-m.was (omega arith) in
    search rules

pub returns : goal.returns
returns c = search (rules, again_records, c.in_ok-m.was)
