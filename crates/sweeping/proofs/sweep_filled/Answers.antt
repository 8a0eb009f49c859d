-- `sweeping::sweep_filled` meets its contract, which is that of `sweep_part` at no binder. Assumes nothing.
use Rattle.sweeping.proofs.Sweeps.{ready_fillable}
use borrow.Author.Rules.{rules}
use Rattle.sweeping.proofs.sweep_filled.Goals as goal

pub sweep_part-requires : goal.sweep_part-requires
sweep_part-requires c = search (rules, ready_fillable)
