-- `sides::sweep_side` meets its contract: the entries of the line give the values that fill the pattern. Assumes nothing.
use Rattle.sides.proofs.Sides.{fillable, swept_side_of}
use borrow.Author.Rules.{rules}
use Rattle.sides.proofs.sweep_side.Goals as goal

pub sweep_filled-requires : goal.sweep_filled-requires
sweep_filled-requires c = search (rules, fillable)

pub returns : goal.returns
returns c = search (rules, swept_side_of)
