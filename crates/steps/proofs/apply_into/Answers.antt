-- `steps::apply_into` meets its contract. The three runs of bytes are the table of the application, since a shifted target has the
-- target's records and fits the array. Assumes nothing.
use native.Mathlib.Omega.{arith}
use Rattle.steps.proofs.Descents.{apply_source, apply_most, expanded}
use borrow.Author.Rules.{rules}
use Rattle.steps.proofs.apply_into.Goals as goal

pub shift_into-copy-requires : goal.shift_into-copy-requires
shift_into-copy-requires c = search (rules, apply_source)

pub slice_bounds-copy_into-end : goal.slice_bounds-copy_into-end
slice_bounds-copy_into-end c =
    omega (arith, apply_most _ _ _ c.requires _ _ _ _ c.shift_into-copy.ensures)

pub returns : goal.returns
returns c = search (rules, expanded)
