-- `steps::step_variable` meets its contract. A variable of the pattern has an entry, and the entry says which step is taken.
-- Assumes nothing.
use native.Mathlib.Omega.{arith}
use Rattle.steps.proofs.Leaves.{variable_below, names_of}
use borrow.Author.Rules.{rules}
use Rattle.steps.proofs.step_variable.Goals as goal

pub bounds-entries-i : goal.bounds-entries-i
bounds-entries-i c =
    omega (
      arith,
      variable_below _ _ _ _ _ c.requires.0 c.requires.1,
      c.number_at-i.ensures.0,
    )

pub step_open-requires : goal.step_open-requires
step_open-requires c = search (rules, names_of)
