-- `slots::held` meets its contract. Assumes nothing.
use Rattle.slots.proofs.Strings.{part_within, part_held}
use borrow.Author.Rules.{rules}
use Rattle.slots.proofs.held.Goals as goal

pub slice_bounds-result-end : goal.slice_bounds-result-end
slice_bounds-result-end c = search (rules, part_within)

pub returns : goal.returns
returns c = search (rules, part_held)
