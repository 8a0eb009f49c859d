-- `steps::step_open` meets its contract. The variable's value is the target, which is a value exactly if it is closed, as the height that
-- is kept of it tells. Assumes nothing.
use Rattle.steps.proofs.Leaves.{open_missed, open_met}
use borrow.Author.Rules.{rules}
use Rattle.steps.proofs.step_open.Goals as goal

pub returns-then-work-place-ne0 : goal.returns-then-work-place-ne0
returns-then-work-place-ne0 c = search (rules, open_missed)

pub returns : goal.returns
returns c = search (rules, open_met)
