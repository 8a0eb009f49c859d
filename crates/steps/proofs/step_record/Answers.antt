-- `steps::step_record` meets its contract. The part sweeps to itself, so that the goal holds of every assignment or of none.
-- Assumes nothing.
use Rattle.steps.proofs.Leaves.{record_met, record_missed}
use borrow.Author.Rules.{rules}
use Rattle.steps.proofs.step_record.Goals as goal

pub returns-then-is_same_record : goal.returns-then-is_same_record
returns-then-is_same_record c = search (rules, record_met)

pub returns : goal.returns
returns c = search (rules, record_missed)
