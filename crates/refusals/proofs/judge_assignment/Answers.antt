-- `refusals::judge_assignment` meets its contract: what the entries give is what the line stores. Assumes nothing.
use Rattle.refusals.proofs.Judging.{all_ready, one_missing}
use borrow.Author.Rules.{rules}
use Rattle.refusals.proofs.judge_assignment.Goals as goal

pub returns-then-all_given : goal.returns-then-all_given
returns-then-all_given c = search (rules, all_ready)

pub returns : goal.returns
returns c = search (rules, one_missing)
