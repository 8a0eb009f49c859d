-- `steps::step_flexible` meets its contract. A local that the part lacks rules out every assignment; else the goal moves as it is
-- to those deferred. Assumes nothing.
use Rattle.steps.proofs.Descents.{step_locals, flexible_missed, deferred_as_is}
use borrow.Author.Rules.{rules}
use Rattle.steps.proofs.step_flexible.Goals as goal

pub lacks_local-requires : goal.lacks_local-requires
lacks_local-requires c = search (rules, step_locals)

pub returns-then-lacks_local : goal.returns-then-lacks_local
returns-then-lacks_local c = search (rules, flexible_missed)

pub returns : goal.returns
returns c = search (rules, deferred_as_is)
