-- `steps::step_rigid` meets its contract. The head sweeps to no abstraction, so that the target is an application and its parts are
-- the targets of the two goals. Assumes nothing.
use Rattle.steps.proofs.Descents.{application_head_whole, target_head_whole, rigid_missed, argument_near, step_parts_pushed}
use borrow.Author.Rules.{rules}
use Rattle.steps.proofs.step_rigid.Goals as goal

pub returns-then-work-target : goal.returns-then-work-target
returns-then-work-target c = search (rules, rigid_missed)

pub end_at-requires : goal.end_at-requires
end_at-requires c = search (rules, application_head_whole)

pub end_at-requires-2 : goal.end_at-requires-2
end_at-requires-2 c = search (rules, target_head_whole)

pub put_goal-requires : goal.put_goal-requires
put_goal-requires c =
    let near = argument_near _ _ _ _ _ c.requires.0 _ c.if-work-target.false c.end_at-2.ensures in
    search (rules, near)

pub returns : goal.returns
returns c = search (rules, step_parts_pushed)
