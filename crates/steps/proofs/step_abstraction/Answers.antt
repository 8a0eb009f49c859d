-- `steps::step_abstraction` meets its contract. The body's goal is written at the top, with the target's body or with `@ t #0`
-- written before it as its target. Assumes nothing.
use Rattle.steps.proofs.Descents.{applies, body_pushed, applied_written, applied_pushed}
use borrow.Author.Rules.{rules}
use Rattle.steps.proofs.step_abstraction.Goals as goal

pub returns-then-work-target : goal.returns-then-work-target
returns-then-work-target c = search (rules, body_pushed)

pub apply_into-end-requires : goal.apply_into-end-requires
apply_into-end-requires c = search (rules, applies)

pub keep_heights-requires : goal.keep_heights-requires
keep_heights-requires c = search (rules, applied_written)

pub returns : goal.returns
returns c =
    applied_pushed _ _ _ _ _ c.requires.0 c.requires.1 _ _ c.if-work-target.false c.apply_into-end.ensures _
    c.keep_heights.ensures _ c.put_goal-2.ensures
