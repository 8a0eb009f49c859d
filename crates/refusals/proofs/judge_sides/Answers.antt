-- `refusals::judge_sides` meets its contract: a variable of either side that lacks a value is one of both. Assumes nothing.
use Rattle.terms.specs.Refusal.{OccursIn}
use Rattle.refusals.proofs.Judging.{judged_on, side_stop, side_next}
use Rattle.refusals.proofs.judge_sides.Goals as goal

pub returns-in_err-judge_assignment : goal.returns-in_err-judge_assignment
returns-in_err-judge_assignment c =
    judged_on _ _ _ _ c.from_residual.ensures.1
    (side_stop (OccursIn c.args.left.now) (OccursIn c.args.right.now) _ _ _ _ _ c.in_err-judge_assignment.ensures)

pub returns : goal.returns
returns c =
    side_next (OccursIn c.args.left.now) (OccursIn c.args.right.now) _ _ _ _ _ c.in_ok-judge_assignment.ensures
    c.judge_assignment-2.ensures
