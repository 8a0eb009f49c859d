-- `refusals::judge_room` meets its contract: the work area is judged where the value table's row passed. Assumes nothing.
use Rattle.refusals.proofs.Judging.{judged_on, judged_stop, judged_both, bad_area, good_area}
use Rattle.refusals.proofs.judge_room.Goals as goal

pub returns-in_err-judge_table : goal.returns-in_err-judge_table
returns-in_err-judge_table c = judged_on _ _ _ _ c.from_residual.ensures.1 (judged_stop _ _ _ _ _ c.in_err-judge_table.ensures)

pub returns-then-work-ne-TABLE_BYTES : goal.returns-then-work-ne-TABLE_BYTES
returns-then-work-ne-TABLE_BYTES c =
    judged_both _ _ _ _ _ c.in_ok-judge_table.ensures (bad_area c.args.work.now c.if-work-ne-TABLE_BYTES.true)

pub returns : goal.returns
returns c = judged_both _ _ _ _ _ c.in_ok-judge_table.ensures (good_area c.args.work.now c.if-work-ne-TABLE_BYTES.false)
