-- `rewriting::judge_sweep` meets its contract: the last step refuses where the rows of the steps before it passed. Assumes nothing.
use Rattle.refusals.proofs.Judging.{judged_on, judged_and}
use Rattle.rewriting.proofs.Judges.{sweep_stop, sweep_known, sweep_judged}
use Rattle.rewriting.proofs.judge_sweep.Goals as goal

pub returns-in_err-and : goal.returns-in_err-and
returns-in_err-and c =
    judged_on _ _ _ _ c.from_residual.ensures.1
    (sweep_stop _ _ _ _ c.judge_tables-tables.ensures c.args.pattern.now c.args.out.now _
    (rw c.and-terms.ensures (judged_and _ _ _ _ _ _ c.judge_table.ensures c.judge_pattern.ensures)) _ c.in_err-and.ensures)

pub judge_assignment-requires : goal.judge_assignment-requires
judge_assignment-requires c =
    sweep_known _ _ _ _ c.judge_tables-tables.ensures c.args.pattern.now c.args.out.now _
    (rw c.and-terms.ensures (judged_and _ _ _ _ _ _ c.judge_table.ensures c.judge_pattern.ensures)) c.in_ok-and.ensures

pub returns : goal.returns
returns c =
    sweep_judged _ _ _ _ c.judge_tables-tables.ensures c.args.pattern.now c.args.out.now _
    (rw c.and-terms.ensures (judged_and _ _ _ _ _ _ c.judge_table.ensures c.judge_pattern.ensures)) c.in_ok-and.ensures
    _ c.judge_assignment.ensures
