-- `shelf::judge_kept` meets its contract. Assumes nothing.
use Rattle.refusals.proofs.Judging.{known, judged_on}
use Rattle.shelf.proofs.Judges.{kept_buoy, kept_directory, kept_held, kept_judged}
use Rattle.shelf.proofs.judge_kept.Goals as goal

pub returns-in_err-judge_buoy : goal.returns-in_err-judge_buoy
returns-in_err-judge_buoy c = judged_on _ _ _ _ c.from_residual.ensures.1 (kept_buoy _ _ _ _ c.in_err-judge_buoy.ensures)

pub returns-in_err-judge_directory : goal.returns-in_err-judge_directory
returns-in_err-judge_directory c =
    judged_on _ _ _ _ c.from_residual-in_err-judge_directory.ensures.1
    (kept_directory _ _ _ c.in_ok-judge_buoy.ensures _ c.in_err-judge_directory.ensures)

pub judge_held-requires : goal.judge_held-requires
judge_held-requires c = (known _ _ c.in_ok-judge_buoy.ensures, known _ _ c.in_ok-judge_directory.ensures)

pub returns-in_err-judge_held : goal.returns-in_err-judge_held
returns-in_err-judge_held c =
    judged_on _ _ _ _ c.from_residual-in_err-judge_held.ensures.1
    (kept_held _ _ _ c.in_ok-judge_buoy.ensures c.in_ok-judge_directory.ensures _ c.in_err-judge_held.ensures)

pub returns : goal.returns
returns c =
    kept_judged _ _ _ c.in_ok-judge_buoy.ensures c.in_ok-judge_directory.ensures _ c.in_ok-judge_held.ensures
    c.judge_record_table.ensures
