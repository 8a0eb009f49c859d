-- `shelf::judge_put` meets its contract. Assumes nothing.
use Rattle.refusals.proofs.Judging.{known, judged_on}
use Rattle.shelf.proofs.Judges.{put_buoy, put_directory, put_table, put_recipe, put_judged}
use Rattle.shelf.proofs.judge_put.Goals as goal

pub returns-in_err-judge_buoy : goal.returns-in_err-judge_buoy
returns-in_err-judge_buoy c = judged_on _ _ _ _ c.from_residual.ensures.1 (put_buoy _ _ _ _ _ c.in_err-judge_buoy.ensures)

pub returns-in_err-judge_directory : goal.returns-in_err-judge_directory
returns-in_err-judge_directory c =
    judged_on _ _ _ _ c.from_residual-in_err-judge_directory.ensures.1
    (put_directory _ _ _ _ c.in_ok-judge_buoy.ensures _ c.in_err-judge_directory.ensures)

pub returns-in_err-judge_record_table : goal.returns-in_err-judge_record_table
returns-in_err-judge_record_table c =
    judged_on _ _ _ _ c.from_residual-in_err-judge_record_table.ensures.1
    (put_table _ _ _ _ c.in_ok-judge_buoy.ensures c.in_ok-judge_directory.ensures _ c.in_err-judge_record_table.ensures)

pub returns-in_err-judge_recipe : goal.returns-in_err-judge_recipe
returns-in_err-judge_recipe c =
    judged_on _ _ _ _ c.from_residual-in_err-judge_recipe.ensures.1
    (put_recipe _ _ _ _ c.in_ok-judge_buoy.ensures c.in_ok-judge_directory.ensures c.in_ok-judge_record_table.ensures _
    c.in_err-judge_recipe.ensures)

pub judge_room-requires : goal.judge_room-requires
judge_room-requires c = (
  known _ _ c.in_ok-judge_buoy.ensures,
  record { directory = known _ _ c.in_ok-judge_directory.ensures; table = known _ _ c.in_ok-judge_record_table.ensures },
)

pub returns : goal.returns
returns c =
    put_judged _ _ _ _ c.in_ok-judge_buoy.ensures c.in_ok-judge_directory.ensures c.in_ok-judge_record_table.ensures _
    c.in_ok-judge_recipe.ensures c.judge_room.ensures
