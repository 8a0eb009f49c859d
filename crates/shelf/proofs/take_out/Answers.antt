-- `shelf::take_out` meets its contract. Assumes nothing.
use native.Mathlib.Omega.{arith}
use Rattle.std.proofs.lemmas.Result.{err_from_is_err_and}
use Rattle.shelf.proofs.Answers.{take_out_refused, take_out_storable, take_out_done}
use Rattle.shelf.proofs.take_out.Goals as goal

pub returns-in_err-judge_kept : goal.returns-in_err-judge_kept
returns-in_err-judge_kept c =
    let p = err_from_is_err_and c.from_residual.result c.from_residual.ensures.1 in
    rw (p.1, p.2) (take_out_refused _ _ _ _ c.in_err-judge_kept.ensures)

pub store-requires : goal.store-requires
store-requires c = take_out_storable _ _ _ c.in_ok-judge_kept.ensures _ (omega arith)

pub returns : goal.returns
returns c = take_out_done _ _ _ c.in_ok-judge_kept.ensures _ _ c.store.ensures
