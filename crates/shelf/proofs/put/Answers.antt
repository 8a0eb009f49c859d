-- `shelf::put` meets its contract. Assumes nothing.
use native.Mathlib.Omega.{arith}
use Rattle.std.proofs.lemmas.Result.{err_from_is_err_and}
use Rattle.shelf.proofs.Answers.{put_refused, put_storable, put_done}
use Rattle.shelf.proofs.put.Goals as goal

pub returns-in_err-judge_put : goal.returns-in_err-judge_put
returns-in_err-judge_put c =
    let p = err_from_is_err_and c.from_residual.result c.from_residual.ensures.1 in
    rw (p.1, p.2) (put_refused _ _ _ _ _ c.in_err-judge_put.ensures)

pub store-requires : goal.store-requires
store-requires c = put_storable _ _ _ _ c.in_ok-judge_put.ensures _ (omega arith)

pub returns : goal.returns
returns c = put_done _ _ _ _ c.in_ok-judge_put.ensures _ _ c.store.ensures
