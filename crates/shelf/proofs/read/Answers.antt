-- `shelf::read` meets its contract. Assumes nothing.
use Rattle.std.proofs.lemmas.Result.{err_from_is_err_and}
use Rattle.refusals.proofs.Judging.{known}
use Rattle.shelf.proofs.Answers.{read_refused, read_bad, read_short, read_done}
use Rattle.shelf.proofs.read.Goals as goal

pub returns-in_err-judge_kept : goal.returns-in_err-judge_kept
returns-in_err-judge_kept c =
    let p = err_from_is_err_and c.from_residual.result c.from_residual.ensures.1 in
    rw (p.1, p.2) (read_refused _ _ _ _ _ c.in_err-judge_kept.ensures)

pub returns-in_err-judge_table : goal.returns-in_err-judge_table
returns-in_err-judge_table c =
    let p = err_from_is_err_and c.from_residual-in_err-judge_table.result c.from_residual-in_err-judge_table.ensures.1 in
    rw (p.1, p.2) (read_bad _ _ _ _ c.in_ok-judge_kept.ensures _ c.in_err-judge_table.ensures)

pub recipe_of-recipe-requires : goal.recipe_of-recipe-requires
recipe_of-recipe-requires c = let k = known _ _ c.in_ok-judge_kept.ensures in (k.within, k.shelf)

pub returns-then-out-recipe : goal.returns-then-out-recipe
returns-then-out-recipe c =
    read_short _ _ _ _ c.in_ok-judge_kept.ensures c.in_ok-judge_table.ensures _ c.recipe_of-recipe.ensures c.if-out-recipe.true

pub returns : goal.returns
returns c =
    read_done _ _ _ _ c.in_ok-judge_kept.ensures c.in_ok-judge_table.ensures _ c.recipe_of-recipe.ensures c.if-out-recipe.false _
    c.copy_into.ensures
