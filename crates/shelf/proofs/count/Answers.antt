-- `shelf::count` meets its contract. Assumes nothing.
use Rattle.std.proofs.lemmas.Result.{err_from_is_err_and}
use Rattle.refusals.proofs.Judging.{known}
use Rattle.shelf.proofs.Answers.{count_refused, count_done}
use borrow.Author.Rules.{rules}
use Rattle.shelf.proofs.count.Goals as goal

pub returns-in_err-judge_directory : goal.returns-in_err-judge_directory
returns-in_err-judge_directory c =
    let p = err_from_is_err_and c.from_residual.result c.from_residual.ensures.1 in
    rw (p.1, p.2) (count_refused _ _ c.in_err-judge_directory.ensures)

pub count_of-requires : goal.count_of-requires
count_of-requires c = let k = known _ _ c.in_ok-judge_directory.ensures in search (rules, k)

pub returns : goal.returns
returns c = count_done _ c.in_ok-judge_directory.ensures _ c.count_of.ensures.0 c.count_of.ensures.1
