-- `rewriting::check` meets its contract, from the verdict on its tables and from the match. Assumes nothing.
use Rattle.std.proofs.lemmas.Result.{err_from_is_err_and}
use Rattle.refusals.proofs.Judging.{known}
use Rattle.rewriting.proofs.Answers.{checked_lent, checked_matched}
use Rattle.rewriting.proofs.check.Goals as goal

pub returns-in_err-verdict-clause-answer : goal.returns-in_err-verdict-clause-answer
returns-in_err-verdict-clause-answer c =
    let p = err_from_is_err_and c.from_residual.result c.from_residual.ensures.1 in
    rw (p.1, p.2) (checked_lent c.args.pattern.now c.args.recipe.now c.args.line.now c.args.values.now c.args.work.now _ _
    c.in_err-verdict.ensures)

pub match_recipe-requires : goal.match_recipe-requires
match_recipe-requires c = known _ _ c.in_ok-verdict.ensures

pub returns-clause-answer : goal.returns-clause-answer
returns-clause-answer c =
    checked_matched c.args.pattern.now c.args.recipe.now c.args.line.now c.args.values.now c.args.work.now _ _ c.in_ok-verdict.ensures
    c.match_recipe.ensures
