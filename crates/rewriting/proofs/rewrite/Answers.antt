-- `rewriting::rewrite` meets its contract, from the verdict on its tables, the match and what was put. Assumes nothing.
use Rattle.std.proofs.lemmas.Result.{err_from_is_err_and}
use Rattle.refusals.proofs.Judging.{known}
use Rattle.rewriting.proofs.Answers.{rewritten_lent, rewritten_long, rewritten_no, rewritten_put}
use Rattle.rewriting.proofs.rewrite.Goals as goal

pub returns-in_err-verdict-clause-answer : goal.returns-in_err-verdict-clause-answer
returns-in_err-verdict-clause-answer c =
    let p = err_from_is_err_and c.from_residual.result c.from_residual.ensures.1 in
    rw (p.1, p.2) (rewritten_lent c.args.left.now c.args.right.now c.args.recipe.now c.args.line.now c.args.values.now c.args.out.now
    c.args.work.now
    _ _ c.in_err-verdict.ensures)

pub match_recipe-requires : goal.match_recipe-requires
match_recipe-requires c = let x = known _ _ c.in_ok-verdict.ensures in (x.0.0, x.1)

pub returns-in_err-is_match-clause-answer : goal.returns-in_err-is_match-clause-answer
returns-in_err-is_match-clause-answer c =
    let p = err_from_is_err_and c.from_residual-in_err-is_match.result c.from_residual-in_err-is_match.ensures.1 in
    rw (p.1, p.2) (rewritten_long c.args.left.now c.args.right.now c.args.recipe.now c.args.line.now c.args.values.now c.args.out.now
    c.args.work.now
    _ c.in_ok-verdict.ensures _ c.in_err-is_match.ensures)

pub returns-then-not-is_match-clause-answer : goal.returns-then-not-is_match-clause-answer
returns-then-not-is_match-clause-answer c =
    rewritten_no c.args.left.now c.args.right.now c.args.recipe.now c.args.line.now c.args.values.now c.args.out.now c.args.work.now
    _ c.in_ok-verdict.ensures _ c.in_ok-is_match.ensures c.if-not-is_match.true

pub put_normal-requires : goal.put_normal-requires
put_normal-requires c = let x = known _ _ c.in_ok-verdict.ensures in x.0.1

pub returns-clause-answer : goal.returns-clause-answer
returns-clause-answer c =
    rewritten_put c.args.left.now c.args.right.now c.args.recipe.now c.args.line.now c.args.values.now c.args.out.now c.args.work.now
    _ c.in_ok-verdict.ensures _ c.in_ok-is_match.ensures c.if-not-is_match.false _ _ c.put_normal.ensures
