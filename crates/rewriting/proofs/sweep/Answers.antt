-- `rewriting::sweep` meets its contract, from the verdict on its tables and from what was put. Assumes nothing.
use Rattle.std.proofs.lemmas.Result.{err_from_is_err_and}
use Rattle.refusals.proofs.Judging.{known}
use Rattle.rewriting.proofs.Answers.{swept_lent, swept_put}
use Rattle.rewriting.proofs.sweep.Goals as goal

pub returns-in_err-verdict-clause-answer : goal.returns-in_err-verdict-clause-answer
returns-in_err-verdict-clause-answer c =
    let p = err_from_is_err_and c.from_residual.result c.from_residual.ensures.1 in
    rw (p.1, p.2) (swept_lent c.args.pattern.now c.args.line.now c.args.values.now c.args.out.now c.args.work.now _ _
    c.in_err-verdict.ensures)

pub put_swept-requires : goal.put_swept-requires
put_swept-requires c = known _ _ c.in_ok-verdict.ensures

pub returns-clause-answer : goal.returns-clause-answer
returns-clause-answer c =
    swept_put c.args.pattern.now c.args.line.now c.args.values.now c.args.out.now c.args.work.now _ _ _ c.in_ok-verdict.ensures
    c.put_swept.ensures
