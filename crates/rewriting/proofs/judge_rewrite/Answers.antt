-- `rewriting::judge_rewrite` meets its contract: the last step refuses where the rows of the steps before it passed. Assumes nothing.
use Rattle.refusals.proofs.Judging.{judged_on}
use Rattle.rewriting.proofs.Judges.{rewrite_terms, rewrite_stop, rewrite_known, rewrite_judged}
use Rattle.rewriting.proofs.judge_rewrite.Goals as goal

pub returns-in_err-and : goal.returns-in_err-and
returns-in_err-and c =
    judged_on _ _ _ _ c.from_residual.ensures.1
    (rewrite_stop _ _ _ _ c.judge_tables-tables.ensures c.args.left.now c.args.right.now c.args.recipe.now c.args.out.now _
    (rw (c.and-terms.ensures, c.and.ensures, c.and-behind.ensures)
    (rewrite_terms _ _ _ _ _ _ _ _ c.judge_table.ensures c.judge_pattern-2.ensures c.judge_recipe.ensures c.judge_pattern.ensures))
    _ c.in_err-and.ensures)

pub judge_sides-requires : goal.judge_sides-requires
judge_sides-requires c =
    rewrite_known _ _ _ _ c.judge_tables-tables.ensures c.args.left.now c.args.right.now c.args.recipe.now c.args.out.now _
    (rw (c.and-terms.ensures, c.and.ensures, c.and-behind.ensures)
    (rewrite_terms _ _ _ _ _ _ _ _ c.judge_table.ensures c.judge_pattern-2.ensures c.judge_recipe.ensures c.judge_pattern.ensures))
    c.in_ok-and.ensures

pub returns : goal.returns
returns c =
    rewrite_judged _ _ _ _ c.judge_tables-tables.ensures c.args.left.now c.args.right.now c.args.recipe.now c.args.out.now _
    (rw (c.and-terms.ensures, c.and.ensures, c.and-behind.ensures)
    (rewrite_terms _ _ _ _ _ _ _ _ c.judge_table.ensures c.judge_pattern-2.ensures c.judge_recipe.ensures c.judge_pattern.ensures))
    c.in_ok-and.ensures _ c.judge_sides.ensures
