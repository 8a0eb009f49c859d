-- `matcher::judge_list` meets its contract: the rows of the tables, then those of the pattern and of the recipe. Assumes nothing.
use Rattle.refusals.proofs.Judging.{judged_and}
use Rattle.matcher.proofs.Listed.{judged_list}
use Rattle.matcher.proofs.judge_list.Goals as goal

pub returns : goal.returns
returns c =
    rw (c.and.ensures, c.and-tables.ensures, c.and-sides.ensures)
    (judged_list c.args.pattern.now c.args.recipe.now c.args.lines.now c.args.values.now c.args.work.now _ _
    (judged_and _ _ _ _ _ _ c.judge_table.ensures c.judge_room.ensures)
    (judged_and _ _ _ _ _ _ c.judge_pattern.ensures c.judge_recipe.ensures))
