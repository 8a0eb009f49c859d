-- `refusals::judge_recipe` meets its contract: each finding of the check is a row of the recipe's. Assumes nothing.
use Rattle.std.specs.declared.result.Result.TheVariants.{Ok, Err}
use Rattle.refusals.proofs.Judging.{judged_on, recipe_judged}
use Rattle.refusals.proofs.judge_recipe.Goals as goal

pub returns-in_err-check_recipe : goal.returns-in_err-check_recipe
returns-in_err-check_recipe c =
    judged_on _ _ _ _ c.from_residual.ensures.1 (recipe_judged _ _ (Err _) c.in_err-check_recipe.ensures)

pub returns : goal.returns
returns c = recipe_judged _ _ (Ok tt) c.in_ok-check_recipe.ensures
