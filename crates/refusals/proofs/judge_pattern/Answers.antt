-- `refusals::judge_pattern` meets its contract: each finding of the check is a row of the pattern's. Assumes nothing.
use Rattle.std.specs.declared.result.Result.TheVariants.{Ok, Err}
use Rattle.refusals.proofs.Judging.{judged_on, pattern_judged}
use Rattle.refusals.proofs.judge_pattern.Goals as goal

pub returns-in_err-check_pattern : goal.returns-in_err-check_pattern
returns-in_err-check_pattern c =
    judged_on _ _ _ _ c.from_residual.ensures.1 (pattern_judged _ _ (Err _) c.in_err-check_pattern.ensures)

pub returns : goal.returns
returns c = pattern_judged _ _ (Ok tt) c.in_ok-check_pattern.ensures
