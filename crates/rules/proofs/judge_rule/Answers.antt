-- `rules::judge_rule` meets its contract, from the verdicts on its two sides. Assumes nothing.
use Rattle.refusals.proofs.Judging.{judged_on}
use Rattle.rules.proofs.Rules.{left_side, rule_judged}
use Rattle.rules.proofs.judge_rule.Goals as goal

pub returns-in_err-judge_side : goal.returns-in_err-judge_side
returns-in_err-judge_side c = judged_on _ _ _ _ c.from_residual.ensures.1 (left_side c.args.book.now c.args.i _ c.in_err-judge_side.ensures)

pub returns : goal.returns
returns c = rule_judged c.args.book.now c.args.i _ c.requires c.in_ok-judge_side.ensures c.judge_side-2.ensures
