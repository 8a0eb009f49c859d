-- `rules::judge_rules` meets its contract. The loop's invariant: the verdict on the rules that are left is that on all. Assumes nothing.
use borrow.Author.Rules.{rules}
use Rattle.refusals.proofs.Judging.{judged_on}
use Rattle.rules.proofs.Rules.{rules_left, left_none, left_stop, left_next}
use Rattle.rules.proofs.judge_rules.Goals as goal

pub loop-i-init : goal.loop-i-init
loop-i-init c = rules_left _

pub returns-in_err-judge_rule : goal.returns-in_err-judge_rule
returns-in_err-judge_rule c =
    judged_on _ _ _ _ c.from_residual.ensures.1 (left_stop _ _ c.loop-i.invariant (search rules) _ c.in_err-judge_rule.ensures)

pub loop-i-preserved : goal.loop-i-preserved
loop-i-preserved c = left_next _ _ c.loop-i.invariant (search rules) c.in_ok-judge_rule.ensures

pub returns : goal.returns
returns c = search (rules, left_none)
