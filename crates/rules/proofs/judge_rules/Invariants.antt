-- `rules::judge_rules` meets its contract. The loop's invariant: the verdict on the rules that are left is that on all. Assumes nothing.
use Rattle.rules.proofs.Rules.{RulesLeft}
use Rattle.rules.proofs.judge_rules.Given as goal

abbrev pub invariant-loop-i : goal.invariant-loop-i
invariant-loop-i l = RulesLeft l.book l.i
