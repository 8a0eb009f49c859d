-- `scanning::try_rules` meets its contract. The loop's invariant: what the rules that are left show, all rules show. Assumes nothing.
use Rattle.scanning.proofs.Rules.{RulesLeft}
use Rattle.scanning.specs.Steps.{RuleTables}
use Rattle.scanning.proofs.try_rules.Given as goal

abbrev pub invariant-loop-i : goal.invariant-loop-i
invariant-loop-i l = RuleTables l.book l.lines l.values l.work × RulesLeft l.book l.part l.pairs l.i
