-- `scanning::try_rules` meets its contract. The loop's invariant: what the rules that are left show, all rules show. Assumes nothing.
use mathlib.Core.Path.{ap, ◌∙◌}
use native.Mathlib.Omega.{arith}
use Rattle.std.proofs.lemmas.Result.{err_from_is_err_and}
use Rattle.std.specs.declared.result.Result.TheVariants.{Ok}
use borrow.Author.Rules.{rules}
use Rattle.scanning.proofs.Rules.{same_tables, left_none, left_next, left_form, left_refused}
use Rattle.scanning.proofs.try_rules.Goals as goal

pub returns-in_err-n : goal.returns-in_err-n
returns-in_err-n c =
    let e = err_from_is_err_and c.from_residual.result c.from_residual.ensures.1 in
    rw (e.1, e.2) (left_refused _ _ _ _ c.loop-i.invariant.1 (omega arith) _ _ c.try_place.ensures _ c.in_err-n.was)

pub returns-in-Some : goal.returns-in-Some
returns-in-Some c = left_form _ _ _ _ c.loop-i.invariant.1 (omega arith) _ _ c.try_place.ensures _ (c.in_ok-n.was ∙ ap Ok c.in-Some.is)

pub loop-i-preserved : goal.loop-i-preserved
loop-i-preserved c = (
  search (rules, same_tables),
  left_next _ _ _ _ c.loop-i.invariant.1 (omega arith) _ _ c.try_place.ensures (c.in_ok-n.was ∙ ap Ok c.in_default.is),
)

pub returns : goal.returns
returns c = λ t e. left_none _ _ _ _ c.loop-i.invariant.1 (omega arith) (omega arith) t e _
