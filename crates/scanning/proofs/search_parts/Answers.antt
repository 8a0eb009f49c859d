-- `scanning::search_parts` meets its contract. The loop's invariant: what is sought in the parts that are left is sought in all. Assumes
-- nothing.
use mathlib.Core.Path.{ap, ◌∙◌}
use native.Mathlib.Omega.{arith}
use Rattle.std.proofs.lemmas.Result.{err_from_is_err_and}
use Rattle.std.specs.declared.result.Result.TheVariants.{Ok}
use borrow.Author.Rules.{rules}
use Rattle.scanning.proofs.Rules.{same_tables}
use Rattle.scanning.proofs.Parts.{part_most, parts_refused, parts_form, parts_next}
use Rattle.scanning.proofs.search_parts.Goals as goal

pub returns-in_err-n : goal.returns-in_err-n
returns-in_err-n c =
    let e = err_from_is_err_and c.from_residual.result c.from_residual.ensures.1 in
    rw (e.1, e.2) (parts_refused _ _ c.requires.1 _ _ c.loop-k.invariant.2 (omega arith) _ _ c.try_part.ensures _ c.in_err-n.was)

pub returns-in-Form : goal.returns-in-Form
returns-in-Form c =
    parts_form _ _ c.requires.1 _ _ c.loop-k.invariant.2 (omega arith) _ _ c.try_part.ensures _ _ (c.in_ok-n.was ∙ ap Ok c.in-Form.is)

pub loop-k-preserved : goal.loop-k-preserved
loop-k-preserved c = (
  search (rules, same_tables),
  part_most _ _ _ _ _ c.loop-k.invariant.0 c.requires.1 _ (omega arith) _ c.loop-k.invariant.1 _ _ c.try_part.ensures _
      (c.in_ok-n.was ∙ ap Ok c.in-PassedOver.is),
  parts_next _ _ c.requires.1 _ _ c.loop-k.invariant.2 (omega arith) _ _ c.try_part.ensures _ (c.in_ok-n.was ∙ ap Ok c.in-PassedOver.is),
)
