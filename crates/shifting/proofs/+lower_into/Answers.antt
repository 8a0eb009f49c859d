-- `shifting::lower_into` meets its contract. Each record is written as its term's, moved out, and a part's bytes follow its record's;
-- where a local forbids it, only bytes from the first written on have changed. The measure is the length of the slice. Assumes nothing.
use mathlib.Core.Path.{◌∙◌}
use native.Mathlib.Omega.{arith}
use Rattle.std.specs.declared.option.Option.TheVariants.{Some, None}
use Rattle.records.proofs.Tests.{says}
use Rattle.shifting.proofs.Slices.{shorter, shorter_behind}
use Rattle.shifting.proofs.Lowering.{lowers_whole, lowers_head, lowers_argument, lowers_body, lowered_ends}
use Rattle.shifting.proofs.Lowering.{lowered_passed, lowered_near, lowered_application, lowered_stop, lowered_near_body}
use Rattle.shifting.proofs.Lowering.{lowered_abstraction, lowered_local, lowered_local_no, lowered_other}
use borrow.Author.Rules.{rules}
use Rattle.shifting.proofs.+lower_into.Goals as goal

pub lower_into-requires : goal.lower_into-requires
lower_into-requires t c = (search (rules, shorter), search (rules, lowers_head))

pub returns-in_err-next : goal.returns-in_err-next
returns-in_err-next t c =
    rw c.from_residual.ensures (lowered_stop _ _ _ _ _ _ _ c.if-kind.true c.put_record.ensures c.in_err-next.ensures)

pub overflow_add-next : goal.overflow_add-next
overflow_add-next t c = omega (arith, (lowered_passed _ _ _ _ _ _ _ _ c.requires c.if-kind.true c.in_ok-next.ensures).0)

pub slice_bounds-lower_into-count-then-kind : goal.slice_bounds-lower_into-count-then-kind
slice_bounds-lower_into-count-then-kind t c = (lowered_passed _ _ _ _ _ _ _ _ c.requires c.if-kind.true c.in_ok-next.ensures).0

pub slice_bounds-lower_into-start-then-kind : goal.slice_bounds-lower_into-start-then-kind
slice_bounds-lower_into-start-then-kind t c = (lowered_passed _ _ _ _ _ _ _ _ c.requires c.if-kind.true c.in_ok-next.ensures).0

pub overflow_add-o-then-kind : goal.overflow_add-o-then-kind
overflow_add-o-then-kind t c = omega (arith, (lowered_passed _ _ _ _ _ _ _ _ c.requires c.if-kind.true c.in_ok-next.ensures).1)

pub lower_into-requires-then-kind : goal.lower_into-requires-then-kind
lower_into-requires-then-kind t c =
    let e = lowered_ends _ _ _ _ _ _ _ c.in_ok-next.ensures in (
      search (rules, shorter_behind),
      lowers_argument _ _ _ _ _ _ (c.lower_into.auto.out ∙ c.put_record.auto.out) c.requires _ c.if-kind.true e,
    )

pub returns-in_err-lower_into : goal.returns-in_err-lower_into
returns-in_err-lower_into t c =
    rw c.from_residual-in_err-lower_into.ensures
    (lowered_application _ _ _ _ _ _ _ c.if-kind.true c.put_record.ensures _ c.in_ok-next.ensures _ None
    (lowers_whole _ _ _ _ _ c.requires) c.in_err-lower_into.ensures)

pub overflow_add-result : goal.overflow_add-result
overflow_add-result t c =
    omega (
      arith,
      lowered_near _ _ _ _ _ _ _ c.if-kind.true c.put_record.ensures _ c.in_ok-next.ensures _ _ _ c.requires c.in_ok-lower_into.ensures,
    )

pub returns-then-kind : goal.returns-then-kind
returns-then-kind t c =
    lowered_application _ _ _ _ _ _ _ c.if-kind.true c.put_record.ensures _ c.in_ok-next.ensures _ (Some c.in_ok-lower_into.field-0)
    (lowers_whole _ _ _ _ _ c.requires) c.in_ok-lower_into.ensures

pub lower_into-requires-then-kind-2 : goal.lower_into-requires-then-kind-2
lower_into-requires-then-kind-2 t c = (search (rules, shorter), search (rules, lowers_body))

pub returns-in_err-lower_into-2 : goal.returns-in_err-lower_into-2
returns-in_err-lower_into-2 t c =
    rw c.from_residual-in_err-lower_into-2.ensures
    (lowered_abstraction _ _ _ _ _ _ _ c.if-kind-2.true None c.put_record-then-kind-2.ensures c.in_err-lower_into-2.ensures)

pub overflow_add-result-then-kind-2 : goal.overflow_add-result-then-kind-2
overflow_add-result-then-kind-2 t c =
    omega (arith, lowered_near_body _ _ _ _ c.args.out.now _ _ c.if-kind-2.true _ _ c.requires c.in_ok-lower_into-2.ensures)

pub returns-then-kind-2 : goal.returns-then-kind-2
returns-then-kind-2 t c =
    lowered_abstraction _ _ _ _ _ _ _ c.if-kind-2.true (Some c.in_ok-lower_into-2.field-0) c.put_record-then-kind-2.ensures
    c.in_ok-lower_into-2.ensures

pub returns-then-is_inside : goal.returns-then-is_inside
returns-then-is_inside t c =
    lowered_local_no _ _ _ _ _ _ c.number_at-n.ensures.0 c.if-kind-3.true
    (says _ _ _ c.is_inside.ensures c.if-is_inside.true)

pub returns-then-kind-3 : goal.returns-then-kind-3
returns-then-kind-3 t c =
    lowered_local _ _ _ _ _ _ c.number_at-n.ensures.0 _ _ (lowers_whole _ _ _ _ _ c.requires) c.if-kind-3.true
    (says _ _ _ c.is_inside.ensures c.if-is_inside.false) c.unshifted.ensures.0 c.put_record-then-kind-3.ensures

pub returns : goal.returns
returns t c = search (rules, lowered_other, lowers_whole)
