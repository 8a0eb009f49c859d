-- `joins::joining::join_into` meets its contract. The parts of two targets are joined one after another, and as many records are written
-- as either has; the measure is the length of the first slice. Assumes nothing.
use mathlib.Core.Path.{refl, ◌∙◌}
use native.Mathlib.Omega.{arith}
use Rattle.records.proofs.Slices.{slice_length}
use Rattle.joins.proofs.Joins.{joins_head, joins_argument, joins_body, joined_passed, near_argument, near_body, joined_kinds}
use Rattle.joins.proofs.Joins.{joined_application, joined_stop, joined_abstraction, alike_other}
use borrow.Author.Rules.{rules}
use Prim.Native.Nat.{◌+◌}
use Rattle.std.specs.declared.option.Option.TheVariants.{Some, None}
use Rattle.joins.proofs.joining.+join_into.Goals as goal

pub returns-then-kind-second : goal.returns-then-kind-second
returns-then-kind-second t c = joined_kinds c.if-kind-second.true

pub join_into-requires : goal.join_into-requires
join_into-requires t c =
    let n = slice_length c.args.first.now 4 in
    (omega arith, joins_head c.put_record.auto.out c.requires c.if-kind-second.false c.if-kind.true)

pub returns-in_err-head : goal.returns-in_err-head
returns-in_err-head t c =
    rw c.from_residual.ensures
    (joined_stop c.if-kind-second.false c.if-kind.true c.put_record.ensures c.in_err-head.was c.join_into.ensures)

pub overflow_add-next : goal.overflow_add-next
overflow_add-next t c =
    omega (arith, (joined_passed refl c.requires c.if-kind-second.false c.if-kind.true c.in_ok-head.was c.join_into.ensures).0)

pub slice_bounds-join_into-count-then-kind-2 : goal.slice_bounds-join_into-count-then-kind-2
slice_bounds-join_into-count-then-kind-2 t c =
    (joined_passed refl c.requires c.if-kind-second.false c.if-kind.true c.in_ok-head.was c.join_into.ensures).0

pub slice_bounds-join_into-start-then-kind-2 : goal.slice_bounds-join_into-start-then-kind-2
slice_bounds-join_into-start-then-kind-2 t c =
    (joined_passed refl c.requires c.if-kind-second.false c.if-kind.true c.in_ok-head.was c.join_into.ensures).0

pub slice_bounds-join_into-count-then-kind-3 : goal.slice_bounds-join_into-count-then-kind-3
slice_bounds-join_into-count-then-kind-3 t c =
    (joined_passed refl c.requires c.if-kind-second.false c.if-kind.true c.in_ok-head.was c.join_into.ensures).1

pub slice_bounds-join_into-start-then-kind-3 : goal.slice_bounds-join_into-start-then-kind-3
slice_bounds-join_into-start-then-kind-3 t c =
    (joined_passed refl c.requires c.if-kind-second.false c.if-kind.true c.in_ok-head.was c.join_into.ensures).1

pub overflow_add-o-then-kind : goal.overflow_add-o-then-kind
overflow_add-o-then-kind t c =
    omega (arith, (joined_passed refl c.requires c.if-kind-second.false c.if-kind.true c.in_ok-head.was c.join_into.ensures).2)

pub join_into-requires-then-kind : goal.join_into-requires-then-kind
join_into-requires-then-kind t c =
    let n = slice_length c.args.first.now (4 + c.in_ok-head.head) in (
      omega arith,
      joins_argument (c.join_into.auto.out ∙ c.put_record.auto.out) c.requires
          c.if-kind-second.false c.if-kind.true c.in_ok-head.was c.join_into.ensures,
    )

pub returns-in_err-argument : goal.returns-in_err-argument
returns-in_err-argument t c =
    rw c.from_residual-in_err-argument.ensures
    (joined_application c.if-kind-second.false c.if-kind.true c.put_record.ensures None c.in_ok-head.was c.join_into.ensures
    c.in_err-argument.ensures)

pub overflow_add-result : goal.overflow_add-result
overflow_add-result t c =
    omega (arith, near_argument c.requires c.if-kind.true c.in_ok-head.was c.join_into.ensures c.in_ok-argument.ensures)

pub returns-then-kind : goal.returns-then-kind
returns-then-kind t c =
    joined_application c.if-kind-second.false c.if-kind.true c.put_record.ensures (Some _) c.in_ok-head.was c.join_into.ensures
    c.in_ok-argument.ensures

pub join_into-requires-then-kind-2 : goal.join_into-requires-then-kind-2
join_into-requires-then-kind-2 t c =
    let n = slice_length c.args.first.now 4 in
    (omega arith, joins_body c.put_record-then-kind-2.auto.out c.requires c.if-kind-second.false c.if-kind-2.true)

pub returns-in_err-body : goal.returns-in_err-body
returns-in_err-body t c =
    rw c.from_residual-in_err-body.ensures
    (joined_abstraction None c.if-kind-second.false c.if-kind-2.true c.put_record-then-kind-2.ensures c.in_err-body.ensures)

pub overflow_add-result-then-kind-2 : goal.overflow_add-result-then-kind-2
overflow_add-result-then-kind-2 t c = omega (arith, near_body c.requires c.if-kind-2.true c.in_ok-body.ensures)

pub returns-then-kind-2 : goal.returns-then-kind-2
returns-then-kind-2 t c =
    joined_abstraction (Some _) c.if-kind-second.false c.if-kind-2.true c.put_record-then-kind-2.ensures c.in_ok-body.ensures

pub same_leaf_into-requires : goal.same_leaf_into-requires
same_leaf_into-requires t c = search (rules, alike_other)
