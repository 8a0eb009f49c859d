-- `instances::is_substituted` meets its contract. Each branch is one law of a part compared with a substituted one, by the kind that both
-- first records have; the measure is the length of the body's slice. Assumes nothing.
use native.Mathlib.Omega.{arith}
use Rattle.std.specs.declared.option.Option.TheVariants.{Some, None}
use Rattle.shifting.proofs.Slices.{shorter, shorter_behind}
use Rattle.instances.proofs.Instances.{substituted_near, substituted_kinds, substitutes_head, substitutes_argument}
use Rattle.instances.proofs.Instances.{substituted_passed, substituted_app, substituted_stop, substitutes_body, substituted_lam}
use Rattle.instances.proofs.Instances.{substituted_other_says}
use borrow.Author.Rules.{rules}
use Rattle.instances.proofs.+is_substituted.Goals as goal

pub returns-then-kind-t : goal.returns-then-kind-t
returns-then-kind-t t c = search (rules, substituted_kinds)

pub is_substituted-requires : goal.is_substituted-requires
is_substituted-requires t c = (search (rules, shorter), search (rules, substitutes_head))

pub returns-in_err-head : goal.returns-in_err-head
returns-in_err-head t c = rw c.from_residual.ensures (substituted_stop _ _ _ _ c.if-kind-t.false c.if-kind-2.true c.in_err-head.ensures)

pub overflow_add-n : goal.overflow_add-n
overflow_add-n t c =
    omega (
      arith,
      (substituted_passed _ _ _ _ c.if-kind-t.false c.if-kind-2.true _ c.in_ok-head.ensures
          c.requires).0,
    )

pub overflow_add-m : goal.overflow_add-m
overflow_add-m t c =
    omega (
      arith,
      (substituted_passed _ _ _ _ c.if-kind-t.false c.if-kind-2.true _ c.in_ok-head.ensures
          c.requires).1,
    )

pub slice_bounds-is_substituted-count-then-kind-2-2 : goal.slice_bounds-is_substituted-count-then-kind-2-2
slice_bounds-is_substituted-count-then-kind-2-2 t c =
    (substituted_passed _ _ _ _ c.if-kind-t.false c.if-kind-2.true _ c.in_ok-head.ensures
    c.requires).0

pub slice_bounds-is_substituted-start-then-kind-2-2 : goal.slice_bounds-is_substituted-start-then-kind-2-2
slice_bounds-is_substituted-start-then-kind-2-2 t c =
    (substituted_passed _ _ _ _ c.if-kind-t.false c.if-kind-2.true _ c.in_ok-head.ensures
    c.requires).0

pub slice_bounds-is_substituted-count-then-kind-2-3 : goal.slice_bounds-is_substituted-count-then-kind-2-3
slice_bounds-is_substituted-count-then-kind-2-3 t c =
    (substituted_passed _ _ _ _ c.if-kind-t.false c.if-kind-2.true _ c.in_ok-head.ensures
    c.requires).1

pub slice_bounds-is_substituted-start-then-kind-2-3 : goal.slice_bounds-is_substituted-start-then-kind-2-3
slice_bounds-is_substituted-start-then-kind-2-3 t c =
    (substituted_passed _ _ _ _ c.if-kind-t.false c.if-kind-2.true _ c.in_ok-head.ensures
    c.requires).1

pub is_substituted-requires-then-kind-2 : goal.is_substituted-requires-then-kind-2
is_substituted-requires-then-kind-2 t c = (
  search (rules, shorter_behind),
  substitutes_argument _ _ _ _ c.if-kind-t.false c.if-kind-2.true _ c.in_ok-head.ensures c.requires,
)

pub returns-in_err-argument : goal.returns-in_err-argument
returns-in_err-argument t c =
    rw c.from_residual-in_err-argument.ensures
    (substituted_app _ _ _ _ c.if-kind-t.false c.if-kind-2.true _ c.in_ok-head.ensures None c.in_err-argument.ensures)

pub behind-requires : goal.behind-requires
behind-requires t c = substituted_near _ _ _ _ _ _ _ _ c.requires c.in_ok-argument.ensures

pub returns-then-kind-2 : goal.returns-then-kind-2
returns-then-kind-2 t c =
    rw c.behind.ensures
    (substituted_app _ _ _ _ c.if-kind-t.false c.if-kind-2.true _ c.in_ok-head.ensures (Some _)
    c.in_ok-argument.ensures)

pub is_substituted-requires-then-kind-3 : goal.is_substituted-requires-then-kind-3
is_substituted-requires-then-kind-3 t c = (search (rules, shorter), search (rules, substitutes_body))

pub returns-in_err-body : goal.returns-in_err-body
returns-in_err-body t c =
    rw c.from_residual-in_err-body.ensures (substituted_lam _ _ _ _ c.if-kind-t.false c.if-kind-3.true None c.in_err-body.ensures)

pub behind-requires-then-kind-3 : goal.behind-requires-then-kind-3
behind-requires-then-kind-3 t c = substituted_near _ _ _ _ _ _ _ _ c.requires c.in_ok-body.ensures

pub returns-then-kind-3 : goal.returns-then-kind-3
returns-then-kind-3 t c =
    rw c.behind-then-kind-3.ensures
    (substituted_lam _ _ _ _ c.if-kind-t.false c.if-kind-3.true (Some _) c.in_ok-body.ensures)

pub returns : goal.returns
returns t c =
    rw c.then_some.ensures
    (substituted_other_says _ _ _ _ c.if-kind-t.false _ _ c.number_at.ensures.0 c.number_at-2.ensures.0
    (record { no_application = c.if-kind-2.false; no_abstraction = c.if-kind-3.false; no_local = c.if-kind.false }) c.requires.body
    c.requires.target)
