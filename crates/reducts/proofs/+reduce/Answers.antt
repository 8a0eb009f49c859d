-- `reduce`, `reduce_application` and `reduce_abstraction` of `reducts` meet their contracts. The reduct of a term follows from those of
-- its parts, whose tables are shorter; the measure is the table's length. Assumes nothing.
use native.Mathlib.Omega.{arith}
use Rattle.reducts.proofs.Reducts.{reduct_too_long, reducible_head, reducible_argument, reducible_body, reduct_few}
use Rattle.reducts.proofs.Reducts.{reduct_within, parts_applicable, reduces_application, reduces_abstraction}
use Rattle.reducts.proofs.Reducts.{reducible_leaf_length, reduces_leaf}
use borrow.Author.Rules.{rules}
use Rattle.reducts.proofs.+reduce.Goals as goal

pub reduce-copy_into-requires : goal.reduce-copy_into-requires
reduce-copy_into-requires t c =
    omega (arith, reducible_leaf_length _ c.if-kind.false c.if-kind-2.false c.requires)

pub reduce-returns : goal.reduce-returns
reduce-returns t c = search (rules, reduces_leaf)

pub reduce_abstraction-reduce-requires : goal.reduce_abstraction-reduce-requires
reduce_abstraction-reduce-requires t c = search (rules, reducible_body)

pub reduce_abstraction-returns-in_err-n : goal.reduce_abstraction-returns-in_err-n
reduce_abstraction-returns-in_err-n t c = rw c.from_residual.ensures (λ x e. reduct_too_long _ _ _)

pub reduce_abstraction-overflow_mul-n : goal.reduce_abstraction-overflow_mul-n
reduce_abstraction-overflow_mul-n t c =
    omega (
      arith,
      reduct_few _ _ _ _ _ c.reduce.ensures c.in_ok-n.was (omega arith)
          (reducible_body _ _ c.requires.0 c.requires.1 c.body_of.ensures.is),
    )

pub reduce_abstraction-returns-then-n-eq-PATTERN_BYTES : goal.reduce_abstraction-returns-then-n-eq-PATTERN_BYTES
reduce_abstraction-returns-then-n-eq-PATTERN_BYTES t c = λ x e. reduct_too_long _ _ _

pub reduce_abstraction-slice_bounds-copy_into-end : goal.reduce_abstraction-slice_bounds-copy_into-end
reduce_abstraction-slice_bounds-copy_into-end t c = search (rules, reduct_within, reducible_body, c.in_ok-n.was)

pub reduce_abstraction-returns : goal.reduce_abstraction-returns
reduce_abstraction-returns t c = search (rules, reduces_abstraction, c.in_ok-n.was)

pub reduce_application-reduce-requires : goal.reduce_application-reduce-requires
reduce_application-reduce-requires t c = search (rules, reducible_head)

pub reduce_application-returns-in_err-n : goal.reduce_application-returns-in_err-n
reduce_application-returns-in_err-n t c = rw c.from_residual.ensures (λ x e. reduct_too_long _ _ _)

pub reduce_application-reduce-requires-2 : goal.reduce_application-reduce-requires-2
reduce_application-reduce-requires-2 t c = search (rules, reducible_argument)

pub reduce_application-returns-in_err-m : goal.reduce_application-returns-in_err-m
reduce_application-returns-in_err-m t c = rw c.from_residual-in_err-m.ensures (λ x e. reduct_too_long _ _ _)

pub reduce_application-overflow_mul-n : goal.reduce_application-overflow_mul-n
reduce_application-overflow_mul-n t c =
    omega (
      arith,
      reduct_few _ _ _ _ _ c.reduce.ensures c.in_ok-n.was (omega arith)
          (reducible_head _ _ c.requires.0 c.requires.1 c.head_of.ensures.is),
    )

pub reduce_application-overflow_mul-m : goal.reduce_application-overflow_mul-m
reduce_application-overflow_mul-m t c =
    omega (
      arith,
      reduct_few _ _ _ _ _ c.reduce-2.ensures c.in_ok-m.was (omega arith)
          (reducible_argument _ _ c.requires.0 c.requires.1 c.argument_of.ensures.is),
    )

pub reduce_application-slice_bounds-apply_reduced-end : goal.reduce_application-slice_bounds-apply_reduced-end
reduce_application-slice_bounds-apply_reduced-end t c = search (rules, reduct_within, reducible_head, c.in_ok-n.was)

pub reduce_application-slice_bounds-apply_reduced-end-2 : goal.reduce_application-slice_bounds-apply_reduced-end-2
reduce_application-slice_bounds-apply_reduced-end-2 t c = search (rules, reduct_within, reducible_argument, c.in_ok-m.was)

pub reduce_application-apply_reduced-requires : goal.reduce_application-apply_reduced-requires
reduce_application-apply_reduced-requires t c = search (rules, parts_applicable, c.in_ok-n.was, c.in_ok-m.was)

pub reduce_application-returns : goal.reduce_application-returns
reduce_application-returns t c = search (rules, reduces_application, c.in_ok-n.was, c.in_ok-m.was)
