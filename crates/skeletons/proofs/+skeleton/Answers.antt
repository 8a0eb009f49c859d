-- `skeleton`, `skeleton_application` and `skeleton_abstraction` of `skeletons` meet their contracts. The skeleton of a part follows from
-- those of its own parts, whose tables are shorter; the measure is the table's length. Assumes nothing.
use native.Mathlib.Omega.{arith}
use Rattle.skeletons.proofs.Writing.{input_head, input_argument, input_body}
use Rattle.skeletons.proofs.Writing.{head_no_hole, skeleton_parts_swept, skeleton_application, skeleton_body_swept, skeleton_abstraction}
use Rattle.skeletons.proofs.Writing.{variable_known, skeleton_variable, skeleton_leaf_length, skeleton_leaf}
use borrow.Author.Rules.{rules}
use Rattle.skeletons.proofs.+skeleton.Goals as goal

pub skeleton-skeleton_variable-requires : goal.skeleton-skeleton_variable-requires
skeleton-skeleton_variable-requires t c = search (rules, variable_known)

pub skeleton-returns-then-kind-3 : goal.skeleton-returns-then-kind-3
skeleton-returns-then-kind-3 t c = search (rules, skeleton_variable)

pub skeleton-copy_into-requires : goal.skeleton-copy_into-requires
skeleton-copy_into-requires t c =
    omega (arith, skeleton_leaf_length _ _ _ c.if-kind.false c.if-kind-2.false c.requires)

pub skeleton-returns : goal.skeleton-returns
skeleton-returns t c = search (rules, skeleton_leaf)

pub skeleton_abstraction-skeleton-n-requires : goal.skeleton_abstraction-skeleton-n-requires
skeleton_abstraction-skeleton-n-requires t c = search (rules, input_body)

pub skeleton_abstraction-abstract_over-requires : goal.skeleton_abstraction-abstract_over-requires
skeleton_abstraction-abstract_over-requires t c = search (rules, skeleton_body_swept)

pub skeleton_abstraction-returns : goal.skeleton_abstraction-returns
skeleton_abstraction-returns t c = search (rules, skeleton_abstraction)

pub skeleton_application-skeleton-n-requires : goal.skeleton_application-skeleton-n-requires
skeleton_application-skeleton-n-requires t c = search (rules, input_head)

pub skeleton_application-returns-then-head : goal.skeleton_application-returns-then-head
skeleton_application-returns-then-head t c = c.hole_for.ensures _ _

pub skeleton_application-skeleton-m-requires : goal.skeleton_application-skeleton-m-requires
skeleton_application-skeleton-m-requires t c = search (rules, input_argument)

pub skeleton_application-apply_skeleton-requires : goal.skeleton_application-apply_skeleton-requires
skeleton_application-apply_skeleton-requires t c = search (rules, skeleton_parts_swept, head_no_hole)

pub skeleton_application-returns : goal.skeleton_application-returns
skeleton_application-returns t c = search (rules, skeleton_application)
