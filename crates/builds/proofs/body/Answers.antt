-- `builds::body` meets its contract. What is written into the array is the table of the chosen body, which is dropped if no head
-- sweeps to its abstraction, and else becomes the head's target. Assumes nothing.
use native.Mathlib.Omega.{arith}
use borrow.Author.Tests.{not-true}
use Rattle.builds.proofs.Building.{choosing, end_within, bodied, choices_within, used_chosen, unused, body_tree, pushes, eta}
use Rattle.builds.proofs.Building.{stored_pushed, build_target_within, build_argument_within}
use borrow.Author.Rules.{rules}
use Rattle.builds.proofs.body.Goals as goal

pub slice_bounds-body_into-count : goal.slice_bounds-body_into-count
slice_bounds-body_into-count c = search (rules, build_target_within)

pub slice_bounds-body_into-start : goal.slice_bounds-body_into-start
slice_bounds-body_into-start c = search (rules, build_target_within)

pub slice_bounds-body_into-count-2 : goal.slice_bounds-body_into-count-2
slice_bounds-body_into-count-2 c = search (rules, build_argument_within)

pub slice_bounds-body_into-start-2 : goal.slice_bounds-body_into-start-2
slice_bounds-body_into-start-2 c = search (rules, build_argument_within)

pub body_into-built-requires : goal.body_into-built-requires
body_into-built-requires c =
    choosing _ _ _ _ c.requires.0 c.requires.1 _ c.goal_at-goal.ensures.is _ _ (omega arith) (omega arith)

pub any_chosen-requires : goal.any_chosen-requires
any_chosen-requires c =
    omega (
      arith,
      (choices_within _ _ _ _ c.requires.0 c.requires.1 _ c.goal_at-goal.ensures.is _ _ _ _ _ _
          (omega arith) c.body_into-built.ensures),
    )

pub returns-then-not-any_chosen : goal.returns-then-not-any_chosen
returns-then-not-any_chosen c = search (rules, unused, used_chosen, not-true)

pub slice_bounds-is_eta-end : goal.slice_bounds-is_eta-end
slice_bounds-is_eta-end c = search (rules, end_within)

pub is_eta-requires : goal.is_eta-requires
is_eta-requires c =
    body_tree _ _ _ _ c.requires.0 c.requires.1 _ c.goal_at-goal.ensures.is _ _
    (bodied _ _ _ _ c.requires.0 c.requires.1 _ c.goal_at-goal.ensures.is _ _ _ _ _ _ (omega arith)
    c.body_into-built.ensures)

pub returns-then-is_eta : goal.returns-then-is_eta
returns-then-is_eta c = search (rules, eta, bodied)

pub push_abstraction-requires : goal.push_abstraction-requires
push_abstraction-requires c =
    pushes _ _ _ _ c.requires.0 c.requires.1 _ c.goal_at-goal.ensures.is _ _
    (bodied _ _ _ _ c.requires.0 c.requires.1 _ c.goal_at-goal.ensures.is _ _ _ _ _ _ (omega arith)
    c.body_into-built.ensures) c.goal_at-goal.ensures.fits

pub returns : goal.returns
returns c =
    let b = bodied _ _ _ _ c.requires.0 c.requires.1 _ c.goal_at-goal.ensures.is _ _ _ _ _ _ (omega arith)
    c.body_into-built.ensures in
    let u = used_chosen _ _ _ _ c.requires.0 c.requires.1 _ c.goal_at-goal.ensures.is _ _ _ _ _ _ (omega arith)
    c.body_into-built.ensures _ c.any_chosen.ensures in
    stored_pushed _ _ _ _ c.requires.0 c.requires.1 _ c.goal_at-goal.ensures.is _ _ b _ _ u c.is_eta.ensures
    c.if-not-any_chosen.false c.if-is_eta.false c.goal_at-goal.ensures.fits _ _ c.push_abstraction.ensures
