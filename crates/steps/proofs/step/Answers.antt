-- `steps::step` meets its contract. The first easy goal is opened, and its part's first record says which step is taken. Assumes
-- nothing.
use mathlib.Core.Path.{sym, ◌∙◌}
use native.Mathlib.Omega.{arith}
use Rattle.records.proofs.Slices.{part_slice, whole_slice}
use Rattle.steps.proofs.Opening.{opens}
use borrow.Author.Rules.{rules}
use Rattle.steps.proofs.step.Goals as goal

pub bounds-pattern-part : goal.bounds-pattern-part
bounds-pattern-part c =
    omega (
      arith,
      (opens _ _ _ _ _ c.requires.0 c.requires.1 c.goal_at-goal.ensures.is
          c.goal_at-goal.ensures.fits).part.least,
    )

pub step_abstraction-requires : goal.step_abstraction-requires
step_abstraction-requires c = search (rules, opens)

pub step_variable-requires : goal.step_variable-requires
step_variable-requires c = search (rules, opens)

pub step_record-requires : goal.step_record-requires
step_record-requires c = search (rules, opens)

pub slice_bounds-is_rigid-count : goal.slice_bounds-is_rigid-count
slice_bounds-is_rigid-count c =
    omega (
      arith,
      (opens _ _ _ _ _ c.requires.0 c.requires.1 c.goal_at-goal.ensures.is c.goal_at-goal.ensures.fits).part.least,
    )

pub slice_bounds-is_rigid-start : goal.slice_bounds-is_rigid-start
slice_bounds-is_rigid-start c =
    omega (
      arith,
      (opens _ _ _ _ _ c.requires.0 c.requires.1 c.goal_at-goal.ensures.is c.goal_at-goal.ensures.fits).part.least,
    )

pub is_rigid-requires : goal.is_rigid-requires
is_rigid-requires c =
    whole_slice _ _
    (opens _ _ _ _ _ c.requires.0 c.requires.1 c.goal_at-goal.ensures.is c.goal_at-goal.ensures.fits).part

pub step_rigid-requires : goal.step_rigid-requires
step_rigid-requires c =
    (search (rules, opens), search rules, λ t x. sym (c.is_rigid.ensures t (part_slice _ _ t x)) ∙ c.if-is_rigid.true)

pub step_flexible-requires : goal.step_flexible-requires
step_flexible-requires c = search (rules, opens)
