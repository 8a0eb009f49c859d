-- `alternatives::constant_head` meets its contract. The abstraction over the target, moved in below its binder, is the head's
-- target; it has the target's locals. Assumes nothing.
use native.Mathlib.Omega.{arith}
use Rattle.alternatives.proofs.Alternatives.{constant_lacking, raises, raised, raised_within, constant_pushes, constant_pushed}
use Rattle.arguments.proofs.Applications.{application_target_within}
use borrow.Author.Rules.{rules}
use Rattle.alternatives.proofs.constant_head.Goals as goal

pub returns-then-ways : goal.returns-then-ways
returns-then-ways c = search (rules, constant_lacking)

pub slice_bounds-shift_into-count : goal.slice_bounds-shift_into-count
slice_bounds-shift_into-count c = search (rules, application_target_within)

pub slice_bounds-shift_into-start : goal.slice_bounds-shift_into-start
slice_bounds-shift_into-start c = search (rules, application_target_within)

pub shift_into-moved-requires : goal.shift_into-moved-requires
shift_into-moved-requires c = search (rules, raises)

pub slice_bounds-push_abstraction-end : goal.slice_bounds-push_abstraction-end
slice_bounds-push_abstraction-end c =
    omega (
      arith,
      raised_within _ _ _ _ c.requires.0 _ c.goal_at-goal.ensures.is _ _ _ _ (omega arith)
          c.shift_into-moved.ensures,
    )

pub push_abstraction-requires : goal.push_abstraction-requires
push_abstraction-requires c =
    constant_pushes _ _ _ _ c.requires.0 _ c.goal_at-goal.ensures.is _
    (raised _ _ _ _ c.requires.0 _ c.goal_at-goal.ensures.is _ _ _ _ (omega arith) c.shift_into-moved.ensures) _
    c.match_goal-head.ensures

pub returns : goal.returns
returns c =
    constant_pushed _ _ _ _ c.requires.0 _ c.goal_at-goal.ensures.is _
    (raised _ _ _ _ c.requires.0 _ c.goal_at-goal.ensures.is _ _ _ _ (omega arith) c.shift_into-moved.ensures) _
    c.match_goal-head.ensures _ _ c.push_abstraction.ensures
