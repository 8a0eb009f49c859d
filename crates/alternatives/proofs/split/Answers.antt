-- `alternatives::split` meets its contract. Two goals are written at the top, for the two parts of the target. Assumes nothing.
use native.Mathlib.Omega.{arith}
use Rattle.records.proofs.Parts.{whole_head}
use Rattle.arguments.proofs.Applications.{stored_bounds, branch_next, branch_failed}
use Rattle.alternatives.proofs.Alternatives.{argument_goal_fits, head_goal_fits, no_parts, way_parts_pushed}
use borrow.Author.Rules.{rules}
use Rattle.alternatives.proofs.split.Goals as goal

pub bounds-work-target : goal.bounds-work-target
bounds-work-target c =
    omega (
      arith,
      (stored_bounds _ _ _ _ c.requires _ c.goal_at-goal.ensures.is).target_low,
      c.requires.ready.bounds.top,
      c.requires.ready.bounds.whole,
    )

pub returns-then-work-target : goal.returns-then-work-target
returns-then-work-target c = search (rules, branch_failed, no_parts)

pub end_at-argument-requires : goal.end_at-argument-requires
end_at-argument-requires c =
    (stored_bounds _ _ _ _ c.requires _ c.goal_at-goal.ensures.is).head

pub end_at-end-requires : goal.end_at-end-requires
end_at-end-requires c =
    whole_head _ _ (stored_bounds _ _ _ _ c.requires _ c.goal_at-goal.ensures.is).target c.if-work-target.false

pub put_goal-requires : goal.put_goal-requires
put_goal-requires c =
    let n = stored_bounds _ _ _ _ c.requires _ c.goal_at-goal.ensures.is in (
      omega (arith, n.room, c.requires.ready.bounds.whole),
      argument_goal_fits _ _ _ _ c.requires _ c.goal_at-goal.ensures.is c.if-work-target.false _ _ _ c.end_at-argument.ensures
          c.end_at-end.ensures c.match_goal.ensures,
    )

pub put_goal-requires-2 : goal.put_goal-requires-2
put_goal-requires-2 c =
    let n = stored_bounds _ _ _ _ c.requires _ c.goal_at-goal.ensures.is in (
      omega (arith, c.put_goal.auto.work, n.room, c.requires.ready.bounds.whole),
      head_goal_fits _ _ _ _ c.requires _ c.goal_at-goal.ensures.is c.if-work-target.false _ c.match_goal-2.ensures,
    )

pub returns : goal.returns
returns c =
    search (rules, branch_next, way_parts_pushed)
