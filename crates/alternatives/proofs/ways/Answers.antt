-- `alternatives::ways` meets its contract. The end of the target tells how many records it has, and the end of the head where the
-- argument begins, whose skeleton is a skeleton in every state that stands there. Assumes nothing.
use Rattle.arguments.proofs.Applications.{stored_bounds}
use Rattle.alternatives.proofs.Alternatives.{argument_walkable, argument_source, head_locals, ways_counted}
use Rattle.arguments.proofs.Applications.{argument_whole_slice}
use Rattle.alternatives.proofs.Alternatives.{depths_room}
use borrow.Author.Rules.{rules}
use Rattle.alternatives.proofs.ways.Goals as goal

pub end_at-end-requires : goal.end_at-end-requires
end_at-end-requires c =
    (stored_bounds _ _ _ _ c.requires _ c.goal_at-goal.ensures.is).target

pub end_at-argument-requires : goal.end_at-argument-requires
end_at-argument-requires c =
    (stored_bounds _ _ _ _ c.requires _ c.goal_at-goal.ensures.is).head

pub is_rigid-rigid-requires : goal.is_rigid-rigid-requires
is_rigid-rigid-requires c = search (rules, argument_whole_slice)

pub ask_part-walk-requires : goal.ask_part-walk-requires
ask_part-walk-requires c =
    argument_walkable _ _ _ _ c.requires _ c.goal_at-goal.ensures.is _ c.end_at-argument.ensures

pub skeleton_of-skeleton-requires : goal.skeleton_of-skeleton-requires
skeleton_of-skeleton-requires c = search (rules, argument_source)

pub lacks_local-lacking-requires : goal.lacks_local-lacking-requires
lacks_local-lacking-requires c = search (rules, head_locals)

pub depths_into-requires : goal.depths_into-requires
depths_into-requires c = search (rules, depths_room)

pub returns : goal.returns
returns c = search (rules, ways_counted)
