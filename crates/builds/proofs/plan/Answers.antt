-- `builds::plan` meets its contract. Each way out is one law: one body is left, or the bodies are counted. Assumes nothing.
use lib.ListN.{get_or-replicate}
use Rattle.builds.proofs.Building.{build_part_within, build_target_within, build_argument_within}
use Rattle.builds.proofs.Planning.{build_locals, forced_planned, counting, bodies_planned}
use borrow.Author.Rules.{rules}
use Rattle.builds.proofs.plan.Goals as goal

pub slice_bounds-lacks_local-count : goal.slice_bounds-lacks_local-count
slice_bounds-lacks_local-count c = search (rules, build_part_within)

pub slice_bounds-lacks_local-start : goal.slice_bounds-lacks_local-start
slice_bounds-lacks_local-start c = search (rules, build_part_within)

pub slice_bounds-lacks_local-count-2 : goal.slice_bounds-lacks_local-count-2
slice_bounds-lacks_local-count-2 c = search (rules, build_argument_within)

pub slice_bounds-lacks_local-start-2 : goal.slice_bounds-lacks_local-start-2
slice_bounds-lacks_local-start-2 c = search (rules, build_argument_within)

pub lacks_local-requires : goal.lacks_local-requires
lacks_local-requires c = search (rules, build_locals)

pub returns-then-lacks_local : goal.returns-then-lacks_local
returns-then-lacks_local c = search (rules, forced_planned, get_or-replicate, c.map_or.ensures)

pub slice_bounds-copies-count : goal.slice_bounds-copies-count
slice_bounds-copies-count c = search (rules, build_target_within)

pub slice_bounds-copies-start : goal.slice_bounds-copies-start
slice_bounds-copies-start c = search (rules, build_target_within)

pub slice_bounds-copies-count-2 : goal.slice_bounds-copies-count-2
slice_bounds-copies-count-2 c = search (rules, build_argument_within)

pub slice_bounds-copies-start-2 : goal.slice_bounds-copies-start-2
slice_bounds-copies-start-2 c = search (rules, build_argument_within)

pub copies-counted-requires : goal.copies-counted-requires
copies-counted-requires c = search (rules, counting)

pub returns : goal.returns
returns c = search (rules, bodies_planned)
