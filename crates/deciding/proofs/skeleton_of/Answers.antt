-- `deciding::skeleton_of` meets its contract. A closed part has the skeleton that is written for it, and a hole is a skeleton of
-- any. Assumes nothing.
use Rattle.deciding.proofs.Refutations.{hole_sketch, part_ends, skeleton_input, part_sketch}
use borrow.Author.Rules.{rules}
use Rattle.deciding.proofs.skeleton_of.Goals as goal

pub returns-in_default : goal.returns-in_default
returns-in_default c = search (rules, hole_sketch)

pub slice_bounds-skeleton-end : goal.slice_bounds-skeleton-end
slice_bounds-skeleton-end c =
    let z = part_ends _ _ _ c.requires.0 _ c.requires.1 _ c.in-Some.is in
    search rules

pub skeleton-count-requires : goal.skeleton-count-requires
skeleton-count-requires c = search (rules, skeleton_input)

pub returns : goal.returns
returns c = search (rules, part_sketch)
