-- `skeletons::hole_for` meets its contract: a closed part has closed swept forms, and a hole for any term is right for every part. Assumes
-- nothing.
use Rattle.skeletons.proofs.Writing.{skeleton_hole, skeleton_closed}
use borrow.Author.Rules.{rules}
use Rattle.skeletons.proofs.hole_for.Goals as goal

pub returns-then-is_closed : goal.returns-then-is_closed
returns-then-is_closed c = search (rules, skeleton_closed)

pub returns : goal.returns
returns c = λ values a. skeleton_hole values a _ _ _ c.hole-2.ensures _
