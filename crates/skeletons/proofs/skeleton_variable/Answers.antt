-- `skeletons::skeleton_variable` meets its contract: the span's records are the value's table, and a hole is right for an open variable.
-- Assumes nothing.
use Rattle.skeletons.proofs.Writing.{entered_hole, entered_value}
use borrow.Author.Rules.{rules}
use Rattle.skeletons.proofs.skeleton_variable.Goals as goal

pub returns-in-Open : goal.returns-in-Open
returns-in-Open c = entered_hole _ _ _ _ _ c.hole.ensures _

pub returns-in-Assigned : goal.returns-in-Assigned
returns-in-Assigned c = search (rules, entered_value)
