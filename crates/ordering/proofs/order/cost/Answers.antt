-- `ordering::order::cost` is safe. The goal's part, its target and, of a goal to build, the argument's target are terms that stand where
-- the goal says. Assumes nothing.
use Rattle.ordering.proofs.Ordering.{weighs_entries, weighs_locals, weighs_copies}
use borrow.Author.Rules.{rules}
use Rattle.ordering.proofs.order.cost.Goals as goal

pub is_assigned-requires : goal.is_assigned-requires
is_assigned-requires c = search (rules, weighs_entries)

pub lacks_local-requires : goal.lacks_local-requires
lacks_local-requires c = search (rules, weighs_locals)

pub copies-copies-requires : goal.copies-copies-requires
copies-copies-requires c = search (rules, weighs_copies)
