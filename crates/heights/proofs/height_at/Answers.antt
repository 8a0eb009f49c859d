-- `heights::height_at` meets its contract: the height of a term by its kind, which its first record shows, and so where the row begins.
-- Assumes nothing.
use Rattle.heights.proofs.Rows.{application_height, abstraction_height, local_height, other_height}
use Rattle.heights.proofs.Rows.{first_application, first_abstraction, first_other}
use borrow.Author.Rules.{rules}
use Rattle.heights.proofs.height_at.Goals as goal

pub returns-then-kind : goal.returns-then-kind
returns-then-kind c = search (rules, application_height, first_application)

pub returns-then-kind-2 : goal.returns-then-kind-2
returns-then-kind-2 c = search (rules, abstraction_height, first_abstraction)

pub returns-then-kind-3 : goal.returns-then-kind-3
returns-then-kind-3 c = search (rules, local_height, first_other)

pub returns : goal.returns
returns c = search (rules, other_height, first_other)
