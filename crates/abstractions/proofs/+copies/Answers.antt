-- `abstractions::copies` meets its contract. A copy counts one, and the counts of the parts of any other part are added; the measure is
-- the length of the slice. Assumes nothing.
use Rattle.shifting.proofs.Slices.{shorter, shorter_behind}
use Rattle.abstractions.proofs.Bodies.{no_copy, counts_copy, counts_application, counts_abstraction, counts_leaf}
use Rattle.abstractions.proofs.Bodies.{counting_head, counting_argument, counting_body}
use borrow.Author.Rules.{rules}
use Rattle.abstractions.proofs.+copies.Goals as goal

pub returns-in-Some : goal.returns-in-Some
returns-in-Some t c = counts_copy _ _ _ _ c.in-Some.ensures

pub copies-head-requires : goal.copies-head-requires
copies-head-requires t c = (search (rules, shorter), search (rules, counting_head))

pub copies-argument-requires : goal.copies-argument-requires
copies-argument-requires t c =
    (search (rules, shorter_behind), counting_argument _ _ _ c.requires _ _ c.if-kind.true c.copies-head.ensures)

pub returns-then-kind : goal.returns-then-kind
returns-then-kind t c = search (rules, counts_application, no_copy, c.in_default.ensures)

pub copies-body-requires : goal.copies-body-requires
copies-body-requires t c = (search (rules, shorter), search (rules, counting_body))

pub returns-then-kind-2 : goal.returns-then-kind-2
returns-then-kind-2 t c = search (rules, counts_abstraction, no_copy, c.in_default.ensures)

pub returns : goal.returns
returns t c = search (rules, counts_leaf, no_copy, c.in_default.ensures)
