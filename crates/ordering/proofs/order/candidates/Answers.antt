-- `ordering::order::candidates` is safe: terms stand where it reads the argument and the parts of the target. Assumes nothing.
use Rattle.std.proofs.lemmas.Iterator.{serves_from_Range}
use Rattle.ordering.proofs.Ordering.{branches_head, branches_argument, branches_whole}
use borrow.Author.Rules.{rules}
use Rattle.ordering.proofs.order.candidates.Goals as goal

pub end_at-at-requires : goal.end_at-at-requires
end_at-at-requires c = search (rules, branches_head)

pub is_rigid-requires : goal.is_rigid-requires
is_rigid-requires c = search (rules, branches_argument)

pub count-requires-clause-can : goal.count-requires-clause-can
count-requires-clause-can c =
    (tt, tt, serves_from_Range (λ x q k. search rules) (λ x low high. search (rules, branches_argument, branches_whole)))
