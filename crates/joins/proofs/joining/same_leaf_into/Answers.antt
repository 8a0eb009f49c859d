-- `joins::joining::same_leaf_into` meets its contract. Two records of one kind are joined exactly if their numbers are equal, as the
-- shifted record. Assumes nothing.
use Rattle.joins.proofs.Joins.{joins_source, joined_differ, joined_same}
use borrow.Author.Rules.{rules}
use Rattle.joins.proofs.joining.same_leaf_into.Goals as goal

pub returns-then-number_at : goal.returns-then-number_at
returns-then-number_at c = search (rules, joined_differ)

pub shift_leaf_into-requires : goal.shift_leaf_into-requires
shift_leaf_into-requires c = search (rules, joins_source)

pub returns : goal.returns
returns c = search (rules, joined_same)
