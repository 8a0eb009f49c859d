-- `skeletons::is_exact` meets its contract, by how the walk over the skeleton ends. Assumes nothing.
use Rattle.records.proofs.Parts.{tree_whole}
use Rattle.records.proofs.Tests.{walked_table}
use borrow.Author.Rules.{rules}
use Rattle.skeletons.proofs.is_exact.Goals as goal

pub exact_part-requires : goal.exact_part-requires
exact_part-requires c = search (rules, tree_whole)

pub returns : goal.returns
returns c = rw c.is_some.ensures (walked_table _ _ _ c.exact_part.ensures)
