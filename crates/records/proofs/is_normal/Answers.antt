-- `records::is_normal` meets its contract. The walk over the whole table came to its end exactly if the term is normal. Assumes nothing.
use native.Mathlib.Omega.{arith}
use Rattle.records.proofs.Parts.{tree_whole}
use Rattle.records.proofs.Tests.{walked_table}
use borrow.Author.Rules.{rules}
use Rattle.records.proofs.is_normal.Goals as goal

pub normal_part-requires : goal.normal_part-requires
normal_part-requires c = (search (rules, tree_whole), omega arith)

pub returns : goal.returns
returns c = rw c.is_some.ensures (walked_table _ _ _ c.normal_part.ensures)
