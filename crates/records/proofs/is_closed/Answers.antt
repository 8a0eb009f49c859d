-- `records::is_closed` meets its contract. The walk over the whole table came to its end exactly if the term is closed. Assumes nothing.
use native.Mathlib.Omega.{arith}
use Rattle.records.proofs.Parts.{tree_whole}
use Rattle.records.proofs.Tests.{walked_table}
use borrow.Author.Rules.{rules}
use Rattle.records.proofs.is_closed.Goals as goal

pub ask_part-requires : goal.ask_part-requires
ask_part-requires c = (search (rules, tree_whole), omega arith)

pub returns : goal.returns
returns c = rw c.is_some.ensures (walked_table _ _ _ c.ask_part.ensures)
