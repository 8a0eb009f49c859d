-- `records::head_of` meets its contract. The head stands between the first record and where `head_end` says that it ends. Assumes nothing.
use Rattle.records.proofs.Parts.{head_lies}
use borrow.Author.Rules.{rules}
use Rattle.records.proofs.head_of.Goals as goal

pub returns : goal.returns
returns c = record { lies = search (rules, head_lies); is = search rules }
