-- `records::argument_of` meets its contract. The argument begins where `head_end` says that the head ends. Assumes nothing.
use Rattle.records.proofs.Parts.{rest_part, argument_lies}
use borrow.Author.Rules.{rules}
use Rattle.records.proofs.argument_of.Goals as goal

pub returns : goal.returns
returns c = search (rules, rest_part, argument_lies)
