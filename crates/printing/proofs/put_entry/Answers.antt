-- `printing::put_entry` meets its contract. The numbers, the records and the line's end are put one behind another.
-- Assumes nothing.
use Rattle.printing.proofs.Texts.{puts_then}
use borrow.Author.Rules.{rules}
use Rattle.printing.proofs.put_entry.Goals as goal

pub returns : goal.returns
returns c = search (rules, puts_then)
