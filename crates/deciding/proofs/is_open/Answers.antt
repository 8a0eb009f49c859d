-- `deciding::is_open` meets its contract. The record's kind shows whether it is a variable, and its number which. Assumes nothing.
use Rattle.deciding.proofs.Decisions.{entry_low}
use borrow.Author.Rules.{rules}
use Rattle.deciding.proofs.is_open.Goals as goal

pub bounds-entries-i : goal.bounds-entries-i
bounds-entries-i c = search (rules, entry_low)
