-- `assignments::entry_at` meets its contract: the two words that it reads are the entry's count and first record. Assumes nothing.
use Rattle.assignments.proofs.Entries.{open_at, assigned_at}
use borrow.Author.Rules.{rules}
use Rattle.assignments.proofs.entry_at.Goals as goal

pub returns-then-count-eq0 : goal.returns-then-count-eq0
returns-then-count-eq0 c = search (rules, open_at)

pub returns : goal.returns
returns c = search (rules, assigned_at)
