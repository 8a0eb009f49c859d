-- `records::end_at` meets its contract. A term stands there, so no part is missing after the pass. Assumes nothing.
use Rattle.records.proofs.Passing.{reached_ends}
use borrow.Author.Rules.{rules}
use Rattle.records.proofs.end_at.Goals as goal

pub returns : goal.returns
returns c = search (rules, reached_ends)
