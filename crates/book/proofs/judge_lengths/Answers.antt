-- `book::judge_lengths` meets its contract. Assumes nothing.
use Rattle.book.proofs.Judges.{length_bad, length_good}
use borrow.Author.Rules.{rules}
use Rattle.book.proofs.judge_lengths.Goals as goal

pub returns-then-book-gt0 : goal.returns-then-book-gt0
returns-then-book-gt0 c = search (rules, length_bad)

pub returns : goal.returns
returns c = search (rules, length_good)
