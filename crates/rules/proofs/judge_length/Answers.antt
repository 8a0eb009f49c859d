-- `rules::judge_length` meets its contract. Assumes nothing.
use Rattle.rules.proofs.Places.{book_bad, book_good}
use borrow.Author.Rules.{rules}
use Rattle.rules.proofs.judge_length.Goals as goal

pub returns-then-book-ne-BOOK_BYTES : goal.returns-then-book-ne-BOOK_BYTES
returns-then-book-ne-BOOK_BYTES c = search (rules, book_bad)

pub returns : goal.returns
returns c = search (rules, book_good)
