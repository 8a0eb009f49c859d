-- `book::judge_places` meets its contract. Assumes nothing.
use Rattle.book.proofs.Judges.{places_none, places_many, places_right}
use borrow.Author.Rules.{rules}
use Rattle.book.proofs.judge_places.Goals as goal

pub returns-then-n-eq0 : goal.returns-then-n-eq0
returns-then-n-eq0 c = search (rules, places_none)

pub returns-then-n-gt-MOST_PLACES : goal.returns-then-n-gt-MOST_PLACES
returns-then-n-gt-MOST_PLACES c = search (rules, places_many)

pub returns : goal.returns
returns c = search (rules, places_right)
