-- `arranging::left_is_next` meets its contract: a table with no line left cannot have the next one, and else the earlier of the two first
-- lines is it. Assumes nothing.
use Rattle.arranging.proofs.Merging.{merging_begin, chosen_right, chosen_left, chosen_earlier}
use borrow.Author.Rules.{rules}
use Rattle.arranging.proofs.left_is_next.Goals as goal

pub returns-then-i-a : goal.returns-then-i-a
returns-then-i-a c = search (rules, chosen_right)

pub returns-then-j-b : goal.returns-then-j-b
returns-then-j-b c = search (rules, chosen_left)

pub before-requires : goal.before-requires
before-requires c = search (rules, merging_begin)

pub returns : goal.returns
returns c = search (rules, chosen_earlier)
