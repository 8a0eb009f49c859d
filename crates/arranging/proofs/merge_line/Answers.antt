-- `arranging::merge_line` meets its contract: what is written is the first of the lines that are left, so that merging the others behind it
-- merges all. Assumes nothing.
use Rattle.arranging.proofs.Merging.{merged_line_left, merged_line_right}
use borrow.Author.Rules.{rules}
use Rattle.arranging.proofs.merge_line.Goals as goal

pub returns-then-left_is_next : goal.returns-then-left_is_next
returns-then-left_is_next c = search (rules, merged_line_left)

pub returns : goal.returns
returns c = search (rules, merged_line_right)
