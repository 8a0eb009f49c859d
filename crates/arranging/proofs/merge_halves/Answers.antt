-- `arranging::merge_halves` meets its contract: the bytes merged in the work area are as many as the lines have, and are copied over them.
-- Assumes nothing.
use Rattle.arranging.proofs.Sorting.{merged_back}
use borrow.Author.Rules.{rules}
use Rattle.arranging.proofs.merge_halves.Goals as goal

pub returns : goal.returns
returns c = search (rules, merged_back)
