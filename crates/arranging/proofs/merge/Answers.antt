-- `arranging::merge` meets its contract. The loop's invariant: lines stand in both tables from the places reached on, and merging them
-- behind what is written merges the whole. Assumes nothing.
use Rattle.arranging.proofs.Merging.{merging_end}
use borrow.Author.Rules.{rules}
use Rattle.arranging.proofs.merge.Goals as goal

pub returns : goal.returns
returns c = search (rules, merging_end)
