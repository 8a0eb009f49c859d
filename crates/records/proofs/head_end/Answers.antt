-- `records::head_end` meets its contract. The head stands behind the first record, and the argument where it ends. Assumes nothing.
use Rattle.records.proofs.Parts.{tree_whole, whole_head, divided}
use Rattle.records.proofs.head_end.Goals as goal

pub end_at-requires : goal.end_at-requires
end_at-requires c = whole_head _ 0 (tree_whole _ c.requires.0) c.requires.1

pub returns : goal.returns
returns c = divided _ _ c.requires.0 c.requires.1 c.end_at.ensures
