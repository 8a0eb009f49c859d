-- `fit_table::held_entry` meets its contract. Assumes nothing.
use Rattle.fit_table.proofs.Entries.{held_none, held_searchable, held_marks}
use Rattle.fit_table.proofs.held_entry.Goals as goal

pub returns-in-Err : goal.returns-in-Err
returns-in-Err c = held_none _ _ _ c.requires.0 c.requires.1 _ c.in-Err.ensures

pub has_match-requires : goal.has_match-requires
has_match-requires c = held_searchable _ _ _ c.requires.0 c.requires.1 c.in-Ok.ensures

pub returns-in-Ok : goal.returns-in-Ok
returns-in-Ok c =
    held_marks _ _ _ c.requires.0 c.requires.1 c.in-Ok.ensures _ c.has_match.ensures _ c.from.ensures
