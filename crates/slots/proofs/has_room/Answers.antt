-- `slots::has_room` meets its contract. Assumes nothing.
use Rattle.slots.proofs.Counts.{key_least, room_none, room_some}
use borrow.Author.Rules.{rules}
use Rattle.slots.proofs.has_room.Goals as goal

pub overflow_sub-others : goal.overflow_sub-others
overflow_sub-others c = search (rules, key_least)

pub returns-then-table-others : goal.returns-then-table-others
returns-then-table-others c = search (rules, room_none)

pub returns : goal.returns
returns c = search (rules, room_some)
