-- `storage::judge_room` meets its contract. Assumes nothing.
use Rattle.storage.proofs.Judges.{room_some, room_none}
use borrow.Author.Rules.{rules}
use Rattle.storage.proofs.judge_room.Goals as goal

pub returns-then-has_room : goal.returns-then-has_room
returns-then-has_room c = search (rules, room_some)

pub returns : goal.returns
returns c = search (rules, room_none)
