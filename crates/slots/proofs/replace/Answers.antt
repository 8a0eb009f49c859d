-- `slots::replace` meets its contract. Assumes nothing.
use Rattle.slots.proofs.Replacing.{behind_least, behind_movable, string_within, count_set, table_replaced}
use borrow.Author.Rules.{rules}
use Rattle.slots.proofs.replace.Goals as goal

pub overflow_sub-end : goal.overflow_sub-end
overflow_sub-end c = search (rules, behind_least)

pub move_bytes-requires : goal.move_bytes-requires
move_bytes-requires c = search (rules, behind_movable)

pub copy_into-requires : goal.copy_into-requires
copy_into-requires c = search (rules, string_within)

pub returns : goal.returns
returns c = search (rules, count_set, table_replaced)
