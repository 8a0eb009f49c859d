-- `steps::step_assigned` meets its contract. The variable's value is the target exactly if their tables are equal. Assumes nothing.
use Rattle.steps.proofs.Leaves.{held_room, held_met, held_missed}
use borrow.Author.Rules.{rules}
use Rattle.steps.proofs.step_assigned.Goals as goal

pub value_of-requires : goal.value_of-requires
value_of-requires c = search (rules, held_room)

pub returns-then-same_bytes : goal.returns-then-same_bytes
returns-then-same_bytes c =
    held_met _ _ _ _ _ _ c.requires.0 _ c.requires.1 _ c.end_at-end.ensures _
    (rw c.value_of.ensures at c.same_bytes.ensures) c.if-same_bytes.true

pub returns : goal.returns
returns c =
    held_missed _ _ _ _ _ _ c.requires.0 _ c.requires.1 _ c.end_at-end.ensures _
    (rw c.value_of.ensures at c.same_bytes.ensures) c.if-same_bytes.false
