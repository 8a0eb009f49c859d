-- `shifting::is_rigid` meets its contract. An application is rigid as its head is, and any other term by its first record; the measure
-- is the length of the slice. Assumes nothing.
use Rattle.records.proofs.Slices.{head_slice}
use Rattle.shifting.proofs.Slices.{shorter}
use Rattle.shifting.proofs.Tests.{rigid_application_part, rigid_local, rigid_other}
use borrow.Author.Rules.{rules}
use Rattle.shifting.proofs.+is_rigid.Goals as goal

pub is_rigid-requires : goal.is_rigid-requires
is_rigid-requires t c = (search (rules, shorter), search (rules, head_slice))

pub returns-then-k : goal.returns-then-k
returns-then-k t c = search (rules, rigid_application_part)

pub returns-then-k-2 : goal.returns-then-k-2
returns-then-k-2 t c = rigid_local _ c.if-k-2.true

pub returns : goal.returns
returns t c = search (rules, rigid_other)
