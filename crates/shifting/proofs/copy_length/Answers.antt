-- `shifting::copy_length` meets its contract. First records of different kinds tell that the one part is not the other shifted, and else
-- the walk tells. Assumes nothing.
use Rattle.shifting.proofs.Tests.{compared_kinds}
use Rattle.shifting.proofs.copy_length.Goals as goal

pub returns-then-s-e : goal.returns-then-s-e
returns-then-s-e c = compared_kinds _ _ _ _ c.if-s-e.true
