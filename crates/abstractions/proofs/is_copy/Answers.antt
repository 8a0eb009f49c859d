-- `abstractions::is_copy` meets its contract. By how the comparison with the shifted part ends. Assumes nothing.
use Rattle.abstractions.proofs.Occurrences.{copy_says}
use Rattle.abstractions.proofs.is_copy.Goals as goal

pub returns : goal.returns
returns c = rw c.is_some.ensures (copy_says _ _ _ _ c.copy_length.ensures)
