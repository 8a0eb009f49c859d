-- `abstractions::occurs_before` meets its contract. By what looking among the first j parts comes to. Assumes nothing.
use Rattle.abstractions.proofs.Occurrences.{earlier_says}
use Rattle.abstractions.proofs.occurs_before.Goals as goal

pub returns : goal.returns
returns c = earlier_says _ _ _ _ _ c.is_none.ensures c.copy_before.ensures
