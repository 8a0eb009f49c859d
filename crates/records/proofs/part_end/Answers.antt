-- `records::part_end` meets its contract. No part is missing after the pass exactly if a term stands at the beginning. Assumes nothing.
use Rattle.records.proofs.Passing.{ended}
use Rattle.records.proofs.part_end.Goals as goal

pub returns : goal.returns
returns c = rw c.then_some.ensures (ended _ _ _ c.pass_part-p.ensures)
