-- `slots::records_before` meets its contract. Assumes nothing.
use Rattle.std.proofs.Common.{rules}
use Rattle.slots.proofs.Counts.{total_more}
use Rattle.slots.proofs.records_before.Goals as goal

pub loop-count-preserved : goal.loop-count-preserved
loop-count-preserved c = search (rules, total_more)
