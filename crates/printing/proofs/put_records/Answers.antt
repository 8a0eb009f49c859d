-- `printing::put_records` meets its contract. Assumes nothing.
use Rattle.std.proofs.Common.{rules}
use Rattle.printing.proofs.Texts.{records_more}
use Rattle.printing.proofs.put_records.Goals as goal

pub loop-k-preserved : goal.loop-k-preserved
loop-k-preserved c = search (rules, records_more)
