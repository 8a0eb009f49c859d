-- `copying::copy_into` meets its contract. The loop's invariant: the bytes passed are stored from o on. Assumes nothing.
use Rattle.std.proofs.Common.{length-set, rules}
use Rattle.copying.proofs.Stores.{copied_more, copied_all}
use Rattle.copying.proofs.copy_into.Goals as goal

pub loop-i-preserved : goal.loop-i-preserved
loop-i-preserved c = search (rules, length-set, copied_more)

pub returns : goal.returns
returns c = search (rules, copied_all)
