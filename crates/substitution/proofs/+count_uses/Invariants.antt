-- `substitution::count_uses` meets its contract. The uses of an application are those of its head and of its argument; the measure is the
-- slice's length. Assumes nothing.
use lib.ListN.{length}
use Rattle.substitution.proofs.+count_uses.Given as goal

abbrev pub decreases-count_uses : goal.decreases-count_uses
decreases-count_uses l = length l.b.now
