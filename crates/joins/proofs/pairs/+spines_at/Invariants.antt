-- `joins::pairs::spines_at` meets its contract. An application has the pairs of its head and one more, a variable has none; the measure is
-- what is left of the pattern. Assumes nothing.
use Prim.Native.Nat.{◌-◌}
use lib.ListN.{length}
use Rattle.joins.proofs.pairs.+spines_at.Given as goal

abbrev pub decreases-spines_at : goal.decreases-spines_at
decreases-spines_at l = length l.pattern.now - l.x
