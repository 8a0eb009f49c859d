-- `arranging::sort` meets its contract. Each half is shorter than the whole, and both halves in order, merged, are the whole in order.
-- Assumes nothing.
use lib.ListN.{length}
use Rattle.arranging.proofs.+sort.Given as goal

abbrev pub decreases-sort : goal.decreases-sort
decreases-sort l = length l.lines.now
