-- `reducts::guards::has_constant_head` meets its contract. An application begins as its head does, and any other term with its first
-- record; the measure is the table's length. Assumes nothing.
use lib.ListN.{length}
use Rattle.reducts.proofs.guards.+has_constant_head.Given as goal

abbrev pub decreases-has_constant_head : goal.decreases-has_constant_head
decreases-has_constant_head l = length l.s.now
