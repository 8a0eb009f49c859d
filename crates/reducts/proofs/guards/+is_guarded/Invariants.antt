-- `reducts::guards::is_guarded` meets its contract. Each way out is one case of the definition, told from a table; the measure is the
-- table's length. Assumes nothing.
use lib.ListN.{length}
use Rattle.reducts.proofs.guards.+is_guarded.Given as goal

abbrev pub decreases-is_guarded : goal.decreases-is_guarded
decreases-is_guarded l = length l.s.now
