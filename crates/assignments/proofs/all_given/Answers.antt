-- `assignments::all_given` meets its contract. Assumes nothing.
use Rattle.assignments.proofs.Entries.{lacking_is, given_more}
use Rattle.assignments.proofs.all_given.Goals as goal

pub loop-i-preserved : goal.loop-i-preserved
loop-i-preserved c = given_more _ _ _ _ c.loop-i.invariant (lacking_is _ _ _ _ _ _ c.lacks.ensures c.if-lacks.false)
