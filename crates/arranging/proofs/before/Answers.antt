-- `arranging::before` meets its contract. The loop's invariant: the entries passed are the same, so that the others decide. Assumes
-- nothing.
use Rattle.arranging.proofs.Comparing.{undecided_start, decided_earlier, decided_later, undecided_next}
use borrow.Author.Rules.{rules}
use Rattle.arranging.proofs.before.Goals as goal

pub loop-variable-init : goal.loop-variable-init
loop-variable-init c = search (rules, undecided_start)

pub returns-in-Less : goal.returns-in-Less
returns-in-Less c = search (rules, decided_earlier)

pub returns-in-Greater : goal.returns-in-Greater
returns-in-Greater c = search (rules, decided_later)

pub loop-variable-preserved : goal.loop-variable-preserved
loop-variable-preserved c = search (rules, undecided_next)
