-- `agenda::locals::is_unused` meets its contract. The walk over the part came to its end exactly if the part does not use the local.
-- Assumes nothing.
use Rattle.agenda.proofs.Lacking.{not_unused, is_unused}
use Rattle.agenda.proofs.locals.is_unused.Goals as goal

pub returns-then-mark-ne1 : goal.returns-then-mark-ne1
returns-then-mark-ne1 c = not_unused _ _ _

pub returns : goal.returns
returns c = rw c.is_some.ensures (is_unused _ _ _ _ c.if-mark-ne1.false c.ask_part.ensures)
