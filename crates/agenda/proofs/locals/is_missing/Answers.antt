-- `agenda::locals::is_missing` meets its contract. A local that the argument's target doesn't use is looked for in the head. Assumes
-- nothing.
use Rattle.agenda.proofs.Missing.{missing_unused, missing_none}
use borrow.Author.Rules.{rules}
use Rattle.agenda.proofs.locals.is_missing.Goals as goal

pub returns-then-other-eq1 : goal.returns-then-other-eq1
returns-then-other-eq1 c = missing_none _ _ _ _

pub returns : goal.returns
returns c = search (rules, missing_unused)
