-- `reducts::guards::is_guarded` meets its contract. Each way out is one case of the definition, told from a table; the measure is the
-- table's length. Assumes nothing.
use borrow.Author.Tests.{not-true, not-false}
use borrow.Author.Rules.{rules}
use Rattle.reducts.proofs.Arguments.{guarded_body, guarded_stop, guarded_constant, guarded_argument}
use Rattle.reducts.proofs.guards.+is_guarded.Goals as goal

pub returns-then-not-is_guarded : goal.returns-then-not-is_guarded
returns-then-not-is_guarded t c = search (rules, guarded_stop, not-true)

pub returns-then-is_local : goal.returns-then-is_local
returns-then-is_local t c = search (rules, guarded_constant, not-false)

pub returns-then-kind : goal.returns-then-kind
returns-then-kind t c = search (rules, guarded_argument, not-false)

pub returns-then-kind-2 : goal.returns-then-kind-2
returns-then-kind-2 t c = search (rules, guarded_body)
