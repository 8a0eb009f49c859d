-- `reducts::guards::has_constant_head` meets its contract. An application begins as its head does, and any other term with its first
-- record; the measure is the table's length. Assumes nothing.
use borrow.Author.Rules.{rules}
use Rattle.reducts.proofs.Arguments.{constant_head_lem, constant_leaf}
use Rattle.reducts.proofs.guards.+has_constant_head.Goals as goal

pub returns-then-kind : goal.returns-then-kind
returns-then-kind t c = search (rules, constant_head_lem)

pub returns : goal.returns
returns t c = search (rules, constant_leaf)
