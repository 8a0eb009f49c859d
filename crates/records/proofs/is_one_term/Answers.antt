-- `records::is_one_term` meets its contract. The part that the table begins with ends at the table's end exactly if the table is one tree,
-- whose locals `is_closed` tests. Assumes nothing.
use native.Mathlib.Omega.{arith}
use lib.ListN.{length}
use borrow.Author.Tests.{lt-leb}
use Rattle.records.proofs.Checks.{none_found_lem, more_behind, tree_found, one_term}
use borrow.Author.Rules.{rules}
use Rattle.records.proofs.is_one_term.Goals as goal

pub is_closed-requires : goal.is_closed-requires
is_closed-requires c = (search (rules, tree_found), omega arith)

pub returns-then-table-end : goal.returns-then-table-end
returns-then-table-end c = one_term _ _ (tree_found _ _ c.requires.0 c.in-Some.ensures c.if-table-end.true) c.is_closed.ensures

pub returns-else-table-end : goal.returns-else-table-end
returns-else-table-end c =
    rw (lt-leb (length c.args.table.now) c.in-Some.end c.if-table-end.false) (more_behind _ _ c.in-Some.ensures c.if-table-end.false)

pub returns-in-None : goal.returns-in-None
returns-in-None c = none_found_lem _ c.in-None.ensures
