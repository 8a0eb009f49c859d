-- `refusals::judge_table` meets its contract: its one test is the one row. Assumes nothing.
use Rattle.terms.specs.Refusal.{BadTable}
use Rattle.records.proofs.Tests.{says}
use Rattle.refusals.proofs.Judging.{bad_table, good_table}
use Rattle.refusals.proofs.judge_table.Goals as goal

pub returns-then-is_bad_table : goal.returns-then-is_bad_table
returns-then-is_bad_table c = bad_table c.args.place c.args.table.now
    (says (BadTable c.args.place c.args.table.now) _ _
    c.is_bad_table.ensures c.if-is_bad_table.true)

pub returns : goal.returns
returns c = good_table c.args.place c.args.table.now
    (says (BadTable c.args.place c.args.table.now) _ _
    c.is_bad_table.ensures c.if-is_bad_table.false)
