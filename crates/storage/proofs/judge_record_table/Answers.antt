-- `storage::judge_record_table` meets its contract. Assumes nothing.
use Rattle.storage.proofs.Judges.{table_bad, table_good}
use borrow.Author.Rules.{rules}
use Rattle.storage.proofs.judge_record_table.Goals as goal

pub returns-then-table : goal.returns-then-table
returns-then-table c = search (rules, table_bad)

pub returns : goal.returns
returns c = search (rules, table_good)
