-- `fit_table::write_row` meets its contract. The loop's invariant: the entries of the places passed are written. Assumes nothing.
use Rattle.fit_table.proofs.Writing.{row_more, row_done}
use borrow.Author.Rules.{rules}
use Rattle.fit_table.proofs.write_row.Goals as goal

pub loop-i-preserved : goal.loop-i-preserved
loop-i-preserved c = search (rules, row_more)

pub returns : goal.returns
returns c = search (rules, row_done)
