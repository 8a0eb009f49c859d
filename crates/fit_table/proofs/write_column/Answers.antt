-- `fit_table::write_column` meets its contract. The loop's invariant: the entries of the buoys passed are written. Assumes nothing.
use lib.ListN.{length-set}
use Rattle.storage.specs.Storage.{recipe_of}
use Rattle.fit_table.specs.FitTable.{Fits}
use Rattle.fit_table.proofs.Writing.{column_more, column_done}
use borrow.Author.Rules.{rules}
use Rattle.fit_table.proofs.write_column.Goals as goal

pub loop-b-preserved : goal.loop-b-preserved
loop-b-preserved c = (
  search (rules, length-set),
  search rules,
  column_more c.args.place (λ b. Fits c.args.left.now (recipe_of b c.args.directory.now c.args.table.now)) c.args.fit.now (search rules)
      (search rules) c.loop-b.b c.loop-b.fit c.loop-b.invariant.2 c.loop-b-test.true c.held_entry.result
      (rw c.recipe_of-held.ensures at c.held_entry.ensures),
)

pub returns : goal.returns
returns c = search (rules, column_done)
