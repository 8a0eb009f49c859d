-- `exports::onestep_shelf_read` meets its contract: the number is that of read's answer. Assumes nothing.
use Rattle.exports.proofs.Answers.{few_counts, read_few}
use Rattle.exports.proofs.onestep_shelf_read.Goals as goal

pub count_code-requires : goal.count_code-requires
count_code-requires c = few_counts _ (read_few _ _ _ _ _ _ c.read.ensures)
