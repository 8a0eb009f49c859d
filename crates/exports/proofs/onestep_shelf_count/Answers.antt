-- `exports::onestep_shelf_count` meets its contract: the number is that of count's answer. Assumes nothing.
use Rattle.exports.proofs.Answers.{counted_few}
use Rattle.exports.proofs.onestep_shelf_count.Goals as goal

pub count_code-requires : goal.count_code-requires
count_code-requires c = counted_few _ _ c.count.ensures
