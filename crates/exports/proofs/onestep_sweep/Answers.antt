-- `exports::onestep_sweep` meets its contract: the number is that of sweep's answer. Assumes nothing.
use Rattle.exports.proofs.Answers.{few_counts, swept_few}
use Rattle.exports.proofs.onestep_sweep.Goals as goal

pub count_code-requires : goal.count_code-requires
count_code-requires c = few_counts _ (swept_few _ _ _ _ _ _ _ c.sweep.ensures.answer)
