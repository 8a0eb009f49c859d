-- `exports::onestep_rewrite` meets its contract: the number is that of rewrite's answer. Assumes nothing.
use Rattle.exports.proofs.Answers.{few_counts, rewritten_few}
use Rattle.exports.proofs.onestep_rewrite.Goals as goal

pub count_code-requires : goal.count_code-requires
count_code-requires c = few_counts _ (rewritten_few _ _ _ _ _ _ _ _ _ c.rewrite.ensures.answer)
