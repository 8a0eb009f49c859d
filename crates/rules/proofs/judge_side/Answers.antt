-- `rules::judge_side` meets its contract: the count is judged first, and then the counted records. Assumes nothing.
use Rattle.rules.proofs.Rules.{side_long, side_short}
use borrow.Author.Rules.{rules}
use Rattle.rules.proofs.judge_side.Goals as goal

pub returns-then-word_at-gt-PATTERN_RECORDS : goal.returns-then-word_at-gt-PATTERN_RECORDS
returns-then-word_at-gt-PATTERN_RECORDS c = search (rules, side_long)

pub returns : goal.returns
returns c = search (rules, side_short)
