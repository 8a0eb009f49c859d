-- `reducts::join` meets its contract: the application's record, its head and its argument are written one behind another.
-- Assumes nothing.
use Rattle.reducts.proofs.Reducts.{reduct_too_long, joined}
use borrow.Author.Rules.{rules}
use Rattle.reducts.proofs.join.Goals as goal

pub returns-then-n-gt-PATTERN_BYTES : goal.returns-then-n-gt-PATTERN_BYTES
returns-then-n-gt-PATTERN_BYTES c = λ x y e g. reduct_too_long _ _ _

pub returns : goal.returns
returns c = search (rules, joined)
