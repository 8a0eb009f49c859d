-- `refusals::judge_tables` meets its contract: the line's test is the first row, and the other rows follow. Assumes nothing.
use Rattle.refusals.proofs.Judging.{bad_line, good_line}
use borrow.Author.Rules.{rules}
use Rattle.refusals.proofs.judge_tables.Goals as goal

pub returns-then-line-ne-LINE : goal.returns-then-line-ne-LINE
returns-then-line-ne-LINE c = search (rules, bad_line)

pub returns : goal.returns
returns c = search (rules, good_line)
