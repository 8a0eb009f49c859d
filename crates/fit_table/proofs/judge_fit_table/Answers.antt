-- `fit_table::judge_fit_table` meets its contract. Assumes nothing.
use borrow.Author.Rules.{rules}
use Rattle.fit_table.proofs.Entries.{fit_bad, fit_good}
use Rattle.fit_table.proofs.judge_fit_table.Goals as goal

pub returns-then-fit-ne-FIT_BYTES : goal.returns-then-fit-ne-FIT_BYTES
returns-then-fit-ne-FIT_BYTES c = search (rules, fit_bad)

pub returns : goal.returns
returns c = search (rules, fit_good)
