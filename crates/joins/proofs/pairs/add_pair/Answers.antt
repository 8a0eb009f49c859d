-- `joins::pairs::add_pair` meets its contract. Each test is a condition for one pair more, and the look-up has the last one.
-- Assumes nothing.
use Rattle.joins.proofs.Spines.{adds_nothing, adds_pair}
use Rattle.records.proofs.Options.{none_found}
use borrow.Author.Rules.{rules}
use Rattle.joins.proofs.pairs.add_pair.Goals as goal

pub returns-then-pattern-i : goal.returns-then-pattern-i
returns-then-pattern-i c = adds_nothing _ _

pub returns-then-pattern-j : goal.returns-then-pattern-j
returns-then-pattern-j c = adds_nothing _ _

pub returns-then-m-n : goal.returns-then-m-n
returns-then-m-n c = adds_nothing _ _

pub returns-then-is_some : goal.returns-then-is_some
returns-then-is_some c = adds_nothing _ _

pub returns : goal.returns
returns c = search (rules, adds_pair, none_found)
