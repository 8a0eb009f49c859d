-- `joins::pairs::find_pair` meets its contract. The loop's invariant: the constants are none of the pairs passed, each of which stands for
-- one local. Assumes nothing.
use Rattle.joins.proofs.Spines.{passed_pair, passed_next, pairs_passed}
use borrow.Author.Rules.{rules}
use Rattle.joins.proofs.pairs.find_pair.Goals as goal

pub returns-then-is_pair : goal.returns-then-is_pair
returns-then-is_pair c = search (rules, passed_pair)

pub loop-k-preserved : goal.loop-k-preserved
loop-k-preserved c = search (rules, passed_next)

pub returns : goal.returns
returns c = search (rules, pairs_passed)
