-- `joins::pairs::find_pair` meets its contract. The loop's invariant: the constants are none of the pairs passed, each of which stands for
-- one local. Assumes nothing.
use Rattle.joins.proofs.Spines.{PairPassed}
use Rattle.joins.proofs.pairs.find_pair.Given as goal

abbrev pub invariant-loop-k : goal.invariant-loop-k
invariant-loop-k l = PairPassed l.pattern l.q l.m l.n l.d l.k
