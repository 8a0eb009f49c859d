-- `substitution::substitute_leaf_into` meets its contract. A use is written as the shifted argument, another local with its lowered number,
-- and any other record as it is. Assumes nothing.
use native.Mathlib.Omega.{arith}
use Rattle.substitution.proofs.Writers.{replaces, substitution_copy, substitution_whole, wrote_copy, wrote_leaf, wrote_copied}
use borrow.Author.Rules.{rules}
use Rattle.substitution.proofs.substitute_leaf_into.Goals as goal

pub shift_into-copy-requires : goal.shift_into-copy-requires
shift_into-copy-requires c = search (rules, substitution_copy)

pub returns-then-n-k : goal.returns-then-n-k
returns-then-n-k c = search (rules, wrote_copy)

pub returns-then-b : goal.returns-then-b
returns-then-b c =
    λ x q. wrote_leaf _ (replaces x) _ _ _ _ _ _ _ _ (substitution_whole _ _ _ _ _ c.requires.0) c.if-b.true
    c.number_at-n.ensures.0 (c.lowered.ensures.0 x) c.put_record.ensures (omega arith)

pub returns : goal.returns
returns c = search (rules, wrote_copied, replaces, substitution_whole)
