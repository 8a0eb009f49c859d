-- `substitution::shift_leaf_into` meets its contract. A local is written with its shifted number, and any other record as it is. Assumes
-- nothing.
use Rattle.substitution.proofs.Writers.{shifts, source_whole, source_local, wrote_leaf, wrote_copied}
use borrow.Author.Rules.{rules}
use Rattle.substitution.proofs.shift_leaf_into.Goals as goal

pub shifted-requires : goal.shifted-requires
shifted-requires c =
    source_local _ (shifts _) _ _ _ _ c.requires.0 _ c.if-s.true c.number_at-n.ensures.0

pub returns-then-s : goal.returns-then-s
returns-then-s c = search (rules, wrote_leaf, shifts, source_whole)

pub returns : goal.returns
returns c = search (rules, wrote_copied, shifts, source_whole)
