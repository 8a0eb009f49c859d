-- `sweeping::contract_redex` meets its contract: the size of the substituted body is known from its uses before it is written. Assumes
-- nothing.
use native.Mathlib.Omega.{arith}
use Rattle.records.proofs.Slices.{slice_length}
use Rattle.sweeping.proofs.Contraction.{redex_whole, redex_too_long, redex_substitution, redex_written}
use borrow.Author.Rules.{rules}
use Rattle.sweeping.proofs.contract_redex.Goals as goal

pub count_uses-uses-requires : goal.count_uses-uses-requires
count_uses-uses-requires c =
    let n = slice_length c.args.head.now 4 in
    search (rules, redex_whole)

pub returns-then-bytes-gt-SWEPT_BYTES : goal.returns-then-bytes-gt-SWEPT_BYTES
returns-then-bytes-gt-SWEPT_BYTES c = search (rules, redex_too_long)

pub substitute_into-requires : goal.substitute_into-requires
substitute_into-requires c =
    redex_substitution _ _ c.requires.1 _ _ c.count_uses-uses.ensures _ c.requires.0 (omega arith)
    (omega arith)

pub returns : goal.returns
returns c =
    redex_written _ _ c.requires.1 _ _ c.count_uses-uses.ensures _ _ _ _ (omega arith) c.substitute_into.ensures
