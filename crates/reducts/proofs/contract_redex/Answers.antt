-- `reducts::contract_redex` meets its contract: the size of the substituted body is known from its uses before it is written.
-- Assumes nothing.
use native.Mathlib.Omega.{arith}
use Rattle.records.proofs.Slices.{slice_length}
use Rattle.sweeping.proofs.Contraction.{redex_whole, redex_substitution}
use Rattle.reducts.proofs.Reducts.{reduct_too_long, contracted}
use borrow.Author.Rules.{rules}
use Rattle.reducts.proofs.contract_redex.Goals as goal

pub count_uses-uses-requires : goal.count_uses-uses-requires
count_uses-uses-requires c =
    let n = slice_length c.args.head.now 4 in
    search (rules, redex_whole)

pub returns-then-bytes-gt-PATTERN_BYTES : goal.returns-then-bytes-gt-PATTERN_BYTES
returns-then-bytes-gt-PATTERN_BYTES c = λ x y e g. reduct_too_long _ _ _

pub substitute_into-requires : goal.substitute_into-requires
substitute_into-requires c =
    redex_substitution _ _ c.requires.1 _ _ c.count_uses-uses.ensures _ c.requires.0 (omega (arith, c.if-bytes-gt-PATTERN_BYTES.false))
    (omega (arith, c.if-bytes-gt-PATTERN_BYTES.false))

pub returns : goal.returns
returns c =
    contracted _ _ c.requires.1 _ _ c.count_uses-uses.ensures _ _ _ _ c.if-bytes-gt-PATTERN_BYTES.false c.substitute_into.ensures
