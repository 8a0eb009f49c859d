-- `enumeration::enumerate` meets its contract: the reduct is a pattern with the same full listing. Where it is too long the pattern
-- itself is searched. Assumes nothing.
use mathlib.Core.Path.{refl}
use native.Mathlib.Omega.{arith}
use Rattle.reducts.proofs.Reducts.{reducible, reduct_table}
use Rattle.enumeration.proofs.Reducts.{listable, enumerated}
use borrow.Author.Rules.{rules}
use Rattle.enumeration.proofs.enumerate.Goals as goal

pub reduce-requires : goal.reduce-requires
reduce-requires c = search (rules, reducible)

pub overflow_mul-n : goal.overflow_mul-n
overflow_mul-n c =
    omega (
      arith,
      (reduct_table _ _ _ _ _ (c.in-Some.ensures c.requires.pattern_checked.tree c.requires.pattern_checked.table.0)
          refl (omega arith)).few,
    )

pub slice_bounds-enumerate_short-end : goal.slice_bounds-enumerate_short-end
slice_bounds-enumerate_short-end c =
    (reduct_table _ _ _ _ _ (c.in-Some.ensures c.requires.pattern_checked.tree c.requires.pattern_checked.table.0)
    refl (omega arith)).within

pub enumerate_short-requires-2 : goal.enumerate_short-requires-2
enumerate_short-requires-2 c =
    let o = reduct_table _ _ _ _ _ (c.in-Some.ensures c.requires.pattern_checked.tree c.requires.pattern_checked.table.0)
    refl (omega arith) in
    listable _ _ c.requires.pattern_checked o.bytes (omega (arith, o.fills, o.few)) _ _ _ _ c.requires

pub returns : goal.returns
returns c =
    let o = reduct_table _ _ _ _ _ (c.in-Some.ensures c.requires.pattern_checked.tree c.requires.pattern_checked.table.0)
    refl (omega arith) in
    search (rules, enumerated)
