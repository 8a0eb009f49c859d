-- `enumeration::enumerate_short` meets its contract: what the first search has written, if it has found no more than it has room for,
-- are the lines of the one full listing. Assumes nothing.
use native.Mathlib.Omega.{arith}
use Rattle.records.proofs.Tests.{says}
use Rattle.enumeration.specs.Steps.{Short}
use Rattle.enumeration.proofs.Searches.{copyable, answered, listable_kept}
use Rattle.enumeration.proofs.enumerate_short.Goals as goal

pub copy_lines-requires : goal.copy_lines-requires
copy_lines-requires c =
    let h =
    says (Short c.collect-found.result.lines c.collect-found.result.records _) _ _ c.is_short.ensures c.if-is_short.true in
    λ r.
    copyable _ _ c.requires.pattern_checked c.requires.recipe_checked _ _ _ _ _ _ c.collect-found.ensures h.0
    (omega (arith, c.few_lines-few.ensures, h.0)) (omega (arith, h.1)) _ _ _ (omega (arith, c.few_lines-few.ensures, h.0))
    (omega (arith, r)) (listable_kept _ _ _ _ _ c.requires _ c.collect-found.auto.work)

pub returns-then-is_short : goal.returns-then-is_short
returns-then-is_short c =
    let h =
    says (Short c.collect-found.result.lines c.collect-found.result.records _) _ _ c.is_short.ensures c.if-is_short.true in
    answered _ _ c.requires.pattern_checked c.requires.recipe_checked _ _ _ _ _ _ c.collect-found.ensures h.0 _ _
    c.few_lines-few.ensures.0 (omega (arith, c.few_lines-few.ensures, h.0, c.short_line_table-short_lines.ensures))
    (λ r. omega (arith, h.1, c.short_value_table-short_values.ensures)) _ _ _ c.copy_lines.ensures
