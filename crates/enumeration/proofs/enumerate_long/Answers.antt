-- `enumeration::enumerate_long` meets its contract: the lines found are those of the one full listing, decide whether it has room,
-- and are then all in the search's own tables. Assumes nothing.
use native.Mathlib.Omega.{arith}
use Rattle.enumeration.proofs.Searches.{copyable, answered, listable_kept}
use Rattle.enumeration.proofs.enumerate_long.Goals as goal

pub copy_lines-requires : goal.copy_lines-requires
copy_lines-requires c =
    λ r.
    copyable _ _ c.requires.pattern_checked c.requires.recipe_checked _ _ _ _ _ _ c.collect-found.ensures (omega arith)
    (omega (arith, c.requires.lines_most)) (omega (arith, r, c.requires.values_most)) _ _ _ (omega arith) (omega (arith, r))
    (listable_kept _ _ _ _ _ c.requires _ c.collect-found.auto.work)

pub returns : goal.returns
returns c =
    answered _ _ c.requires.pattern_checked c.requires.recipe_checked _ _ _ _ _ _ c.collect-found.ensures (omega arith) _ _
    (omega arith) (omega (arith, c.requires.lines_most)) (λ r. omega (arith, r, c.requires.values_most)) _ _ _
    c.copy_lines.ensures
