-- `enumeration::copy_lines` meets its contract: the lent tables begin with the lines found, and arranging brings these into order.
-- Assumes nothing.
use mathlib.Core.Path.{refl}
use native.Mathlib.Omega.{arith}
use Rattle.enumeration.proofs.Searches.{copy_arranges, copied_lines, copied_none}
use Rattle.enumeration.proofs.copy_lines.Goals as goal

pub returns-then-values-records : goal.returns-then-values-records
returns-then-values-records c = copied_none _ _ _ _ _ (omega (arith, c.if-values-records.true))

pub arrange-requires : goal.arrange-requires
arrange-requires c =
    copy_arranges _ _ _ _ _ _ (c.requires c.if-values-records.false) _ _ refl refl _ _ c.copy_into.ensures
    c.copy_into-2.ensures c.copy_into.auto.out c.copy_into-2.auto.out

pub returns : goal.returns
returns c =
    copied_lines _ _ _ _ _ _ (c.requires c.if-values-records.false) _ _ refl refl _ _ c.copy_into.ensures
    c.copy_into-2.ensures c.if-values-records.false _ _ c.arrange.ensures
