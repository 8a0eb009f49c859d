-- `agenda::keep_heights` meets its contract. The heights are written into an array of their own, and copied from there. Assumes nothing.
use Rattle.agenda.proofs.Targets.{target_source, heights_copied}
use mathlib.Core.Path.{refl}
use borrow.Author.Rules.{rules}
use Rattle.agenda.proofs.keep_heights.Goals as goal

pub heights_into-requires : goal.heights_into-requires
heights_into-requires c = search (rules, target_source)

pub returns : goal.returns
returns c =
    heights_copied _ _ _ c.requires _ _ _ refl refl c.heights_into.ensures _ c.copy_into.ensures
