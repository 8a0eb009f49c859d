-- `attempts::use_line` meets its contract. Assumes nothing.
use mathlib.Core.Path.{refl}
use native.Mathlib.Omega.{arith}
use Rattle.attempts.proofs.Listings.{both_filled, used_line}
use Rattle.attempts.proofs.use_line.Goals as goal

pub rewrite_sides-requires : goal.rewrite_sides-requires
rewrite_sides-requires c =
    let x = c.requires.0.1 in
    both_filled _ _ _ _ _ _ x (omega (arith, x.count, c.requires.1)) _ refl _ c.put_record.ensures _ c.fill_open.ensures

pub returns : goal.returns
returns c =
    λ t x. used_line _ _ t _ _ _ x (omega (arith, x.count, c.requires.1)) _ refl _ c.put_record.ensures _ c.fill_open.ensures
    _ _ c.rewrite_sides.ensures
