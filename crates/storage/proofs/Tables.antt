-- The counts of a directory, and the strings of a shelf's two tables. Assumes nothing.
use mathlib.Core.Path.{◌≡◌, ap}
use mathlib.Core.List.{List}
use Prim.Native.Nat.{ℕ, ◌*◌, ◌<◌}
use native.Mathlib.Omega.{arith}
use lib.ListN.{length, take, get_or}
use lib.Seq.{take-take, get_or-take, length-take-le}
use Rattle.terms.specs.Figures.{buoys}
use Rattle.slots.specs.Slots.{total, cut, Bounds}
use Rattle.slots.proofs.Strings.{sized_cut, sized_at}
use Rattle.storage.specs.Storage.{counts_of, recipe_of}
use Rattle.storage.specs.Steps.{Directory, Shelf}

pub counts_length : (d : List ℕ) → Directory d → length (counts_of d) ≡ buoys
counts_length d h = length-take-le buoys d (omega (arith, h.size))

-- all counts, as the part of the directory that has them is lent
pub counts_total : (d : List ℕ) → total (take buoys (counts_of d)) ≡ total (counts_of d)
counts_total d = ap total (take-take buoys buoys d (omega arith))

pub count_at_lem : (d : List ℕ) (b : ℕ) → b < buoys → get_or (counts_of d) b 0 ≡ get_or d b 0
count_at_lem d b h = get_or-take buoys d b 0 h

module _ (d t : List ℕ) (h : Shelf d t) where
  pub shelf_bounds : Bounds (counts_of d) t
  shelf_bounds = record {
    keys = omega (arith, counts_length d h.directory);
    fits = omega (arith, h.directory.fits, h.table);
  }

  pub recipe_length : (b : ℕ) → length (recipe_of b d t) ≡ 4 * get_or (counts_of d) b 0
  recipe_length b = sized_at (counts_of d) (cut (counts_of d) t) b (sized_cut (counts_of d) t shelf_bounds.fits)
