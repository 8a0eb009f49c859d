-- What is known of the lent tables once they are judged. Devices of the proofs.
--   Puttable b r d t   the recipe r has room in the place of buoy b's
--   Kept b d t         buoy b has a recipe
use Rattle.std.specs.Prelude.{List, ℕ, ◌/◌, ◌≤◌, ◌<◌, length, set, get_or}
use Rattle.terms.specs.Figures.{buoys, shelf_records}
use Rattle.records.specs.Checks.{Recipe}
use Rattle.slots.specs.Slots.{total}
use Rattle.storage.specs.Storage.{counts_of}
use Rattle.storage.specs.Steps.{Shelf}

pub record Puttable (b : ℕ) (r d t : List ℕ) : Type 0 where
  pub within : b < buoys
  pub shelf : Shelf d t
  pub recipe : Recipe r
  pub room : total (set (counts_of d) b (length r / 4)) ≤ shelf_records

pub record Kept (b : ℕ) (d t : List ℕ) : Type 0 where
  pub within : b < buoys
  pub shelf : Shelf d t
  pub some : 0 < get_or (counts_of d) b 0
