-- What is known of a shelf's tables once they are judged, and what a recipe has to be to be stored. Devices of the proofs.
--   Directory d         d is a directory
--   Shelf d t           d and t are the tables of a shelf
--   Storable k b r d t  the bytes r, of whole records, have room in the place of buoy b's recipe
use Rattle.std.specs.Prelude.{◌≡◌, List, ℕ, ◌*◌, ◌≤◌, ◌<◌, length, set}
use Rattle.terms.specs.Figures.{buoys, shelf_records}
use Rattle.slots.specs.Slots.{total}
use Rattle.storage.specs.Storage.{directory_bytes, counts_of, counter_number}

pub record Directory (d : List ℕ) : Type 0 where
  pub size : length d ≡ directory_bytes
  pub fits : total (counts_of d) ≤ shelf_records

pub record Shelf (d t : List ℕ) : Type 0 where
  pub directory : Directory d
  pub table : length t ≡ 4 * shelf_records

pub record Storable (k b : ℕ) (r d t : List ℕ) : Type 0 where
  pub counter : k < counter_number
  pub within : b < buoys
  pub shelf : Shelf d t
  pub records : ℕ
  pub whole : length r ≡ 4 * records
  pub most : records < 256
  pub room : total (set (counts_of d) b records) ≤ shelf_records
