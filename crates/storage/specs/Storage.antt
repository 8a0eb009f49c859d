-- The two tables of a shelf: what they hold, for any bytes at all, and the causes 8, 18 and 19. Document 02, request "A shelf for two
-- hundred recipes". Where recipes lie is left free there; it is said here for the next engineer, and the law of the shelf
-- (`history/specs/Law`) speaks of none of it.
--   directory_bytes       what a directory has: bytes 0 to 199 are the counts of records, 200 to 231 the counters, the others are for later
--   counts_of d           how many records each buoy's recipe has, 0 for none
--   counter_number        how many counters there are
--   count_of k d           the number of counter k
--   raised_at k d         the directory d with counter k raised by one, up to the ceiling
--   held d t              what the buoys have: for each its recipe's bytes, or none
--   recipe_of b d t       what buoy b has
--   BadDirectory d        d is no directory: another length, or its counts together exceed the record table
--   buoy_rows, directory_rows, record_table_rows, absent_rows, room_rows   the rows 18, 8, 8, 18 and 19
--   Stored k b r d t d' t'   the bytes r are put in the place of buoy b's recipe, and counter k counts that: both tables, to the last byte
use Rattle.std.specs.Prelude.{◌≡◌, List, [], ◌∷◌, ◌⊎◌, ℕ, ◌+◌, ◌*◌, ◌/◌, ◌≤◌, ◌<◌, length, take, set, get_or}
use Rattle.std.proofs.lemmas.List.Edits.{sets}
use Rattle.terms.specs.Figures.{buoys, shelf_records}
use Rattle.terms.specs.Refusal.{Row}
use Rattle.slots.specs.Slots.{total, cut, replaced}
use Rattle.counters.specs.Counters.{count_at, counter_bytes, raised}

abbrev pub directory_bytes : ℕ
directory_bytes = 24576

abbrev pub counts_of : List ℕ → List ℕ
counts_of d = take buoys d

abbrev pub counter_number : ℕ
counter_number = 8

abbrev pub counter_at : ℕ → ℕ
counter_at k = buoys + 4 * k

abbrev pub count_of : ℕ → List ℕ → ℕ
count_of k d = count_at d (counter_at k)

abbrev pub raised_at : ℕ → List ℕ → List ℕ
raised_at k d = sets d (counter_at k) (counter_bytes (raised (count_of k d)))

abbrev pub held : List ℕ → List ℕ → List (List ℕ)
held d t = cut (counts_of d) t

abbrev pub recipe_of : ℕ → List ℕ → List ℕ → List ℕ
recipe_of b d t = get_or (held d t) b []

abbrev pub BadDirectory : List ℕ → Type 0
BadDirectory d = ¬ (length d ≡ directory_bytes) ⊎ (shelf_records < total (counts_of d))

-- "18 for a buoy above 199"
abbrev pub buoy_rows : ℕ → List Row
buoy_rows b = (18, buoys ≤ b) ∷ []

abbrev pub directory_rows : List ℕ → List Row
directory_rows d = (8, BadDirectory d) ∷ []

-- "in one lent record table of 16,384 records (another length gets 8)"
abbrev pub record_table_rows : List ℕ → List Row
record_table_rows t = (8, ¬ (length t ≡ 4 * shelf_records)) ∷ []

-- "or one without a recipe on reading or taking out"
abbrev pub absent_rows : ℕ → List ℕ → List Row
absent_rows b d = (18, get_or (counts_of d) b 0 ≡ 0) ∷ []

-- "19 when the kept recipes of other buoys and the new one exceed the table"
abbrev pub room_rows : ℕ → List ℕ → List ℕ → List Row
room_rows b r d = (19, shelf_records < total (set (counts_of d) b (length r / 4))) ∷ []

-- "put (replacing what the buoy had), take out": the record table begins with all recipes in buoy order, and its bytes behind the last one,
-- which the document leaves free, stay as they were
pub record Stored (k b : ℕ) (r d t d' t' : List ℕ) : Type 0 where
  pub directory : d' ≡ raised_at k (set d b (length r / 4))
  pub table : t' ≡ replaced (counts_of d) t b r
