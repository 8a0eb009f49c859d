-- The table of which rules fit which buoy. Document 02, request "Which rules fit which buoy, always up to date". Fit table is our name for
-- it; the document has none.
--   fit_bytes, fit_rows f   how many bytes it has, and its row 8
--   entry_at b i             where the entry of buoy b and place i stands
--   Fits p r                the left side of the table p has a match with the recipe of the table r
--   RuleFits k i r          so has that of the rule at place i of the book k
--   Marks n P               the entry n answers the question P
--   Afresh k m f            f is the table worked out afresh, for the book k and what each buoy has, which m tells
--   Written here W f f'     the entries that lie in `here` answer W in f', and no other byte of f was written
--   RowWritten, ColumnWritten   so it is of the entries of one buoy, and of those of one place
use Rattle.std.specs.Prelude.{◌≡◌, List, [], ◌∷◌, ◌⊎◌, ℕ, ◌+◌, ◌*◌, ◌≤◌, ◌<◌, length, get_or}
use Rattle.terms.specs.Figures.{pattern_records, most_places, buoys}
use Rattle.terms.specs.Refusal.{Row, Passed, recipe_rows}
use Rattle.rules.specs.Rules.{left_count, left_table}
use Rattle.fitting.specs.Fitting.{HasMatch}

-- "a lent table of 200 buoys by 64 book places, row by row, a byte each [..]; another length gets 8"
abbrev pub fit_bytes : ℕ
fit_bytes = most_places * buoys

abbrev pub entry_at : ℕ → ℕ → ℕ
entry_at b i = most_places * b + i

abbrev pub fit_rows : List ℕ → List Row
fit_rows f = (8, ¬ (length f ≡ fit_bytes)) ∷ []

-- "the rule's left side has a match with the buoy's whole recipe": r passes 4 to 7, which on a shelf of ours every recipe does
abbrev pub Fits : List ℕ → List ℕ → Type 0
Fits p r = Passed (recipe_rows r) × HasMatch p r

-- a count above 32 is no side, wherever the book ends; the left side of an empty place has no records, and so no match
abbrev pub RuleFits : List ℕ → ℕ → List ℕ → Type 0
RuleFits k i r = (left_count k i ≤ pattern_records) × Fits (left_table k i) r

-- "1 for yes and 0 for no"
abbrev pub Marks : ℕ → Type 0 → Type 0
Marks n P = ((n ≡ 1) × P) ⊎ ((n ≡ 0) × ¬ P)

-- "the table equals one worked out afresh"; "An entry is yes exactly if the rule's left side has a match with the buoy's whole recipe."
abbrev pub Afresh : List ℕ → (ℕ → List ℕ) → List ℕ → Type 0
Afresh k m f = (b i : ℕ) → b < buoys → i < most_places → Marks (get_or f (entry_at b i) 0) (RuleFits k i (m b))

-- "whatever table is lent, only that rule's column or that buoy's row was written"
pub record Written (here W : ℕ → ℕ → Type 0) (f f' : List ℕ) : Type 0 where
  pub size : length f' ≡ length f
  pub entries : (b i : ℕ) → b < buoys → i < most_places → here b i → Marks (get_or f' (entry_at b i) 0) (W b i)
  pub others : (b i : ℕ) → b < buoys → i < most_places → ¬ here b i → get_or f' (entry_at b i) 0 ≡ get_or f (entry_at b i) 0

abbrev pub RowWritten : ℕ → (ℕ → Type 0) → List ℕ → List ℕ → Type 0
RowWritten b W f f' = Written (λ c i. c ≡ b) (λ c i. W i) f f'

abbrev pub ColumnWritten : ℕ → (ℕ → Type 0) → List ℕ → List ℕ → Type 0
ColumnWritten i W f f' = Written (λ b j. j ≡ i) (λ b j. W b) f f'
