-- The causes of refusal, as document 01's table in the section "Operations" and document 02's requests have them, each with its number and
-- its place in the order. Those that a book of rules alone has, 16 and 17, stand beside that operation.
--   Row              a refusal number, and its cause
--   Refused rows k   "Each is given when its cause holds and no earlier one does": k is the number of the first row whose cause holds
--   Passed rows      no row's cause holds
--   pattern_rows l   the rows 1 to 3 of a table for a pattern or a right side
--   recipe_rows l    the rows 4 to 7 of a table for a recipe
--   list_table_rows, assignment_table_rows, output_table_rows   the rows 8 of the tables that an operation is lent
--   Filled p l s t   the pattern's table p, filled from the line l and the value table s, is the term t
--   Matches p l s r  the filled pattern sweeps to the term of the recipe's table r
--   listing_rows, assignment_rows, swept_form_rows, output_rows, unmatched_rows   the rows 9 and 10, 11, 12, 13 and 14
--   normal_form_rows F least, normal_output_rows F least o   the rows 12 and 15, and the row 13, where a term of F is swept until normal
use Rattle.std.specs.Prelude.{◌≡◌, false, List, [], ◌∷◌, ◌⊎◌, ℕ, suc, ◌*◌, ◌%◌, ◌<◌, length}
use Rattle.terms.specs.Figures.{variables, pattern_records, recipe_records, swept_records, table_bytes, most_sweeps}
use Rattle.terms.specs.Term.{Term, size, Normal, Occurs}
use Rattle.terms.specs.Table.{good_records, IsTable}
use Rattle.terms.specs.Sweep.{sweep, largest, fill}
use Rattle.terms.specs.Normalization.{NoneNormal, FirstNormal, SweepTooLong}
use Rattle.terms.specs.Listing.{Line}
use Rattle.terms.specs.Layout.{Stored, values_records}

abbrev pub Row : Type 1
Row = ℕ × Type 0

abbrev pub Refused : List Row → ℕ → Type 0
Refused [] k = ⊥
Refused (r ∷ rows) k = (r.1 × (k ≡ r.0)) ⊎ (¬ r.1 × Refused rows k)

abbrev pub Passed : List Row → Type 0
Passed [] = Unit {0}
Passed (r ∷ rows) = ¬ r.1 × Passed rows

-- "length 0, above 128 bytes, or no multiple of 4", for most records
abbrev pub BadLength : ℕ → List ℕ → Type 0
BadLength most l = (length l ≡ 0) ⊎ ((4 * most < length l) ⊎ ¬ (length l % 4 ≡ 0))

-- "It isn't one tree, or a local lacks a binder"
abbrev pub NoTerm : List ℕ → Type 0
NoTerm l = (t : Term) → ¬ IsTable l t

abbrev pub pattern_rows : List ℕ → List Row
pattern_rows l = (1, BadLength pattern_records l) ∷ (2, good_records variables l ≡ false) ∷ (3, NoTerm l) ∷ []

-- "Recipe not normal", for a table of at most so many records
abbrev pub normal_rows : ℕ → List ℕ → List Row
normal_rows most l = (4, BadLength most l) ∷ (5, good_records 0 l ≡ false) ∷ (6, NoTerm l) ∷ (7, (t : Term) → IsTable l t → ¬ Normal t) ∷ []

abbrev pub recipe_rows : List ℕ → List Row
recipe_rows l = normal_rows recipe_records l

-- "no multiple of 32 or above 65,536 bytes", "no multiple of 4 or above 65,536": a table of places of so many bytes
abbrev pub BadTable : ℕ → List ℕ → Type 0
BadTable place l = (table_bytes < length l) ⊎ ¬ (length l % place ≡ 0)

-- "32 exactly for an assignment"
abbrev pub BadLine : List ℕ → Type 0
BadLine l = ¬ (length l ≡ 4 * variables)

-- "work area not 65,536"
abbrev pub BadArea : List ℕ → Type 0
BadArea l = ¬ (length l ≡ table_bytes)

-- the tables that list is lent, those that an assignment comes in, and an output
abbrev pub list_table_rows : List ℕ → List ℕ → List ℕ → List Row
list_table_rows lines values area = (8, BadTable (4 * variables) lines) ∷ (8, BadTable 4 values) ∷ (8, BadArea area) ∷ []

abbrev pub assignment_table_rows : List ℕ → List ℕ → List ℕ → List Row
assignment_table_rows line values area = (8, BadLine line) ∷ (8, BadTable 4 values) ∷ (8, BadArea area) ∷ []

abbrev pub output_table_rows : List ℕ → List Row
output_table_rows output = (8, BadTable 4 output) ∷ []

-- "the full listing needs more lines than are lent"; "Lines suffice, the values need more records than lent"
abbrev pub listing_rows : ℕ → ℕ → List Line → List Row
listing_rows lines records ls = (9, lines < length ls) ∷ (10, records < values_records ls) ∷ []

-- the term that a pattern's table p becomes, filled from a line l and a value table s
pub record Filled (p l s : List ℕ) (t : Term) : Type 0 where
  pub term : Term
  pub table : IsTable p term
  pub φ : ℕ → Term
  pub stored : (i : ℕ) → Occurs i term → Stored l s i (φ i)
  pub is : t ≡ fill φ term

-- variable i occurs in the term of the table p
abbrev pub OccursIn : List ℕ → ℕ → Type 0
OccursIn p i = (t : Term) × IsTable p t × Occurs i t

-- "A variable that occurs is open or has a count of 0, or its value runs past its table, is above 160 records, not one tree, not closed,
-- not normal, or holds a bad record or a variable", for the variables of S
abbrev pub assignment_rows : (ℕ → Type 0) → List ℕ → List ℕ → List Row
assignment_rows S l s = (11, (i : ℕ) × S i × ((v : Term) → ¬ Stored l s i v)) ∷ []

-- "The swept form of some part of the filled pattern is above 256 records"
abbrev pub swept_form_rows : List ℕ → List ℕ → List ℕ → List Row
swept_form_rows p l s = (12, (t : Term) × Filled p l s t × (swept_records < largest t)) ∷ []

-- "Output table shorter than the swept form"
abbrev pub output_rows : List ℕ → List ℕ → List ℕ → List ℕ → List Row
output_rows p l s o = (13, (t : Term) × Filled p l s t × (length o < 4 * size (sweep t))) ∷ []

-- "Rewrite: the assignment isn't a match of left", for the recipe's table r
abbrev pub Matches : List ℕ → List ℕ → List ℕ → List ℕ → Type 0
Matches p l s r = (t : Term) × Filled p l s t × IsTable r (sweep t)

abbrev pub unmatched_rows : List ℕ → List ℕ → List ℕ → List ℕ → List Row
unmatched_rows p l s r = (14, ¬ Matches p l s r) ∷ []

-- "Number 12 applies to each sweep"; "15 when 64 sweeps reach no normal form, placed after 12 on the right side"
abbrev pub normal_form_rows : (Term → Type 0) → ℕ → List Row
normal_form_rows F least =
    (12, (t : Term) × F t × SweepTooLong most_sweeps least t) ∷ (15, (t : Term) × F t × NoneNormal least (suc most_sweeps) t) ∷ []

-- "13 here and later to what is written"
abbrev pub normal_output_rows : (Term → Type 0) → ℕ → List ℕ → List Row
normal_output_rows F least o = (13, (t : Term) × (u : Term) × F t × FirstNormal most_sweeps least t u × (length o < 4 * size u)) ∷ []
