-- Lines and values as bytes, as document 01's section "Lines and values" has them.
--   word n rest          a 16-bit number, high byte first, and then rest
--   line_value_records l   the number of records of a line's values; values_records ls: of the values of several lines
--   line_bytes k l       the bytes of a line whose values stand in the value table from record k on
--   line_values l        the bytes of its values
--   line_table k ls      the bytes of lines whose values stand from record k on
--   value_table ls       the bytes of their values
--   word_at l k           the 16-bit number that stands in l at byte k
--   Stored l s i v       the line l, with the value table s, gives variable i the value v
use Rattle.std.specs.Prelude.{◌≡◌, List, [], ◌∷◌, ◌++◌, ℕ, ◌+◌, ◌*◌, ◌/◌, ◌%◌, ◌≤◌, length, get_or, take, drop}
use Rattle.std.proofs.Math.Option.{none, some}
use Rattle.terms.specs.Figures.{value_records}
use Rattle.terms.specs.Term.{Term, size, Value}
use Rattle.terms.specs.Table.{encode}
use Rattle.terms.specs.Listing.{Line}

abbrev pub word : ℕ → List ℕ → List ℕ
word n rest = (n / 256) ∷ (n % 256) ∷ rest

abbrev pub line_value_records : Line → ℕ
line_value_records [] = 0
line_value_records (none ∷ l) = line_value_records l
line_value_records (some v ∷ l) = size v + line_value_records l

-- "for variables 0 to 7 in turn, first record and count of records, 16 bits each, high byte first. An open entry is four zero bytes"
abbrev pub line_bytes : ℕ → Line → List ℕ
line_bytes k [] = []
line_bytes k (none ∷ l) = word 0 (word 0 (line_bytes k l))
line_bytes k (some v ∷ l) = word k (word (size v) (line_bytes (k + size v) l))

-- "Values stand in the value table in line order, then variable order, from record 0, one copy per entry."
abbrev pub line_values : Line → List ℕ
line_values [] = []
line_values (none ∷ l) = line_values l
line_values (some v ∷ l) = encode v ++ line_values l

abbrev pub line_table : ℕ → List Line → List ℕ
line_table k [] = []
line_table k (l ∷ ls) = line_bytes k l ++ line_table (k + line_value_records l) ls

abbrev pub values_records : List Line → ℕ
values_records [] = 0
values_records (l ∷ ls) = line_value_records l + values_records ls

abbrev pub value_table : List Line → List ℕ
value_table [] = []
value_table (l ∷ ls) = line_values l ++ value_table ls

abbrev pub word_at : List ℕ → ℕ → ℕ
word_at l k = get_or l k 0 * 256 + get_or l (k + 1) 0

-- "an assigned one has a count above 0, and its first record may be 0"; what cause 11 finds missing is a field here
pub record Stored (l s : List ℕ) (i : ℕ) (v : Term) : Type 0 where
  pub least : 1 ≤ word_at l (4 * i + 2)
  pub most : word_at l (4 * i + 2) ≤ value_records
  pub within : 4 * (word_at l (4 * i) + word_at l (4 * i + 2)) ≤ length s
  pub bytes : take (4 * word_at l (4 * i + 2)) (drop (4 * word_at l (4 * i)) s) ≡ encode v
  pub value : Value v
