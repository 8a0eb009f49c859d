-- A pair of a closed part and a rule, as document 02's request "A book of rules" has it. Pair is the document's word.
--   full_lines, full_records   how many lines, and how many records of values, full tables have room for
--   ListedPair p q t         the rule whose sides have the tables p and q, and its full listing with the part t
--   line_zero ls             line 0 of a listing that isn't empty
--   Usable q ls              the listing "isn't empty" and its "line 0 leaves no variable of the right side open"
--   filling l i              what line l puts for variable i: its value, or `k0` where it is open
--   sides_rows p q φ         the rows of the sides p and q, filled by φ
--   PairOutcome              what comes of a pair: the search goes on, a form that stands for the part, or a refusal's number
--   Unless rows refuse o W   the first row whose cause holds ends the search, with its number; if none does, W
--   Tried p q t o            o comes of the rule with the tables p and q, and of the part t
use Rattle.std.specs.Prelude.{◌≡◌, List, [], ◌∷◌, ◌⊎◌, ℕ, ◌*◌, ◌/◌, ◌<◌, length, get_or}
use Rattle.terms.specs.Figures.{variables, swept_records, table_bytes, most_sweeps}
use Rattle.terms.specs.Term.{Term, con}
use Rattle.terms.specs.Table.{IsTable}
use Rattle.terms.specs.Sweep.{largest, fill}
use Rattle.terms.specs.Normalization.{FirstNormal}
use Rattle.terms.specs.Assignment.{entry, value_or, Complete}
use Rattle.terms.specs.Listing.{Line, Full}
use Rattle.terms.specs.Refusal.{Row, Refused, Passed, listing_rows, normal_form_rows}

-- "Listings here [..] are those that full tables get."
abbrev pub full_lines : ℕ
full_lines = table_bytes / (4 * variables)

abbrev pub full_records : ℕ
full_records = table_bytes / 4

pub record ListedPair (p q : List ℕ) (t : Term) : Type 0 where
  pub left : Term
  pub right : Term
  pub left_table : IsTable p left
  pub right_table : IsTable q right
  pub lines : List Line
  pub full : Full variables left t lines

abbrev pub line_zero : List Line → Line
line_zero ls = get_or ls 0 []

-- "whose listing isn't empty and whose line 0 leaves no variable of the right side open"
abbrev pub Usable : Term → List Line → Type 0
Usable q ls = (0 < length ls) × Complete q (line_zero ls)

-- "A variable open in the left side alone is filled with `k0`."
abbrev pub filling : Line → ℕ → Term
filling l i = value_or (con 0) (entry l i)

-- "what rewrite gives, 12 on the left included". Rewrite's 11 has no row, since line 0, so filled, stores a value for each variable
-- (`proofs/LineZero`), nor its 14, since that is a match (`proofs/Matches`); its 13 is asked of the new recipe alone
abbrev pub sides_rows : Term → Term → (ℕ → Term) → List Row
sides_rows p q φ = (12, swept_records < largest (fill φ p)) ∷ normal_form_rows (λ t. t ≡ fill φ q) 1

pub data PairOutcome : Type 0 where
  next : PairOutcome
  form : Term → PairOutcome
  stop : ℕ → PairOutcome

-- "A refusal 9, 10, 12 or 15 on the way ends the search with that number."
module _ {A : Type 0} where
  abbrev pub Unless : List Row → (ℕ → A) → A → Type 0 → Type 0
  Unless rows refuse o W = ((k : ℕ) × Refused rows k × (o ≡ refuse k)) ⊎ (Passed rows × W)

-- "Put what rewrite gives [..] in the part's place": its form, if none of these rows has a cause
abbrev pub PairRewritten : Term → Term → (ℕ → Term) → PairOutcome → Type 0
PairRewritten p q φ o = Unless (sides_rows p q φ) stop o ((u : Term) × FirstNormal most_sweeps 1 (fill φ q) u × (o ≡ form u))

abbrev pub Used : Term → Term → List Line → PairOutcome → Type 0
Used p q ls o = (¬ Usable q ls × (o ≡ next)) ⊎ (Usable q ls × PairRewritten p q (filling (line_zero ls)) o)

abbrev pub Tried : List ℕ → List ℕ → Term → PairOutcome → Type 0
Tried p q t o =
    (x : ListedPair p q t) × Unless (listing_rows full_lines full_records x.lines) stop o (Used x.left x.right x.lines o)
