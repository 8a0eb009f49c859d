-- Entries of an assignment, as the code holds them, and the values that they give.
--   entry_at l i         variable i's entry in the bytes l of a line
--   Read l a n          the entries a are those of the line l, for variables below n
--   Given s a i v       the entries a, with the value table s, give variable i the value v
--   Gives s a φ p       they give each variable i of p the value φ i
--   VariableAt l at i   the record of l at byte `at` is the variable i
--   Mentions l i        a record of the table l is the variable i
--   Lacking l s a i b   b says whether the table l mentions the variable i and the entries a give it no value
--   AllGiven l s a b    b says whether the entries a give each variable of the table l a value
use Rattle.std.specs.Prelude.{◌≡◌, Bool, true, false, cond, List, ℕ, ◌+◌, ◌*◌, ◌≤◌, ◌<◌, eqb, length, get_or, take, drop}
use Rattle.terms.specs.Figures.{variables, value_records}
use Rattle.terms.specs.Term.{Term, Occurs, Value}
use Rattle.terms.specs.Table.{encode, variable_kind}
use Rattle.terms.specs.Layout.{word_at}
use Rattle.records.specs.Record.{number_at}
use Rattle.assignments.specs.declared.Span.{Span}
use Rattle.assignments.specs.declared.Entry.{Entry}
use Rattle.assignments.specs.declared.Entry.TheVariants.{Open, Assigned}

-- "first record and count of records, 16 bits each, high byte first"; a count of 0 is as good as open
unfoldable pub entry_at : List ℕ → ℕ → Entry
entry_at l i = cond (eqb (word_at l (4 * i + 2)) 0) Open (Assigned (record { first = word_at l (4 * i); count = word_at l (4 * i + 2) }))

abbrev pub Read : List ℕ → List Entry → ℕ → Type 0
Read l a n = (i : ℕ) → i < n → get_or a i Open ≡ entry_at l i

pub record Given (s : List ℕ) (a : List Entry) (i : ℕ) (v : Term) : Type 0 where
  pub span : Span
  pub is : get_or a i Open ≡ Assigned span
  pub most : span.count ≤ value_records
  pub within : 4 * (span.first + span.count) ≤ length s
  pub bytes : take (4 * span.count) (drop (4 * span.first) s) ≡ encode v
  pub value : Value v

abbrev pub Gives : List ℕ → List Entry → (ℕ → Term) → Term → Type 0
Gives s a φ p = (i : ℕ) → Occurs i p → Given s a i (φ i)

pub record VariableAt (l : List ℕ) (at i : ℕ) : Type 0 where
  pub kind : get_or l at 0 ≡ variable_kind
  pub number : number_at l at ≡ i

pub record Mentions (l : List ℕ) (i : ℕ) : Type 0 where
  pub index : ℕ
  pub within : 4 * index + 4 ≤ length l
  pub is : VariableAt l (4 * index) i

abbrev pub Lacking : List ℕ → List ℕ → List Entry → ℕ → Bool → Type 0
Lacking l s a i true = Mentions l i × ((v : Term) → ¬ Given s a i v)
Lacking l s a i false = Mentions l i → (v : Term) × Given s a i v

abbrev pub AllGiven : List ℕ → List ℕ → List Entry → Bool → Type 0
AllGiven l s a true = (i : ℕ) → i < variables → Lacking l s a i false
AllGiven l s a false = (i : ℕ) × (i < variables) × Lacking l s a i true
