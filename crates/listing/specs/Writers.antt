-- What the functions that write a line and its values need, and what they leave.
--   entry_records o            the number of records of an entry's value
--   entry_bytes k o            the bytes of an entry whose value stands in the value table from record k on
--   entry_values o             the bytes of its value
--   SpanStands s x v           the value v stands in s where the span x says
--   EntryStands s e o          the entry e, with the bytes s, is the entry o of a line
--   LineStands s a l           the entries a, with the bytes s, are the line l
--   count_of e                  the number of records that an entry says
--   entries_records a          the number of records that entries say
--   WriteEntry, EntryWritten   what writing one entry needs, and what it leaves
--   WriteLine, WroteLine the same of the entries from the i-th on
use Rattle.std.specs.Prelude.{◌≡◌, List, [], ◌∷◌, ℕ, ◌+◌, ◌*◌, ◌≤◌, length, drop}
use Rattle.std.proofs.Math.Option.{Option, none, some}
use Rattle.std.proofs.lemmas.List.Edits.{sets}
use Rattle.terms.specs.Figures.{variables, table_bytes}
use Rattle.terms.specs.Term.{Term, size}
use Rattle.terms.specs.Table.{encode}
use Rattle.terms.specs.Listing.{Line}
use Rattle.terms.specs.Layout.{word, line_value_records, line_bytes, line_values}
use Rattle.records.specs.Parts.{Part}
use Rattle.assignments.specs.declared.Span.{Span}
use Rattle.assignments.specs.declared.Entry.{Entry}
use Rattle.assignments.specs.declared.Entry.TheVariants.{Open, Assigned}

abbrev pub entry_records : Option Term → ℕ
entry_records none = 0
entry_records (some v) = size v

abbrev pub entry_bytes : ℕ → Option Term → List ℕ
entry_bytes k none = word 0 (word 0 [])
entry_bytes k (some v) = word k (word (size v) [])

abbrev pub entry_values : Option Term → List ℕ
entry_values none = []
entry_values (some v) = encode v

pub record SpanStands (s : List ℕ) (x : Span) (v : Term) : Type 0 where
  pub part : Part s (4 * x.first) v
  pub count : x.count ≡ size v

unfoldable pub EntryStands : List ℕ → Entry → Option Term → Type 0
EntryStands s Open none = Unit {0}
EntryStands s Open (some v) = ⊥
EntryStands s (Assigned x) none = ⊥
EntryStands s (Assigned x) (some v) = SpanStands s x v

unfoldable pub LineStands : List ℕ → List Entry → Line → Type 0
LineStands s [] [] = Unit {0}
LineStands s [] (o ∷ l) = ⊥
LineStands s (e ∷ a) [] = ⊥
LineStands s (e ∷ a) (o ∷ l) = EntryStands s e o × LineStands s a l

abbrev pub count_of : Entry → ℕ
count_of Open = 0
count_of (Assigned x) = x.count

abbrev pub entries_records : List Entry → ℕ
entries_records [] = 0
entries_records (e ∷ a) = count_of e + entries_records a

pub record WriteEntry (s : List ℕ) (e : Entry) (lines : List ℕ) (at : ℕ) (values : List ℕ) (first : ℕ) : Type 0 where
  pub entry : Option Term
  pub stands : EntryStands s e entry
  pub room : at + 4 ≤ length lines
  pub values_room : 4 * (first + entry_records entry) ≤ length values
  pub values_most : length values ≤ table_bytes

pub record EntryWritten (s : List ℕ) (e : Entry) (lines : List ℕ) (at : ℕ) (values : List ℕ) (first : ℕ) (lines_after values_after : List ℕ)
    (next : ℕ) : Type 0 where
  pub records : (o : Option Term) → EntryStands s e o → next ≡ first + entry_records o
  pub bytes : (o : Option Term) → EntryStands s e o → lines_after ≡ sets lines at (entry_bytes first o)
  pub copied : (o : Option Term) → EntryStands s e o → values_after ≡ sets values (4 * first) (entry_values o)

pub record WriteLine (s : List ℕ) (a : List Entry) (i : ℕ) (lines : List ℕ) (at : ℕ) (values : List ℕ) (first : ℕ) : Type 0 where
  pub line : Line
  pub stands : LineStands s (drop i a) line
  pub upto : i ≤ variables
  pub room : at + 4 * variables ≤ length lines + 4 * i
  pub values_room : 4 * (first + line_value_records line) ≤ length values
  pub values_most : length values ≤ table_bytes
  pub entries : length a ≡ variables

pub record WroteLine (s : List ℕ) (a : List Entry) (lines : List ℕ) (at : ℕ) (values : List ℕ) (first : ℕ)
    (lines_after values_after : List ℕ) (next : ℕ) : Type 0 where
  pub records : (l : Line) → LineStands s a l → next ≡ first + line_value_records l
  pub bytes : (l : Line) → LineStands s a l → lines_after ≡ sets lines at (line_bytes first l)
  pub copied : (l : Line) → LineStands s a l → values_after ≡ sets values (4 * first) (line_values l)
