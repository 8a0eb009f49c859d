-- What becomes of the lines that a search finds, and the tables of a listing.
--   line_records                 the most records that the values of one line have
--   Outcome                      the two tables, how many lines were found, and how many records their values have
--   outcome lines values t       the tables as bytes, with the tally t
--   none_found                   the tally before a line is found
--   fits o l                     whether the line l still fits both tables
--   store o l                    a line more: written where it fits both tables, counted in any case
--   stores o ls                  lines one after another
--   Storable s a L X t           what storing a found line needs
--   LineStored s a L X t M Y r   the tables M and Y with the tally r are L and X with t, and the line of the entries a stored
--   Laid X L l                   L begins with the bytes of the line l, whose values stand together in X
--   Lines X L ls                 L is lines whose values stand in X, each line's together, in any order of lines
--   Tables L X ls                L and X begin with the tables of the lines ls
use Rattle.std.specs.Prelude.{◌≡◌, Bool, cond, ◌&&◌, List, [], ◌∷◌, ◌++◌, ℕ, ◌+◌, ◌*◌, ◌≤◌, ◌<◌, leb, length, drop}
use Rattle.std.proofs.lemmas.List.Edits.{sets}
use Rattle.terms.specs.Figures.{variables, table_bytes, value_records}
use Rattle.terms.specs.Listing.{In, Line}
use Rattle.terms.specs.Layout.{line_value_records, line_bytes, line_values, line_table, values_records, value_table}
use Rattle.assignments.specs.Held.{Holds}
use Rattle.assignments.specs.declared.Entry.{Entry}
use Rattle.listing.specs.declared.Tally.{Tally}

abbrev pub line_records : ℕ
line_records = value_records * variables

pub record Outcome : Type 0 where
  pub lines : List ℕ
  pub values : List ℕ
  pub count : ℕ
  pub records : ℕ

abbrev pub outcome : List ℕ → List ℕ → Tally → Outcome
outcome lines values t = record { lines = lines; values = values; count = t.lines; records = t.records }

abbrev pub none_found : Tally
none_found = record { lines = 0; records = 0 }

-- a line has 4 bytes for each variable, a record 4 bytes
abbrev pub fits : Outcome → Line → Bool
fits o l = leb (4 * variables * (o.count + 1)) (length o.lines) && leb (4 * (o.records + line_value_records l)) (length o.values)

-- lines stand in the order in which they are found, and so do their values
abbrev pub line_written : Outcome → Line → Outcome
line_written o l = record {
  lines = sets o.lines (4 * variables * o.count) (line_bytes o.records l);
  values = sets o.values (4 * o.records) (line_values l);
  count = o.count + 1;
  records = o.records + line_value_records l;
}

abbrev pub counted : Outcome → Line → Outcome
counted o l = record { lines = o.lines; values = o.values; count = o.count + 1; records = o.records + line_value_records l }

unfoldable pub store : Outcome → Line → Outcome
store o l = cond (fits o l) (line_written o l) (counted o l)

abbrev pub stores : Outcome → List Line → Outcome
stores o [] = o
stores o (l ∷ ls) = stores (store o l) ls

pub record Storable (s : List ℕ) (a : List Entry) (lines values : List ℕ) (done : Tally) : Type 0 where
  pub line : Line
  pub top : ℕ
  pub holds : Holds s top a line
  pub area : length s ≤ table_bytes
  pub lines_most : length lines ≤ table_bytes
  pub values_most : length values ≤ table_bytes
  pub few : done.lines < table_bytes
  pub records_few : done.records ≤ line_records * done.lines

pub record LineStored (s : List ℕ) (a : List Entry) (lines values : List ℕ) (done : Tally) (lines_after values_after : List ℕ)
    (r : Tally) : Type 0 where
  pub stored : (top : ℕ) (l : Line) → Holds s top a l → outcome lines_after values_after r ≡ store (outcome lines values done) l

pub record Laid (values bytes : List ℕ) (l : Line) : Type 0 where
  pub first : ℕ
  pub rest : List ℕ
  pub behind : List ℕ
  pub line : bytes ≡ line_bytes first l ++ rest
  pub stand : drop (4 * first) values ≡ line_values l ++ behind
  pub within : 4 * (first + line_value_records l) ≤ length values
  pub entries : length l ≡ variables

abbrev pub Lines : List ℕ → List ℕ → List Line → Type 0
Lines values bytes [] = bytes ≡ []
Lines values bytes (l ∷ ls) = (x : Laid values bytes l) × Lines values x.rest ls

pub record Tables (lines values : List ℕ) (ls : List Line) : Type 0 where
  pub entries : (l : Line) → In l ls → length l ≡ variables
  pub lines_begin : lines ≡ line_table 0 ls ++ drop (4 * variables * length ls) lines
  pub values_begin : values ≡ value_table ls ++ drop (4 * values_records ls) values
