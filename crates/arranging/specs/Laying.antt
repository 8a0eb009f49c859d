-- What laying out the values of lines in line order needs, and what it leaves. The lines stand in a table in any order of their values,
-- which stand in s.
--   LayLine s L at X k             what laying out one line needs, the line at byte `at` of L, its values from record k of X on
--   LaidLine s L at X k M Y next   what it leaves
--   LayLines s L n X               what laying out the first n lines of L needs
--   LaidLines s L n X M Y          what it leaves
--   LayOut L n X k w               the same where the values stand in the first k records of X itself, with the work area w
--   LaidOut L n X k M Y            what that leaves; the bytes behind stay
use Rattle.std.specs.Prelude.{◌≡◌, List, ◌++◌, ℕ, ◌+◌, ◌*◌, ◌≤◌, length, take, drop}
use Rattle.std.proofs.lemmas.List.Edits.{sets}
use Rattle.terms.specs.Figures.{variables, table_bytes}
use Rattle.terms.specs.Listing.{Line}
use Rattle.terms.specs.Layout.{line_value_records, line_bytes, line_values, line_table, values_records, value_table}
use Rattle.listing.specs.Outcome.{Laid, Lines}

pub record LayLine (s lines : List ℕ) (at : ℕ) (values : List ℕ) (first : ℕ) : Type 0 where
  pub line : Line
  pub laid : Laid s (drop at lines) line
  pub room : at + 4 * variables ≤ length lines
  pub values_room : 4 * (first + line_value_records line) ≤ length values
  pub values_most : length values ≤ table_bytes

pub record LaidLine (s lines : List ℕ) (at : ℕ) (values : List ℕ) (first : ℕ) (lines_after values_after : List ℕ) (next : ℕ) : Type 0 where
  pub records : (l : Line) → Laid s (drop at lines) l → next ≡ first + line_value_records l
  pub bytes : (l : Line) → Laid s (drop at lines) l → lines_after ≡ sets lines at (line_bytes first l)
  pub copied : (l : Line) → Laid s (drop at lines) l → values_after ≡ sets values (4 * first) (line_values l)

pub record LayLines (s lines : List ℕ) (count : ℕ) (values : List ℕ) : Type 0 where
  pub order : List Line
  pub laid : Lines s (take (4 * variables * count) lines) order
  pub room : 4 * variables * count ≤ length lines
  pub values_room : 4 * values_records order ≤ length values
  pub values_most : length values ≤ table_bytes

pub record LaidLines (s lines : List ℕ) (count : ℕ) (values lines_after values_after : List ℕ) : Type 0 where
  pub bytes : (ms : List Line) → Lines s (take (4 * variables * count) lines) ms → lines_after ≡ sets lines 0 (line_table 0 ms)
  pub copied : (ms : List Line) → Lines s (take (4 * variables * count) lines) ms → values_after ≡ sets values 0 (value_table ms)

pub record LayOut (lines : List ℕ) (count : ℕ) (values : List ℕ) (records : ℕ) (work : List ℕ) : Type 0 where
  pub order : List Line
  pub laid : Lines (take (4 * records) values) (take (4 * variables * count) lines) order
  pub records_are : records ≡ values_records order
  pub room : 4 * variables * count ≤ length lines
  pub values_room : 4 * records ≤ length values
  pub values_most : length values ≤ table_bytes
  pub area : length work ≡ table_bytes

pub record LaidOut (lines : List ℕ) (count : ℕ) (values : List ℕ) (records : ℕ) (lines_after values_after : List ℕ) : Type 0 where
  pub bytes : (ms : List Line) → Lines (take (4 * records) values) (take (4 * variables * count) lines) ms
      → lines_after ≡ line_table 0 ms ++ drop (4 * variables * count) lines
  pub copied :
      (ms : List Line) → Lines (take (4 * records) values) (take (4 * variables * count) lines) ms → records ≡ values_records ms
      → values_after ≡ value_table ms ++ drop (4 * records) values
