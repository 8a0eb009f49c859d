-- The lines of a listing in order.
--   Sorted ls ms             ms are the lines ls in order
--   Arranges L X n k s       what arranging a listing needs
--   InLineOrder L X ls M Y   M and Y are the tables L and X with the lines ls in order; the bytes behind stay
--   Arranged L X n k M Y     so it is for all n lines that L and X begin with, with k records of values
use Rattle.std.specs.Prelude.{◌≡◌, List, ◌++◌, ◌↔◌, ℕ, ◌*◌, ◌≤◌, length, drop}
use Rattle.terms.specs.Figures.{variables, table_bytes}
use Rattle.terms.specs.Listing.{In, Line, Rising}
use Rattle.terms.specs.Layout.{line_table, values_records, value_table}
use Rattle.terms.specs.Members.{Distinct}
use Rattle.listing.specs.Outcome.{Tables}

pub record Sorted (ls ms : List Line) : Type 0 where
  pub rising : Rising ms
  pub members : (l : Line) → In l ms ↔ In l ls
  pub count : length ms ≡ length ls
  pub records : values_records ms ≡ values_records ls

pub record Arranges (lines values : List ℕ) (count records : ℕ) (work : List ℕ) : Type 0 where
  pub found : List Line
  pub tables : Tables lines values found
  pub distinct : Distinct found
  pub lines_are : count ≡ length found
  pub records_are : records ≡ values_records found
  pub lines_most : length lines ≤ table_bytes
  pub values_most : length values ≤ table_bytes
  pub area : length work ≡ table_bytes

pub record InLineOrder (lines values : List ℕ) (ls : List Line) (lines_after values_after : List ℕ) : Type 0 where
  pub order : List Line
  pub sorted : Sorted ls order
  pub lines_begin : lines_after ≡ line_table 0 order ++ drop (4 * variables * length ls) lines
  pub values_begin : values_after ≡ value_table order ++ drop (4 * values_records ls) values

pub record Arranged (lines values : List ℕ) (count records : ℕ) (lines_after values_after : List ℕ) : Type 0 where
  pub arranged : (ls : List Line) → Tables lines values ls → Distinct ls → count ≡ length ls → records ≡ values_records ls
      → InLineOrder lines values ls lines_after values_after
