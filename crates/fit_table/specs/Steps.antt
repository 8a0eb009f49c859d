-- What writing a row or a column needs. Devices of the proofs.
--   RuleReady k r w          the rules of the book k can be set against the recipe r
--   RowReady f b k r w       the row of buoy b can be written, for the book k and the recipe r
--   ColumnReady f i p d t w  the column of place i can be written, for the left side p and a shelf
use Rattle.std.specs.Prelude.{◌≡◌, List, ℕ, ◌<◌, length}
use Rattle.terms.specs.Figures.{table_bytes, most_places, buoys}
use Rattle.terms.specs.Refusal.{Passed, recipe_rows}
use Rattle.records.specs.Checks.{Pattern, Recipe}
use Rattle.rules.specs.Rules.{book_bytes}
use Rattle.rules.specs.Steps.{TakenRules}
use Rattle.storage.specs.Steps.{Shelf}
use Rattle.fit_table.specs.FitTable.{fit_bytes}

pub record RuleReady (k r w : List ℕ) : Type 0 where
  pub book : length k ≡ book_bytes
  pub rules : TakenRules k
  pub passed : Passed (recipe_rows r)
  pub recipe : Recipe r
  pub area : length w ≡ table_bytes

pub record RowReady (f : List ℕ) (b : ℕ) (k r w : List ℕ) : Type 0 where
  pub fit : length f ≡ fit_bytes
  pub within : b < buoys
  pub ready : RuleReady k r w

pub record ColumnReady (f : List ℕ) (i : ℕ) (p d t w : List ℕ) : Type 0 where
  pub fit : length f ≡ fit_bytes
  pub within : i < most_places
  pub left : Pattern p
  pub shelf : Shelf d t
  pub area : length w ≡ table_bytes
