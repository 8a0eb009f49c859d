-- What a search for a match needs, and what two heads tell. Devices of the proofs.
--   Searchable p t w   p and t are the tables of a pattern and a recipe, and w is a work area
--   Excluded p t b     if b, the pattern of the table p has no match with the recipe of the table t
use Rattle.std.specs.Prelude.{◌≡◌, Bool, true, false, List, [], ℕ, length}
use Rattle.terms.specs.Figures.{variables, table_bytes}
use Rattle.terms.specs.Term.{Term}
use Rattle.terms.specs.Table.{IsTable}
use Rattle.terms.specs.Listing.{Full}
use Rattle.records.specs.Checks.{Pattern, Recipe}

pub record Searchable (p t w : List ℕ) : Type 0 where
  pub pattern : Pattern p
  pub recipe : Recipe t
  pub area : length w ≡ table_bytes

unfoldable pub Excluded : List ℕ → List ℕ → Bool → Type 0
Excluded p t true = (q u : Term) → IsTable p q → IsTable t u → Full variables q u []
Excluded p t false = Unit {0}
