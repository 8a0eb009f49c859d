-- The numbers of refusals, and what a verdict on lent tables says.
--   number c                  the documents' number of the refusal c
--   of_pattern f, of_recipe f   the refusal for what is wrong with a table that is to be a pattern, or a recipe
--   Judged rows W v           the verdict v is the first row whose cause holds; or none does, and W
--   table_row n l, area_row w   the row 8 of a table of places of n bytes, and of the work area
--   FilledTables p l s        the pattern's table p can be filled from the line l and the value table s
use Rattle.std.specs.Prelude.{⊤, ◌≡◌, List, [], ◌∷◌, ℕ, ◌*◌, length}
use Rattle.std.specs.declared.result.Result.{Result}
use Rattle.std.specs.declared.result.Result.TheVariants.{Ok, Err}
use Rattle.terms.specs.Figures.{variables}
use Rattle.terms.specs.Term.{Term}
use Rattle.terms.specs.Refusal.{Row, Refused, Passed, BadTable, BadArea, Filled}
use Rattle.records.specs.Checks.{Pattern}
use Rattle.records.specs.declared.PatternFault.{PatternFault}
use Rattle.records.specs.declared.RecipeFault.{RecipeFault}
use Rattle.refusals.specs.declared.Refusal.{Refusal}

abbrev pub number : Refusal → ℕ
number Refusal.PatternLength = 1
number Refusal.PatternRecord = 2
number Refusal.PatternTerm = 3
number Refusal.RecipeLength = 4
number Refusal.RecipeRecord = 5
number Refusal.RecipeTerm = 6
number Refusal.RecipeRedex = 7
number Refusal.Tables = 8
number Refusal.LineRoom = 9
number Refusal.ValueRoom = 10
number Refusal.Assignment = 11
number Refusal.SweptForm = 12
number Refusal.Output = 13
number Refusal.NoMatch = 14
number Refusal.NoNormalForm = 15
number Refusal.BookSize = 16
number Refusal.LongRecipe = 17
number Refusal.Buoy = 18
number Refusal.ShelfRoom = 19

abbrev pub of_pattern : PatternFault → Refusal
of_pattern PatternFault.BadLength = Refusal.PatternLength
of_pattern PatternFault.BadRecord = Refusal.PatternRecord
of_pattern PatternFault.NoTerm = Refusal.PatternTerm

abbrev pub of_recipe : RecipeFault → Refusal
of_recipe RecipeFault.BadLength = Refusal.RecipeLength
of_recipe RecipeFault.BadRecord = Refusal.RecipeRecord
of_recipe RecipeFault.NoTerm = Refusal.RecipeTerm
of_recipe RecipeFault.NotNormal = Refusal.RecipeRedex

-- "Each is given when its cause holds and no earlier one does, and at no other time."
unfoldable pub Judged : List Row → Type 0 → Result ⊤ Refusal → Type 0
Judged rows W (Ok tt) = Passed rows × W
Judged rows W (Err c) = Refused rows (number c)

-- a row 8 by itself
abbrev pub table_row : ℕ → List ℕ → List Row
table_row place l = (8, BadTable place l) ∷ []

abbrev pub area_row : List ℕ → List Row
area_row w = (8, BadArea w) ∷ []

pub record FilledTables (p l s : List ℕ) : Type 0 where
  pub checked : Pattern p
  pub line : length l ≡ 4 * variables
  pub term : Term
  pub filled : Filled p l s term
