-- What the steps of a book's search need, and what they answer.
--   BookTables b r w         the book b, the recipe r and the work area w are ones that it searches
--   RecipeGiven v c o a q    what writing the new recipe v answers, c pairs having been tried, and leaves in q
--   OutcomeGiven x o a q     so it is of the outcome x
--   WholeGiven ..            what comes of the whole
--   BookAnswered b r o a q   what comes of the search
use Rattle.std.specs.Prelude.{◌≡◌, List, ℕ, ◌*◌, ◌/◌, ◌≤◌, length}
use Rattle.std.specs.declared.result.Result.{Result}
use Rattle.std.specs.declared.result.Result.TheVariants.{Ok, Err}
use Rattle.terms.specs.Figures.{table_bytes, place_bytes, most_places}
use Rattle.terms.specs.Term.{Term, size}
use Rattle.terms.specs.Table.{encode, IsTable}
use Rattle.terms.specs.Refusal.{Refused, Passed}
use Rattle.records.specs.Checks.{Recipe}
use Rattle.records.specs.Parts.{Part}
use Rattle.refusals.specs.declared.Refusal.{Refusal}
use Rattle.refusals.specs.Judged.{number}
use Rattle.refusals.specs.Lent.{overwritten}
use Rattle.rules.specs.Steps.{Rules}
use Rattle.replacing.specs.Replacing.{replaced}
use Rattle.scanning.specs.Search.{BookOutcome, given, refused, WholeSwept, Found}
use Rattle.book.specs.declared.NewRecipe.{NewRecipe}
use Rattle.book.specs.Operations.{last_rows}

pub record BookTables (b r w : List ℕ) : Type 0 where
  pub rules : Rules b
  pub few : length b / place_bytes ≤ most_places
  pub recipe : Recipe r
  pub area : length w ≡ table_bytes

unfoldable pub RecipeGiven : Term → ℕ → List ℕ → Result NewRecipe Refusal → List ℕ → Type 0
RecipeGiven v c o (Ok x) q = Passed (last_rows v o) × (x.records ≡ size v) × (x.pairs ≡ c) × (q ≡ overwritten (encode v) o)
RecipeGiven v c o (Err e) q = Refused (last_rows v o) (number e) × (q ≡ o)

unfoldable pub OutcomeGiven : BookOutcome → List ℕ → Result NewRecipe Refusal → List ℕ → Type 0
OutcomeGiven (given v c) o a q = RecipeGiven v c o a q
OutcomeGiven (refused k) o (Ok _) q = ⊥
OutcomeGiven (refused k) o (Err e) q = (k ≡ number e) × (q ≡ o)

abbrev pub WholeGiven : List ℕ → ℕ → List ℕ → ℕ → List ℕ → Result NewRecipe Refusal → List ℕ → Type 0
WholeGiven r k f c o a q =
    (t u : Term) → Part r (4 * k) t → f ≡ encode u
    → (w : Term) × IsTable (replaced r k t u) w × ((x : BookOutcome) × WholeSwept w c x × OutcomeGiven x o a q)

abbrev pub BookAnswered : List ℕ → List ℕ → List ℕ → Result NewRecipe Refusal → List ℕ → Type 0
BookAnswered b r o a q = (x : BookOutcome) × Found b r x × OutcomeGiven x o a q
