-- What a book's search answers, and what it leaves in the tables it was lent. Document 02, request "A book of rules".
--   book_table_rows, places_rows  the rows 8 of the tables that are lent, and the row 16
--   lent_for_book b r o w         all rows that the lent tables decide, in the document's order
--   last_rows v o                 the rows 17 and 13 of the new recipe v
--   WrittenRecipe b r o n c after the new recipe, of n records, is written to o, c pairs having been tried
--   Stopped b r o k               the search ends with the refusal k, or the new recipe is refused with it
--   Booked                        what an answer says, by its cases
use Rattle.std.specs.Prelude.{◌≡◌, List, [], ◌∷◌, ◌++◌, ◌⊎◌, ℕ, ◌*◌, ◌/◌, ◌%◌, ◌<◌, length}
use Rattle.std.specs.declared.result.Result.{Result}
use Rattle.std.specs.declared.result.Result.TheVariants.{Ok, Err}
use Rattle.terms.specs.Figures.{recipe_records, place_bytes, most_places}
use Rattle.terms.specs.Term.{Term, size}
use Rattle.terms.specs.Table.{encode}
use Rattle.terms.specs.Refusal.{Row, Refused, Passed, BadTable, BadArea, recipe_rows}
use Rattle.refusals.specs.declared.Refusal.{Refusal}
use Rattle.refusals.specs.Judged.{number}
use Rattle.refusals.specs.Lent.{overwritten}
use Rattle.rules.specs.Rules.{places, rules_rows}
use Rattle.scanning.specs.Search.{BookOutcome, given, refused, Found}
use Rattle.book.specs.declared.NewRecipe.{NewRecipe}

-- "A length that is no multiple of 260 gets 8."
abbrev pub book_table_rows : List ℕ → List ℕ → List ℕ → List Row
book_table_rows b o w = (8, ¬ (length b % place_bytes ≡ 0)) ∷ (8, BadTable 4 o) ∷ (8, BadArea w) ∷ []

-- "16 for a book that is empty or above 64 places, before all else but 8"
abbrev pub places_rows : List ℕ → List Row
places_rows b = (16, (length b / place_bytes ≡ 0) ⊎ (most_places < length b / place_bytes)) ∷ []

-- "Rules are checked in book order, left then right, and the recipe after them."
abbrev pub lent_for_book : List ℕ → List ℕ → List ℕ → List ℕ → List Row
lent_for_book b r o w = (book_table_rows b o w ++ places_rows b) ++ (rules_rows b (places b) ++ recipe_rows r)

-- "17 when the new recipe is above 96 records, last but for 13"
abbrev pub last_rows : Term → List ℕ → List Row
last_rows v o = (17, recipe_records < size v) ∷ (13, length o < 4 * size v) ∷ []

-- "Reported are the new recipe's records and the number of pairs"; "bytes behind what is written stay"
pub record WrittenRecipe (b r o : List ℕ) (n c : ℕ) (after : List ℕ) : Type 0 where
  pub form : Term
  pub found : Found b r (given form c)
  pub room : Passed (last_rows form o)
  pub records : n ≡ size form
  pub bytes : after ≡ overwritten (encode form) o

pub record Stopped (b r o : List ℕ) (k : ℕ) : Type 0 where
  pub outcome : BookOutcome
  pub found : Found b r outcome
  pub cause : (outcome ≡ refused k) ⊎ ((v : Term) × (c : ℕ) × (outcome ≡ given v c) × Refused (last_rows v o) k)

-- "it and every later number comes alone and leaves all tables as they were"
unfoldable pub Booked : List ℕ → List ℕ → List ℕ → List ℕ → Result NewRecipe Refusal → List ℕ → Type 0
Booked b r o w (Ok x) after = Passed (lent_for_book b r o w) × WrittenRecipe b r o x.records x.pairs after
Booked b r o w (Err k) after =
    (Refused (lent_for_book b r o w) (number k) ⊎ (Passed (lent_for_book b r o w) × Stopped b r o (number k))) × (after ≡ o)
