-- The search through the pairs of closed part and rule, as document 02's request "A book of rules" has it.
--   BookOutcome               what the search ends with: the new recipe and a number of pairs, or a refusal's number
--   WholeSwept w c o          o comes of the whole w, c pairs having been tried
--   PairEnds p q r k t c o    the search ends with o at the pair of the part t, at record k, and the rule with the tables p and q
--   SearchEnds b r s xs c o   from the pairs xs on, c having been passed over, it ends with o; s is the recipe
--   Found b r o               so it does from the first pair on
use Rattle.std.specs.Prelude.{◌≡◌, List, [], ◌∷◌, ◌⊎◌, ℕ, suc}
use Rattle.terms.specs.Figures.{most_sweeps}
use Rattle.terms.specs.Term.{Term, size}
use Rattle.terms.specs.Table.{IsTable}
use Rattle.terms.specs.Normalization.{FirstNormal}
use Rattle.terms.specs.Refusal.{normal_form_rows}
use Rattle.rules.specs.Rules.{left_table, right_table, places}
use Rattle.rules.specs.Pairs.{Parts, Pair, pairs}
use Rattle.replacing.specs.Replacing.{replaced}
use Rattle.attempts.specs.Pairs.{Unless, next, form, stop, Tried}

pub data BookOutcome : Type 0 where
  given : Term → ℕ → BookOutcome
  refused : ℕ → BookOutcome

-- "sweep the whole until normal as in W-201, with no sweep if it is normal already"
abbrev pub WholeSwept : Term → ℕ → BookOutcome → Type 0
WholeSwept w c o = Unless (normal_form_rows (λ t. t ≡ w) 0) refused o ((v : Term) × FirstNormal most_sweeps 0 w v × (o ≡ given v c))

-- "Put what rewrite gives [..] in the part's place"; c is "the number of pairs of closed part and rule up to and with the one used"
abbrev pub PairEnds : List ℕ → List ℕ → List ℕ → ℕ → Term → ℕ → BookOutcome → Type 0
PairEnds p q r k t c o =
    ((n : ℕ) × Tried p q t (stop n) × (o ≡ refused n))
    ⊎ ((u w : Term) × Tried p q t (form u) × IsTable (replaced r k t u) w × WholeSwept w c o)

-- "or of all pairs. If nothing applies, the recipe is given back."
abbrev pub SearchEnds : List ℕ → List ℕ → Term → List Pair → ℕ → BookOutcome → Type 0
SearchEnds b r s [] c o = o ≡ given s c
SearchEnds b r s (((k, t), i) ∷ xs) c o =
    (Tried (left_table b i) (right_table b i) t next × SearchEnds b r s xs (suc c) o)
    ⊎ PairEnds (left_table b i) (right_table b i) r k t (suc c) o

-- "Given a book and a recipe, find the first closed part, in record order, and for it the first rule, in book order"
pub record Found (b r : List ℕ) (o : BookOutcome) : Type 0 where
  pub term : Term
  pub table : IsTable r term
  pub parts : List (ℕ × Term)
  pub closed : Parts r 0 (size term) parts
  pub searched : SearchEnds b r term (pairs parts (places b)) 0 o
