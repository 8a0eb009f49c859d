-- The pairs of closed part and rule, in the order in which document 02's request "A book of rules" tries them. Pair is the document's word.
--   Parts r k n ps   ps are the closed parts of the recipe's table r that begin at record k or at one of the n - 1 behind it
--   each_of f l      what f gives for each of l, one behind another
--   with_rules p is  the pairs of the closed part p and each rule at a place of is
--   pairs ps is      the pairs of each closed part of ps and each rule at a place of is
use Rattle.std.specs.Prelude.{◌≡◌, List, [], ◌∷◌, ◌++◌, ◌⊎◌, ℕ, zero, suc, ◌*◌}
use Rattle.terms.specs.Term.{Term, Closed}
use Rattle.records.specs.Parts.{Part}

-- "the first closed part, in record order": a part begins at each record, and is passed over if it isn't closed
abbrev pub Parts : List ℕ → ℕ → ℕ → List (ℕ × Term) → Type 0
Parts r k zero ps = ps ≡ []
Parts r k (suc n) ps =
    (t : Term) × Part r (4 * k) t
    × ((Closed 0 t × ((qs : List (ℕ × Term)) × (ps ≡ (k, t) ∷ qs) × Parts r (suc k) n qs)) ⊎ (¬ Closed 0 t × Parts r (suc k) n ps))

module _ {A B : Type 0} where
  abbrev pub each_of : (A → List B) → List A → List B
  each_of f [] = []
  each_of f (x ∷ l) = f x ++ each_of f l

-- a closed part, by its first record, and the place of a rule
abbrev pub Pair : Type 0
Pair = (ℕ × Term) × ℕ

-- "and for it the first rule, in book order"
abbrev pub with_rules : ℕ × Term → List ℕ → List Pair
with_rules p is = each_of (λ i. (p, i) ∷ []) is

abbrev pub pairs : List (ℕ × Term) → List ℕ → List Pair
pairs ps is = each_of (λ p. with_rules p is) ps
