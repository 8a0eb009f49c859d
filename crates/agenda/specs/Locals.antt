-- Locals that a target has and a part of the pattern lacks, each the term that a list begins with.
--   Unused P k m b             if b, local k is marked by m, and the term of P doesn't use it
--   Locals P W                 P and W begin with terms whose loose locals can be compared
--   Lacks P W b                if b, the term of W has a loose local that the term of P lacks
--   Missing P k m n b          if b, local k is marked by m and not by n, and the term of P doesn't use it
--   ArgumentComparable P W E   the three begin with terms, and each loose local of the two targets, those of W and E, has a mark
--   Misses P W E b             if b, the term of W has a loose local that neither the term of E nor the term of P uses
use Rattle.std.specs.Prelude.{◌≡◌, Bool, true, false, List, ℕ, ◌*◌, ◌≤◌, length}
use Rattle.terms.specs.Figures.{pattern_records}
use Rattle.terms.specs.Term.{Term, uses}
use Rattle.records.specs.Parts.{Part, Whole}
use Rattle.shifting.specs.Locals.{Marks}

unfoldable pub Unused : List ℕ → ℕ → ℕ → Bool → Type 0
Unused P k m true = (m ≡ 1) × ((p : Term) → Part P 0 p → uses k p ≡ false)
Unused P k m false = Unit {0}

pub record Locals (P W : List ℕ) : Type 0 where
  pub part : Whole P 0
  pub short : length P ≤ 4 * pattern_records
  pub target : Marks W 0 pattern_records

unfoldable pub Lacks : List ℕ → List ℕ → Bool → Type 0
Lacks P W true = (k : ℕ) × ((p t : Term) → Part P 0 p → Part W 0 t → (uses k p ≡ false) × (uses k t ≡ true))
Lacks P W false = Unit {0}

unfoldable pub Missing : List ℕ → ℕ → ℕ → ℕ → Bool → Type 0
Missing P k m n true = (m ≡ 1) × ¬ (n ≡ 1) × ((f : Term) → Part P 0 f → uses k f ≡ false)
Missing P k m n false = Unit {0}

pub record ArgumentComparable (P W E : List ℕ) : Type 0 where
  pub part : Whole P 0
  pub short : length P ≤ 4 * pattern_records
  pub target : Marks W 0 pattern_records
  pub argument : Marks E 0 pattern_records

unfoldable pub Misses : List ℕ → List ℕ → List ℕ → Bool → Type 0
Misses P W E true =
    (k : ℕ) × ((f t x : Term) → Part P 0 f → Part W 0 t → Part E 0 x → (uses k t ≡ true) × (uses k f ≡ false) × (uses k x ≡ false))
Misses P W E false = Unit {0}
