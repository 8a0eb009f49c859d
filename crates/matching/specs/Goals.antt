-- The goals of a search: what a part of the pattern has to come to.
--   Sweeps p t φ     the pattern p, filled by φ, sweeps to t
--   Build f t e φ    the head f sweeps to an abstraction that uses its local and comes to t with e put in
--   Goal             a part has to sweep to a target; or a head to an abstraction that comes to a target with an argument put in
--   Meets g φ        φ satisfies the goal g
--   All gs φ         φ satisfies each goal of gs
--   Suits n S p      the variables of p are below n and in S
--   Listable n S g   the goal's variables are below n and in S, and its target is normal
use Rattle.std.specs.Prelude.{◌≡◌, true, List, [], ◌∷◌, ℕ}
use Rattle.terms.specs.Term.{Term, lam, substitute, uses, Below, Occurs, Normal}
use Rattle.terms.specs.Sweep.{sweep, fill}
use Rattle.matching.specs.Lists.{Predicate}

abbrev pub Sweeps : Term → Term → Predicate
Sweeps p t φ = sweep (fill φ p) ≡ t

-- cut 4, the argument before the choices: each different argument once, and the bodies only when its goal is met
abbrev pub Build : Term → Term → Term → Predicate
Build f t e φ = (b : Term) × Sweeps f (lam b) φ × (substitute 0 e b ≡ t) × (uses 0 b ≡ true)

pub data Goal : Type 0 where
  match : Term → Term → Goal
  build : Term → Term → Term → Goal

abbrev pub Meets : Goal → Predicate
Meets (match p t) φ = Sweeps p t φ
Meets (build f t e) φ = Build f t e φ

abbrev pub All : List Goal → Predicate
All [] φ = Unit {0}
All (g ∷ gs) φ = Meets g φ × All gs φ

abbrev pub Suits : ℕ → (ℕ → Type 0) → Term → Type 0
Suits n S p = Below n p × ((i : ℕ) → Occurs i p → S i)

abbrev pub Listable : ℕ → (ℕ → Type 0) → Goal → Type 0
Listable n S (match p t) = Suits n S p × Normal t
Listable n S (build f t e) = Suits n S f × Normal t
