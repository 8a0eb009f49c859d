-- The ways of an application that was deferred.
--   Way i            the assignments by which the first deferred goal, an application, comes to its target in the i-th way
--   HasWays n hs     the first goal of hs has n ways
--   HasDepths m hs   m has the number of binders above each record of its target
--   HeadLacks hs     its head lacks a loose local of its target
--   Fitting x l hs   its argument fits the skeleton x under each assignment that extends the line l
use Rattle.std.specs.Prelude.{◌≡◌, true, false, List, [], ◌∷◌, ℕ, ◌+◌, ◌<◌, get_or}
use Rattle.terms.specs.Term.{Term, app, lam, loc, con, var, size, uses}
use Rattle.terms.specs.Sweep.{sweep, fill}
use Rattle.terms.specs.Listing.{Line}
use Rattle.matching.specs.Occurrences.{part_at}
use Rattle.matching.specs.Lists.{Values, Extends}
use Rattle.matching.specs.Goals.{Goal, Goal.match, Goal.build, All}
use Rattle.matching.specs.Alternatives.{Alternative}
use Rattle.matching.specs.Skeletons.{Fits}
use Rattle.agenda.specs.Moves.{Question}

abbrev pub Way : ℕ → Question
Way i gs [] l φ = ⊥
Way i gs (match (app f a) t ∷ hs) l φ = All gs φ × (Alternative f a t i φ × All hs φ) × Extends φ l
Way i gs (match (lam b) t ∷ hs) l φ = ⊥
Way i gs (match (loc n) t ∷ hs) l φ = ⊥
Way i gs (match (con n) t ∷ hs) l φ = ⊥
Way i gs (match (var n) t ∷ hs) l φ = ⊥
Way i gs (build f t e ∷ hs) l φ = ⊥

abbrev pub HasWays : ℕ → List Goal → Type 0
HasWays n [] = ⊥
HasWays n (match p t ∷ hs) = n ≡ size t + 2
HasWays n (build f t e ∷ hs) = ⊥

abbrev pub HasDepths : List ℕ → List Goal → Type 0
HasDepths m [] = ⊥
HasDepths m (match p t ∷ hs) = (j : ℕ) → j < size t → get_or m j 0 ≡ (part_at 0 t j).0
HasDepths m (build f t e ∷ hs) = ⊥

abbrev pub HeadLacks : List Goal → Type 0
HeadLacks [] = ⊥
HeadLacks (match (app f a) t ∷ hs) = (k : ℕ) × (uses k f ≡ false) × (uses k t ≡ true)
HeadLacks (match (lam b) t ∷ hs) = ⊥
HeadLacks (match (loc n) t ∷ hs) = ⊥
HeadLacks (match (con n) t ∷ hs) = ⊥
HeadLacks (match (var n) t ∷ hs) = ⊥
HeadLacks (build f t e ∷ hs) = ⊥

abbrev pub Fitting : Term → Line → List Goal → Type 0
Fitting x l [] = ⊥
Fitting x l (match (app f a) t ∷ hs) = (φ : ℕ → Term) → Values φ → Extends φ l → Fits x (sweep (fill φ a))
Fitting x l (match (lam b) t ∷ hs) = ⊥
Fitting x l (match (loc n) t ∷ hs) = ⊥
Fitting x l (match (con n) t ∷ hs) = ⊥
Fitting x l (match (var n) t ∷ hs) = ⊥
Fitting x l (build f t e ∷ hs) = ⊥
