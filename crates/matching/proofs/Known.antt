-- A goal whose part's swept form is known, whatever the open variables are: it is met exactly if that form is the target, or solves the
-- goal to build. By what a goal says. Assumes nothing.
use mathlib.Core.Path.{◌≡◌, sym, ◌∙◌}
use mathlib.Core.Bool.{true}
use mathlib.Core.Logic.{◌↔◌}
use Prim.Native.Nat.{ℕ}
use Rattle.terms.specs.Term.{Term, lam, substitute, uses}
use Rattle.terms.specs.Sweep.{sweep, fill}
use Rattle.matching.specs.Goals.{Goal.match, Goal.build, Meets}

module _ (φ : ℕ → Term) (p x : Term) (q : sweep (fill φ p) ≡ x) where
  pub known_match : (t : Term) → Meets (match p t) φ ↔ (x ≡ t)
  known_match t = (λ s. sym q ∙ s, λ s. q ∙ s)

  pub known_build : (t e : Term) → Meets (build p t e) φ ↔ ((b : Term) × (x ≡ lam b) × (substitute 0 e b ≡ t) × (uses 0 b ≡ true))
  known_build t e = (λ u. (u.0, sym q ∙ u.1, u.2, u.3), λ u. (u.0, q ∙ u.1, u.2, u.3))
