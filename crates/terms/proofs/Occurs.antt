-- Variables that occur in a term are below its bound, it is decided which occur, and values for those that do make a total assignment. By
-- induction on the term. Assumes nothing.
use mathlib.Core.Logic.{⊎_elim}
use Prim.Native.Nat.{ℕ, ◌<◌}
use native.Mathlib.Omega.{arith}
use native.Mathlib.Decide.{ℕ_discrete}
use Rattle.terms.specs.Term.{Term, app, lam, loc, con, var, Occurs, Below}
use Rattle.terms.proofs.Members.{dec-⊎}

pub occurs_below : (n i : ℕ) (p : Term) → Below n p → Occurs i p → i < n
occurs_below n i (app f a) b o = ⊎_elim (occurs_below n i f b.0) (occurs_below n i a b.1) o
occurs_below n i (lam p) b o = occurs_below n i p b o
occurs_below n i (loc k) b o = absurd o
occurs_below n i (con k) b o = absurd o
occurs_below n i (var k) b o = omega arith

occurs? : (i : ℕ) (p : Term) → Dec (Occurs i p)
occurs? i (app f a) = dec-⊎ (occurs? i f) (occurs? i a)
occurs? i (lam p) = occurs? i p
occurs? i (loc k) = no (λ o. o)
occurs? i (con k) = no (λ o. o)
occurs? i (var k) = ℕ_discrete i k

module _ {A : Type 0} {P : Term → Type 0} (f : A → (v : Term) × P v) where
  chosen : Dec A → Term
  chosen (yes a) = (f a).0
  chosen (no a) = con 0

  chosen_holds : (d : Dec A) → A → P (chosen d)
  unfolding chosen
  chosen_holds (yes a) b = (f a).1
  chosen_holds (no a) b = absurd (a b)

  chosen_each : (Q : Term → Type 0) → Q (con 0) → ((v : Term) → P v → Q v) → (d : Dec A) → Q (chosen d)
  unfolding chosen
  chosen_each Q z g (yes a) = g (f a).0 (f a).1
  chosen_each Q z g (no a) = z

-- a value for each variable that occurs, and `k0` for the others
pub record ChosenValues (P : ℕ → Term → Type 0) (p : Term) : Type 1 where
  pub φ : ℕ → Term
  pub holds : (i : ℕ) → Occurs i p → P i (φ i)
  pub each : (Q : Term → Type 0) → Q (con 0) → ((i : ℕ) (v : Term) → P i v → Q v) → (i : ℕ) → Q (φ i)

pub chosen_values : (P : ℕ → Term → Type 0) (p : Term) → ((i : ℕ) → Occurs i p → (v : Term) × P i v) → ChosenValues P p
chosen_values P p f = record {
  φ = λ i. chosen (f i) (occurs? i p);
  holds = λ i o. chosen_holds (f i) (occurs? i p) o;
  each = λ Q z g i. chosen_each (f i) Q z (g i) (occurs? i p);
}
