-- Case splits on a test, and equations between tests. Each goes by cases on the test's value. Assumes nothing.
use mathlib.Core.Path.{◌≡◌, refl, sym, ◌∙◌, subst}
use mathlib.Core.Bool.{Bool, true, false, not, ◌&&◌, ◌||◌}
use mathlib.Core.Logic.{◌⊎◌, inl, inr}
use Prim.Native.Nat.{ℕ, ◌≤◌, ◌<◌}
use lib.Dec.{T, ltb, eqb}
use borrow.Author.Tests.{ltb-true, ltb-false, eqb-true, eqb-false, eq-eqb, ne_eqb}

-- a split on a comparison: the goal with the test's two values, each with what it says of the numbers
module _ {ℓ} (P : Bool → Type ℓ) (a b : ℕ) where
  pub by_ltb : (a < b → P true) → (b ≤ a → P false) → P (ltb a b)
  by_ltb y n = go (ltb a b) refl
    where
      go : (t : Bool) → ltb a b ≡ t → P t
      go true e = y (ltb-true a b e)
      go false e = n (ltb-false a b e)

  pub by_eqb : (a ≡ b → P true) → (¬ (a ≡ b) → P false) → P (eqb a b)
  by_eqb y n = go (eqb a b) refl
    where
      go : (t : Bool) → eqb a b ≡ t → P t
      go true e = y (eqb-true a b e)
      go false e = n (eqb-false a b e)

pub eqb_same : (a b c d : ℕ) → (a ≡ b → c ≡ d) → (c ≡ d → a ≡ b) → eqb a b ≡ eqb c d
eqb_same a b c d f g = by_eqb (λ t. t ≡ eqb c d) a b (λ p. sym (eq-eqb c d (f p))) (λ n. sym (ne_eqb c d (λ q. n (g q))))

-- no test says both
pub not_both : {A : Type 0} (b : Bool) → b ≡ true → b ≡ false → A
not_both b p q = absurd (subst T (sym p ∙ q) tt)

pub false_of : (b : Bool) → T (not b) → b ≡ false
false_of true h = absurd h
false_of false h = refl

pub true_of : (b : Bool) → T b → b ≡ true
true_of true h = refl
true_of false h = absurd h

pub or_false : (a b : Bool) → a || b ≡ false → (a ≡ false) × (b ≡ false)
or_false true b e = absurd (subst T e tt)
or_false false b e = (refl, e)

pub or_true : (a b : Bool) → a || b ≡ true → (a ≡ true) ⊎ (b ≡ true)
or_true true b e = inl refl
or_true false b e = inr e

pub or_right : (a b : Bool) → b ≡ true → a || b ≡ true
or_right true b e = refl
or_right false b e = e

pub and_split : (a b : Bool) → a && b ≡ true → (a ≡ true) × (b ≡ true)
and_split true b e = (refl, e)
and_split false b e = absurd (subst T (sym e) tt)

pub and_not : (x y z : Bool) → (T y → T z) → T (not (x && not y)) → T (not (x && not z))
and_not true true true f h = tt
and_not true true false f h = f tt
and_not true false z f h = absurd h
and_not false y z f h = tt

pub and_not_true : (x y : Bool) → x && not y ≡ true → (x ≡ true) × (y ≡ false)
and_not_true true true e = absurd (subst T (sym e) tt)
and_not_true true false e = (refl, refl)
and_not_true false y e = absurd (subst T (sym e) tt)

pub and_true : (x : Bool) → x && true ≡ x
and_true true = refl
and_true false = refl
