-- It is decided which terms are normal and which are values, and what is chosen by a decision. By recursion on the term, and by cases on
-- the decision. Assumes nothing.
use mathlib.Core.Path.{◌≡◌, refl}
use mathlib.Core.Bool.{Bool, true, false, not}
use Prim.Native.Nat.{ℕ, suc}
use native.Mathlib.Decide.{dec_lt}
use lib.Dec.{T}
use Rattle.terms.specs.Term.{Term, app, lam, loc, con, var, redex, Normal, Closed, Ground, Value}
use Rattle.matching.specs.Bodies.{either}

abbrev pub dec_T : (b : Bool) → Dec (T b)
dec_T true = yes tt
dec_T false = no (λ x. x)

abbrev pub dec-× : {A B : Type 0} → Dec A → Dec B → Dec (A × B)
dec-× (yes a) (yes b) = yes (a, b)
dec-× (yes a) (no b) = no (λ p. b p.1)
dec-× (no a) q = no (λ p. a p.0)

abbrev dec-×₃ : {A B C : Type 0} → Dec A → Dec B → Dec C → Dec (A × B × C)
dec-×₃ (yes a) (yes b) (yes c) = yes (a, b, c)
dec-×₃ (yes a) (yes b) (no c) = no (λ p. c p.2)
dec-×₃ (yes a) (no b) q = no (λ p. b p.1)
dec-×₃ (no a) q r = no (λ p. a p.0)

abbrev pub normal? : (t : Term) → Dec (Normal t)
normal? (app f a) = dec-×₃ (dec_T (not (redex (app f a)))) (normal? f) (normal? a)
normal? (lam b) = dec-× (dec_T (not (redex (lam b)))) (normal? b)
normal? (loc n) = yes tt
normal? (con n) = yes tt
normal? (var n) = yes tt

abbrev closed? : (d : ℕ) (t : Term) → Dec (Closed d t)
closed? d (app f a) = dec-× (closed? d f) (closed? d a)
closed? d (lam b) = closed? (suc d) b
closed? d (loc n) = dec_lt n d
closed? d (con n) = yes tt
closed? d (var n) = yes tt

abbrev ground? : (t : Term) → Dec (Ground t)
ground? (app f a) = dec-× (ground? f) (ground? a)
ground? (lam b) = ground? b
ground? (loc n) = yes tt
ground? (con n) = dec_lt n _
ground? (var n) = no (λ x. x)

abbrev pub value? : (t : Term) → Dec (Value t)
value? t = dec-×₃ (closed? _ t) (normal? t) (ground? t)

-- a choice by what is decided
module _ {A : Type 0} where
  pub by_dec : (P : Dec A → Type 0) (o : Dec A) → ((a : A) → P (yes a)) → ((n : ¬ A) → P (no n)) → P o
  by_dec P (yes a) y n = y a
  by_dec P (no a) y n = n a

  module _ {B : Type 0} where
    pub either_yes : (o : Dec A) (x y : B) → A → either o x y ≡ x
    either_yes (yes p) x y h = refl
    either_yes (no p) x y h = absurd (p h)

    pub either_no : (o : Dec A) (x y : B) → ¬ A → either o x y ≡ y
    either_no (yes p) x y h = absurd (h p)
    either_no (no p) x y h = refl
