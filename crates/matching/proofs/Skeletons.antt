-- Skeletons: what is known of a swept part while some variables are open. A skeleton is a term in which each variable is a hole, and a
-- swept part fits it, whatever the open variables are. By induction on the skeleton: what fits it has its shape outside of its holes, and
-- shifting, substitution and single contractions that are sure keep that. Assumes nothing.
--   is_variable t  t is a variable
use mathlib.Core.Path.{◌≡◌, refl, sym, ap, ap₂, ◌∙◌, subst}
use mathlib.Core.Bool.{Bool, true, false, cond, ◌&&◌}
use Prim.Native.Nat.{ℕ, zero, suc, ◌-◌}
use native.Mathlib.Omega.{arith}
use lib.Dec.{T, eqb}
use Rattle.terms.specs.Term.{Term, app, lam, loc, con, var, shift, substitute, Closed}
use Rattle.terms.specs.Sweep.{contract}
use Rattle.terms.proofs.Tests.{by_ltb, by_eqb, or_false}
use Rattle.matching.specs.Skeletons.{Fits, is_unsure, has_variable, Fills}
use Rattle.matching.proofs.Reducts.{Passes, passes_closed, shift_passes, substitute_passes, closed_redex}

abbrev pub is_variable : Term → Bool
is_variable (app f a) = false
is_variable (lam b) = false
is_variable (loc n) = false
is_variable (con n) = false
is_variable (var n) = true

-- a closed term may stand in any hole, and no shift or substitution changes it
pub fills_closed : (n : ℕ) (t : Term) → Closed 0 t → Fills n t
fills_closed zero t c = tt
fills_closed (suc n) t c = c

pub filled_closed : (n : ℕ) (t : Term) → ¬ (n ≡ 0) → Fills n t → Closed 0 t
filled_closed zero t o c = absurd (o refl)
filled_closed (suc n) t o c = c

fills_passes : (h : ℕ → Term → Term) → Passes h → (k n : ℕ) (t : Term) → Fills n t → Fills n (h k t)
fills_passes h x k zero t c = tt
fills_passes h x k (suc n) t c = subst (Closed 0) (sym (passes_closed h x 0 k t (omega arith) c)) c

-- every term fits itself, and what fits a term without variables is that term
pub fits_refl : (t : Term) → Fits t t
fits_refl (app f a) = (fits_refl f, fits_refl a)
fits_refl (lam b) = fits_refl b
fits_refl (loc n) = refl
fits_refl (con n) = refl
fits_refl (var n) = fills_closed n (var n) tt

pub fits_exact : (s t : Term) → has_variable s ≡ false → Fits s t → s ≡ t
fits_exact (app f a) (app g b) e h =
    let o = or_false (has_variable f) (has_variable a) e in
    ap₂ app (fits_exact f g o.0 h.0) (fits_exact a b o.1 h.1)
fits_exact (lam b) (lam c) e h = ap lam (fits_exact b c e h)
fits_exact (loc m) (loc n) e h = ap loc h
fits_exact (con m) (con n) e h = ap con h
fits_exact (var m) t e h = absurd (subst T e tt)
fits_exact (con m) (var _) e h = elim h [ ]
fits_exact (con m) (loc n) e h = elim h [ ]
fits_exact (con m) (lam c) e h = elim h [ ]
fits_exact (con m) (app g b) e h = elim h [ ]
fits_exact (loc m) (var _) e h = elim h [ ]
fits_exact (loc m) (con n) e h = elim h [ ]
fits_exact (loc m) (lam c) e h = elim h [ ]
fits_exact (loc m) (app g b) e h = elim h [ ]
fits_exact (lam b) (var _) e h = elim h [ ]
fits_exact (lam b) (con n) e h = elim h [ ]
fits_exact (lam b) (loc n) e h = elim h [ ]
fits_exact (lam b) (app g _) e h = elim h [ ]
fits_exact (app f a) (var _) e h = elim h [ ]
fits_exact (app f a) (con n) e h = elim h [ ]
fits_exact (app f a) (loc n) e h = elim h [ ]
fits_exact (app f a) (lam c) e h = elim h [ ]

-- shifting and substitution
pub fits_shift : (d c : ℕ) (s t : Term) → Fits s t → Fits (shift d c s) (shift d c t)
fits_shift d c (app f a) (app g b) h = (fits_shift d c f g h.0, fits_shift d c a b h.1)
fits_shift d c (lam b) (lam u) h = fits_shift d (suc c) b u h
fits_shift d c (loc m) (loc n) h = subst (λ i. Fits (shift d c (loc m)) (shift d c (loc i))) h (fits_refl (shift d c (loc m)))
fits_shift d c (con m) (con n) h = h
fits_shift d c (var m) t h = fills_passes (shift d) (shift_passes d) c m t h
fits_shift d c (con m) (var _) h = elim h [ ]
fits_shift d c (con m) (loc n) h = elim h [ ]
fits_shift d c (con m) (lam u) h = elim h [ ]
fits_shift d c (con m) (app g b) h = elim h [ ]
fits_shift d c (loc m) (var _) h = elim h [ ]
fits_shift d c (loc m) (con n) h = elim h [ ]
fits_shift d c (loc m) (lam u) h = elim h [ ]
fits_shift d c (loc m) (app g b) h = elim h [ ]
fits_shift d c (lam b) (var _) h = elim h [ ]
fits_shift d c (lam b) (con n) h = elim h [ ]
fits_shift d c (lam b) (loc n) h = elim h [ ]
fits_shift d c (lam b) (app g _) h = elim h [ ]
fits_shift d c (app f a) (var _) h = elim h [ ]
fits_shift d c (app f a) (con n) h = elim h [ ]
fits_shift d c (app f a) (loc n) h = elim h [ ]
fits_shift d c (app f a) (lam u) h = elim h [ ]

module _ (e g : Term) (x : Fits e g) where
  fits_local : (k n : ℕ) → Fits (substitute k e (loc n)) (substitute k g (loc n))
  fits_local k n =
      by_ltb (λ s. Fits (cond s (loc n) (cond (eqb n k) (shift k 0 e) (loc (n - 1))))
      (cond s (loc n) (cond (eqb n k) (shift k 0 g) (loc (n - 1))))) n k (λ l. refl)
      (λ l. by_eqb (λ s. Fits (cond s (shift k 0 e) (loc (n - 1))) (cond s (shift k 0 g) (loc (n - 1)))) n k
      (λ q. fits_shift k 0 e g x) (λ q. refl))

  pub fits_substitute : (k : ℕ) (s t : Term) → Fits s t → Fits (substitute k e s) (substitute k g t)
  fits_substitute k (app f a) (app u b) h = (fits_substitute k f u h.0, fits_substitute k a b h.1)
  fits_substitute k (lam b) (lam u) h = fits_substitute (suc k) b u h
  fits_substitute k (loc m) (loc n) h = subst (λ i. Fits (substitute k e (loc m)) (substitute k g (loc i))) h (fits_local k m)
  fits_substitute k (con m) (con n) h = h
  fits_substitute k (var m) t h = fills_passes (λ j u. substitute j g u) (substitute_passes g) k m t h
  fits_substitute k (con m) (var _) h = elim h [ ]
  fits_substitute k (con m) (loc n) h = elim h [ ]
  fits_substitute k (con m) (lam u) h = elim h [ ]
  fits_substitute k (con m) (app u b) h = elim h [ ]
  fits_substitute k (loc m) (var _) h = elim h [ ]
  fits_substitute k (loc m) (con n) h = elim h [ ]
  fits_substitute k (loc m) (lam u) h = elim h [ ]
  fits_substitute k (loc m) (app u b) h = elim h [ ]
  fits_substitute k (lam b) (var _) h = elim h [ ]
  fits_substitute k (lam b) (con n) h = elim h [ ]
  fits_substitute k (lam b) (loc n) h = elim h [ ]
  fits_substitute k (lam b) (app u _) h = elim h [ ]
  fits_substitute k (app f a) (var _) h = elim h [ ]
  fits_substitute k (app f a) (con n) h = elim h [ ]
  fits_substitute k (app f a) (loc n) h = elim h [ ]
  fits_substitute k (app f a) (lam u) h = elim h [ ]

-- an application whose head is no hole
pub fits_apply : (f g a b : Term) → is_variable f ≡ false → Fits f g → Fits a b → Fits (contract (app f a)) (contract (app g b))
fits_apply (app f u) (app g v) a b n h x = (h, x)
fits_apply (lam u) (lam v) a b n h x = fits_substitute a b x 0 u v h
fits_apply (loc i) (loc j) a b n h x = (h, x)
fits_apply (con i) (con j) a b n h x = (h, x)
fits_apply (var i) g a b n h x = absurd (subst T n tt)
fits_apply (con i) (var _) a b n h x = elim h [ ]
fits_apply (con i) (loc j) a b n h x = elim h [ ]
fits_apply (con i) (lam v) a b n h x = elim h [ ]
fits_apply (con i) (app g v) a b n h x = elim h [ ]
fits_apply (loc i) (var _) a b n h x = elim h [ ]
fits_apply (loc i) (con j) a b n h x = elim h [ ]
fits_apply (loc i) (lam v) a b n h x = elim h [ ]
fits_apply (loc i) (app g v) a b n h x = elim h [ ]
fits_apply (lam u) (var _) a b n h x = elim h [ ]
fits_apply (lam u) (con j) a b n h x = elim h [ ]
fits_apply (lam u) (loc j) a b n h x = elim h [ ]
fits_apply (lam u) (app g v) a b n h x = elim h [ ]
fits_apply (app f u) (var _) a b n h x = elim h [ ]
fits_apply (app f u) (con j) a b n h x = elim h [ ]
fits_apply (app f u) (loc j) a b n h x = elim h [ ]
fits_apply (app f u) (lam v) a b n h x = elim h [ ]

-- an abstraction over a closed body, or over an application to a closed argument, doesn't contract
closed_kept : (f a : Term) → Closed 0 a → contract (lam (app f a)) ≡ lam (app f a)
closed_kept f (app a b) c = refl
closed_kept f (lam b) c = refl
closed_kept f (loc n) c = absurd (omega (arith, c))
closed_kept f (con n) c = refl
closed_kept f (var n) c = refl

closed_abstraction : (t : Term) → Closed 0 t → contract (lam t) ≡ lam t
closed_abstraction (app f a) c = closed_kept f a c.1
closed_abstraction (lam b) c = refl
closed_abstraction (loc n) c = refl
closed_abstraction (con n) c = refl
closed_abstraction (var n) c = refl

-- an abstraction over a body that is sure
same_contract : (s t : Term) → s ≡ t → Fits (contract (lam s)) (contract (lam t))
same_contract s t e = subst (λ u. Fits (contract (lam s)) (contract (lam u))) e (fits_refl (contract (lam s)))

applied_abstract : (f g a b : Term) → is_unsure (app f a) ≡ false → Fits f g → Fits a b
    → Fits (contract (lam (app f a))) (contract (lam (app g b)))
applied_abstract f g (app a u) (app b v) n h x = (h, x)
applied_abstract f g (lam u) (lam v) n h x = (h, x)
applied_abstract f g (loc i) (loc j) n h x = go (eqb i 0) refl
  where
    go : (t : Bool) → eqb i 0 ≡ t → Fits (contract (lam (app f (loc i)))) (contract (lam (app g (loc j))))
    go true e =
        let o : has_variable f ≡ false = sym (ap (λ t. t && has_variable f) e) ∙ n in
        same_contract (app f (loc i)) (app g (loc j)) (ap₂ app (fits_exact f g o h) (ap loc x))
    go false e = subst (λ k. Fits (contract (lam (app f (loc i)))) (contract (lam (app g (loc k))))) x (rw e (h, refl))
applied_abstract f g (con i) (con j) n h x = (h, x)
applied_abstract f g (var zero) b n h x = absurd (subst T n tt)
applied_abstract f g (var (suc i)) b n h x = rw (closed_kept g b x) (h, x)
applied_abstract f g (con i) (var _) n h x = elim x [ ]
applied_abstract f g (con i) (loc j) n h x = elim x [ ]
applied_abstract f g (con i) (lam v) n h x = elim x [ ]
applied_abstract f g (con i) (app b v) n h x = elim x [ ]
applied_abstract f g (loc i) (var _) n h x = elim x [ ]
applied_abstract f g (loc i) (con j) n h x = elim x [ ]
applied_abstract f g (loc i) (lam v) n h x = elim x [ ]
applied_abstract f g (loc i) (app b v) n h x = elim x [ ]
applied_abstract f g (lam u) (var _) n h x = elim x [ ]
applied_abstract f g (lam u) (con j) n h x = elim x [ ]
applied_abstract f g (lam u) (loc j) n h x = elim x [ ]
applied_abstract f g (lam u) (app b v) n h x = elim x [ ]
applied_abstract f g (app a u) (var _) n h x = elim x [ ]
applied_abstract f g (app a u) (con j) n h x = elim x [ ]
applied_abstract f g (app a u) (loc j) n h x = elim x [ ]
applied_abstract f g (app a u) (lam v) n h x = elim x [ ]

pub fits_abstract : (s t : Term) → is_unsure s ≡ false → Fits s t → Fits (contract (lam s)) (contract (lam t))
fits_abstract (app f a) (app g b) n h = applied_abstract f g a b n h.0 h.1
fits_abstract (lam b) (lam c) n h = h
fits_abstract (loc i) (loc j) n h = h
fits_abstract (con i) (con j) n h = h
fits_abstract (var zero) t n h = absurd (subst T n tt)
fits_abstract (var (suc i)) t n h = rw (closed_abstraction t h) h
fits_abstract (con i) (var _) n h = elim h [ ]
fits_abstract (con i) (loc j) n h = elim h [ ]
fits_abstract (con i) (lam c) n h = elim h [ ]
fits_abstract (con i) (app g b) n h = elim h [ ]
fits_abstract (loc i) (var _) n h = elim h [ ]
fits_abstract (loc i) (con j) n h = elim h [ ]
fits_abstract (loc i) (lam c) n h = elim h [ ]
fits_abstract (loc i) (app g b) n h = elim h [ ]
fits_abstract (lam b) (var _) n h = elim h [ ]
fits_abstract (lam b) (con j) n h = elim h [ ]
fits_abstract (lam b) (loc j) n h = elim h [ ]
fits_abstract (lam b) (app g _) n h = elim h [ ]
fits_abstract (app f a) (var _) n h = elim h [ ]
fits_abstract (app f a) (con j) n h = elim h [ ]
fits_abstract (app f a) (loc j) n h = elim h [ ]
fits_abstract (app f a) (lam c) n h = elim h [ ]

-- single contractions leave no loose local that wasn't there
pub closed_apply : (d : ℕ) (f a : Term) → Closed d f → Closed d a → Closed d (contract (app f a))
closed_apply d (app f b) a c e = (c, e)
closed_apply d (lam b) a c e = closed_redex d a b e c
closed_apply d (loc n) a c e = (c, e)
closed_apply d (con n) a c e = (c, e)
closed_apply d (var n) a c e = (c, e)
