-- Terms without variables, which is `Below 0`: filling leaves them as they are, a filled term is one, and so is a swept form of one. A
-- filled term is closed if the pattern is, and a swept form if the term is. Each by induction on the term. Assumes nothing.
use mathlib.Core.Path.{◌≡◌, refl, sym, ap, ap₂, ◌∙◌, subst}
use mathlib.Core.Bool.{true, cond}
use mathlib.Core.Logic.{inl, inr, ⊎_elim}
use Prim.Native.Nat.{ℕ, suc, ◌+◌, ◌-◌}
use native.Mathlib.Omega.{arith}
use lib.Dec.{T}
use borrow.Author.Tests.{eqb-true}
use Rattle.terms.specs.Term.{Term, app, lam, loc, con, var, shift, unshift, substitute, uses, Closed, Occurs, Below, Ground}
use Rattle.terms.specs.Sweep.{contract, sweep, fill}
use Rattle.terms.proofs.Tests.{by_ltb, or_true}
use Rattle.terms.proofs.Shift.{shift_unshift}
use Rattle.terms.proofs.Substitute.{by_substitute, substitute_here}
use Rattle.terms.proofs.Contracted.{Abstracted, Abstracted.out, Abstracted.kept, abstracted}
use Rattle.terms.proofs.Locals.{closed_more, closed_sweep}

pub ground_below : (t : Term) → Ground t → Below 0 t
ground_below (app f a) g = (ground_below f g.0, ground_below a g.1)
ground_below (lam b) g = ground_below b g
ground_below (loc n) g = tt
ground_below (con n) g = tt
ground_below (var n) g = absurd g

pub fill_below : (φ : ℕ → Term) (t : Term) → Below 0 t → fill φ t ≡ t
fill_below φ (app f a) g = ap₂ app (fill_below φ f g.0) (fill_below φ a g.1)
fill_below φ (lam b) g = ap lam (fill_below φ b g)
fill_below φ (loc n) g = refl
fill_below φ (con n) g = refl
fill_below φ (var n) g = absurd (omega (arith, g))

-- a filled pattern has no variables, and is closed if the pattern is
pub below_fill : (φ : ℕ → Term) (t : Term) → ((i : ℕ) → Occurs i t → Ground (φ i)) → Below 0 (fill φ t)
below_fill φ (app f a) h = (below_fill φ f (λ i o. h i (inl o)), below_fill φ a (λ i o. h i (inr o)))
below_fill φ (lam b) h = below_fill φ b h
below_fill φ (loc n) h = tt
below_fill φ (con n) h = tt
below_fill φ (var n) h = ground_below (φ n) (h n refl)

pub closed_fill : (φ : ℕ → Term) (d : ℕ) (t : Term) → ((i : ℕ) → Occurs i t → Closed 0 (φ i)) → Closed d t → Closed d (fill φ t)
closed_fill φ d (app f a) h c = (closed_fill φ d f (λ i o. h i (inl o)) c.0, closed_fill φ d a (λ i o. h i (inr o)) c.1)
closed_fill φ d (lam b) h c = closed_fill φ (suc d) b h c
closed_fill φ d (loc n) h c = c
closed_fill φ d (con n) h c = c
closed_fill φ d (var n) h c = closed_more 0 d (φ n) (omega arith) (h n refl)

-- what holds of a term if it holds of its constants and variables, holds of its swept form too: a sweep brings in neither
module _ (P : Term → Type 0) (apps : (f a : Term) → P (app f a) ≡ (P f × P a)) (lams : (b : Term) → P (lam b) ≡ P b)
    (locs : (n : ℕ) → P (loc n) ≡ Unit {0}) where
  pub leaves_shift : (d c : ℕ) (t : Term) → P (shift d c t) ≡ P t
  leaves_shift d c (app f a) = rw (apps (shift d c f) (shift d c a), apps f a, leaves_shift d c f, leaves_shift d c a)
  leaves_shift d c (lam b) = lams (shift d (suc c) b) ∙ leaves_shift d (suc c) b ∙ sym (lams b)
  leaves_shift d c (loc n) =
      by_ltb (λ s. P (cond s (loc n) (loc (n + d))) ≡ P (loc n)) n c (λ l. refl) (λ l. locs (n + d) ∙ sym (locs n))
  leaves_shift d c (con n) = refl
  leaves_shift d c (var n) = refl

  leaves_substitute : (k : ℕ) (e t : Term) → P e → P t → P (substitute k e t)
  leaves_substitute k e (app f a) h g =
      let x = rw (apps f a) at g in
      rw (apps (substitute k e f) (substitute k e a)) (leaves_substitute k e f h x.0, leaves_substitute k e a h x.1)
  leaves_substitute k e (lam b) h g = rw (lams (substitute (suc k) e b)) (leaves_substitute (suc k) e b h (rw (lams b) at g))
  leaves_substitute k e (loc n) h g =
      by_substitute P k e n (λ l. g) (λ l. rw (leaves_shift k 0 e) h) (λ l. rw (locs (n - 1)) tt)
  leaves_substitute k e (con n) h g = g
  leaves_substitute k e (var n) h g = g

  -- and the other way: what is put in a body that uses its local
  pub leaves_body : (k : ℕ) (e t : Term) → P (substitute k e t) → P t
  leaves_body k e (app f a) h =
      let x = rw (apps (substitute k e f) (substitute k e a)) at h in
      rw (apps f a) (leaves_body k e f x.0, leaves_body k e a x.1)
  leaves_body k e (lam b) h = rw (lams b) (leaves_body (suc k) e b (rw (lams (substitute (suc k) e b)) at h))
  leaves_body k e (loc n) h = rw (locs n) tt
  leaves_body k e (con n) h = h
  leaves_body k e (var n) h = h

  pub leaves_argument : (k : ℕ) (e t : Term) → uses k t ≡ true → P (substitute k e t) → P e
  leaves_argument k e (app f a) u h =
      let x = rw (apps (substitute k e f) (substitute k e a)) at h in
      ⊎_elim (λ p. leaves_argument k e f p x.0) (λ p. leaves_argument k e a p x.1) (or_true (uses k f) (uses k a) u)
  leaves_argument k e (lam b) u h = leaves_argument (suc k) e b u (rw (lams (substitute (suc k) e b)) at h)
  leaves_argument k e (loc n) u h = rw (substitute_here k e n (eqb-true n k u), leaves_shift k 0 e) at h
  leaves_argument k e (con n) u h = absurd (subst T (sym u) tt)
  leaves_argument k e (var n) u h = absurd (subst T (sym u) tt)

  leaves_app : (f a : Term) → P f → P a → P (contract (app f a))
  leaves_app (app f b) a g h = rw (apps (app f b) a) (g, h)
  leaves_app (lam b) a g h = leaves_substitute 0 a b h (rw (lams b) at g)
  leaves_app (loc n) a g h = rw (apps (loc n) a) (g, h)
  leaves_app (con n) a g h = rw (apps (con n) a) (g, h)
  leaves_app (var n) a g h = rw (apps (var n) a) (g, h)

  leaves_lam : (b : Term) → P b → P (contract (lam b))
  leaves_lam b h = go (abstracted b)
    where
      go : Abstracted b → P (contract (lam b))
      go (out x p u l w) =
          let g : P x × P (loc 0) = rw (p, apps x (loc 0)) at h in
          rw w (rw (leaves_shift 1 0 (unshift 1 0 x)) at (rw (← shift_unshift 0 x u) at g.0))
      go (kept o w) = rw w (rw (lams b) h)

  pub leaves_sweep : (t : Term) → P t → P (sweep t)
  leaves_sweep (app f a) g =
      let x = rw (apps f a) at g in
      leaves_app (sweep f) (sweep a) (leaves_sweep f x.0) (leaves_sweep a x.1)
  leaves_sweep (lam b) g = leaves_lam (sweep b) (leaves_sweep b (rw (lams b) at g))
  leaves_sweep (loc n) g = g
  leaves_sweep (con n) g = g
  leaves_sweep (var n) g = g

pub below_sweep : (m : ℕ) (t : Term) → Below m t → Below m (sweep t)
below_sweep m t h = leaves_sweep (Below m) (λ f a. refl) (λ b. refl) (λ n. refl) t h

pub closed_sweep_below : (d : ℕ) (t : Term) → Below 0 t → Closed d t → Closed d (sweep t)
closed_sweep_below d t b c = rw (fill_below (λ i. con 0) t b) at (closed_sweep (λ i. con 0) (λ i. (tt, tt, omega arith)) d t c)
