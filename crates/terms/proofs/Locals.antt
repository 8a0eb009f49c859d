-- What the swept form of a filled pattern can be: no abstraction where the pattern's spine has a rigid head, and no loose local that the
-- pattern doesn't use. By induction on the pattern, a value being closed. Assumes nothing.
use mathlib.Core.Path.{◌≡◌, refl, sym, ap, ◌∙◌, subst}
use mathlib.Core.Bool.{true, false}
use Prim.Native.Nat.{ℕ, suc, ◌≤◌, ◌<◌}
use native.Mathlib.Omega.{arith}
use native.Mathlib.Decide.{dec_lt}
use lib.Dec.{T}
use borrow.Author.Tests.{ne_eqb, eqb-false}
use Rattle.terms.specs.Heads.{rigid}
use Rattle.terms.specs.Term.{Term, app, lam, loc, con, var, Closed, Value, uses, unshift, is_abstraction}
use Rattle.terms.specs.Sweep.{sweep, contract, fill}
use Rattle.terms.proofs.Tests.{or_false}
use Rattle.terms.proofs.Shift.{shift_unshift, uses_above}
use Rattle.terms.proofs.Substitute.{unused_substitute}
use Rattle.terms.proofs.Sweep.{sweep_normal}
use Rattle.terms.proofs.Contracted.{Abstracted, Abstracted.out, Abstracted.kept, abstracted}

rigid_app : (f a : Term) → is_abstraction f ≡ false → is_abstraction (contract (app f a)) ≡ false
rigid_app (app f b) a h = refl
rigid_app (lam b) a h = absurd (subst T h tt)
rigid_app (loc n) a h = refl
rigid_app (con n) a h = refl
rigid_app (var n) a h = refl

pub rigid_sweep : (φ : ℕ → Term) (p : Term) → rigid p ≡ true → is_abstraction (sweep (fill φ p)) ≡ false
rigid_sweep φ (app f a) h = rigid_app (sweep (fill φ f)) (sweep (fill φ a)) (rigid_sweep φ f h)
rigid_sweep φ (lam b) h = absurd (subst T (sym h) tt)
rigid_sweep φ (loc n) h = refl
rigid_sweep φ (con n) h = refl
rigid_sweep φ (var n) h = absurd (subst T (sym h) tt)

-- closed terms use no local from outside
pub closed_unused : (d j : ℕ) (t : Term) → d ≤ j → Closed d t → uses j t ≡ false
closed_unused d j (app f a) h c = rw (closed_unused d j f h c.0, closed_unused d j a h c.1)
closed_unused d j (lam b) h c = closed_unused (suc d) (suc j) b (omega arith) c
closed_unused d j (loc n) h c = ne_eqb n j (omega arith)
closed_unused d j (con n) h c = refl
closed_unused d j (var n) h c = refl

pub unused_closed : (d : ℕ) (t : Term) → ((j : ℕ) → d ≤ j → uses j t ≡ false) → Closed d t
unused_closed d (app f a) h = (
  unused_closed d f (λ j g. (or_false (uses j f) (uses j a) (h j g)).0),
  unused_closed d a (λ j g. (or_false (uses j f) (uses j a) (h j g)).1),
)
unused_closed d (lam b) h = unused_closed (suc d) b below
  where
    below : (j : ℕ) → suc d ≤ j → uses j b ≡ false
    below (suc j) g = h j (omega arith)
    below Prim.Native.Nat.zero g = elim g [ ]
unused_closed d (loc n) h = go (dec_lt n d)
  where
    go : Dec (n < d) → n < d
    go (yes l) = l
    go (no l) = absurd (eqb-false n n (h n (omega arith)) refl)
unused_closed d (con n) h = tt
unused_closed d (var n) h = tt

-- what is closed below some binders is closed below more
pub closed_more : (m n : ℕ) (t : Term) → m ≤ n → Closed m t → Closed n t
closed_more m n t h c = unused_closed n t (λ j l. closed_unused m j t (omega arith) c)

-- loose locals
unused_app : (j : ℕ) (f a : Term) → uses j f ≡ false → uses j a ≡ false → uses j (contract (app f a)) ≡ false
unused_app j (app f b) a h u = rw (h, u)
unused_app j (lam b) a h u = unused_substitute j j 0 a b (omega arith) h u
unused_app j (loc n) a h u = rw (h, u)
unused_app j (con n) a h u = u
unused_app j (var n) a h u = u

unused_lam : (j : ℕ) (s : Term) → uses (suc j) s ≡ false → uses j (contract (lam s)) ≡ false
unused_lam j s h = go (abstracted s)
  where
    go : Abstracted s → uses j (contract (lam s)) ≡ false
    go (out m e u l w) =
        rw w (sym (uses_above (suc j) j 1 0 (unshift 1 0 m) (omega arith) (omega arith)) ∙ ap (uses (suc j)) (shift_unshift 0 m u)
        ∙ (or_false (uses (suc j) m) (uses (suc j) (loc 0)) (sym (ap (uses (suc j)) e) ∙ h)).0)
    go (kept o w) = rw w h

module _ (φ : ℕ → Term) (v : (i : ℕ) → Value (φ i)) where
  pub unused_sweep : (j : ℕ) (p : Term) → uses j p ≡ false → uses j (sweep (fill φ p)) ≡ false
  unused_sweep j (app f a) h =
      let p = or_false (uses j f) (uses j a) h in
      unused_app j (sweep (fill φ f)) (sweep (fill φ a)) (unused_sweep j f p.0) (unused_sweep j a p.1)
  unused_sweep j (lam b) h = unused_lam j (sweep (fill φ b)) (unused_sweep (suc j) b h)
  unused_sweep j (loc n) h = h
  unused_sweep j (con n) h = refl
  unused_sweep j (var n) h = rw (sweep_normal (φ n) (v n).1) (closed_unused 0 j (φ n) (omega arith) (v n).0)

  -- a closed pattern sweeps to a closed term
  pub closed_sweep : (d : ℕ) (p : Term) → Closed d p → Closed d (sweep (fill φ p))
  closed_sweep d p c = unused_closed d (sweep (fill φ p)) (λ j h. unused_sweep j p (closed_unused d j p h c))
