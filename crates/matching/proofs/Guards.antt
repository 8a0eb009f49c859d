-- A local that stands only as the argument of a constant, or of what a constant was applied to before: the sweep leaves each such
-- application as it is, so that what is put for the local never meets an argument of its own. By induction on the term. Assumes nothing.
--   Guarded k t   the same, as a type
use mathlib.Core.Path.{◌≡◌, refl, sym, ap, ◌∙◌, subst}
use mathlib.Core.Bool.{Bool, true, false, not, cond}
use mathlib.Core.Logic.{◌⊎◌, inl, inr, ⊎_elim}
use Prim.Native.Nat.{ℕ, suc, ◌+◌, ◌-◌, ◌≤◌}
use native.Mathlib.Omega.{arith}
use lib.Dec.{T, eqb}
use borrow.Author.Tests.{eqb-true, eqb-false, le-ltb}
use Rattle.terms.specs.Term.{Term, app, lam, loc, con, var, Closed, shift, unshift, substitute, uses, is_abstraction}
use Rattle.terms.specs.Sweep.{contract, sweep, fill}
use Rattle.terms.proofs.Tests.{by_ltb, or_false, and_split}
use Rattle.terms.proofs.Shift.{shift_high}
use Rattle.terms.proofs.Substitute.{by_substitute, substitute_high}
use Rattle.terms.proofs.Sweep.{contract_app}
use Rattle.terms.proofs.Contracted.{Abstracted, Abstracted.out, Abstracted.kept, abstracted}
use Rattle.matching.specs.Reducts.{constant_head, is_local, guarded}
use Rattle.matching.specs.Lists.{Values}

abbrev pub Guarded : ℕ → Term → Type 0
Guarded k (app f a) = Guarded k f × (((a ≡ loc k) × (constant_head f ≡ true)) ⊎ Guarded k a)
Guarded k (lam b) = Guarded (suc k) b
Guarded k (loc n) = ¬ (n ≡ k)
Guarded k (con n) = Unit {0}
Guarded k (var n) = Unit {0}

-- the test and the type
is_local_lem : (k : ℕ) (t : Term) → is_local k t ≡ true → t ≡ loc k
is_local_lem k (app f a) e = absurd (subst T (sym e) tt)
is_local_lem k (lam b) e = absurd (subst T (sym e) tt)
is_local_lem k (loc n) e = ap loc (eqb-true n k e)
is_local_lem k (con n) e = absurd (subst T (sym e) tt)
is_local_lem k (var n) e = absurd (subst T (sym e) tt)

pub guarded_is : (k : ℕ) (t : Term) → guarded k t ≡ true → Guarded k t
guarded_is k (app f a) e =
    let p = and_split (guarded k f) (cond (is_local k a) (constant_head f) (guarded k a)) e in
    (guarded_is k f p.0, go (is_local k a) refl p.1 (guarded_is k a))
  where
    go : (b : Bool) → is_local k a ≡ b → cond b (constant_head f) (guarded k a) ≡ true → (guarded k a ≡ true → Guarded k a)
        → ((a ≡ loc k) × (constant_head f ≡ true)) ⊎ Guarded k a
    go true i h w = inl (is_local_lem k a i, h)
    go false i h w = inr (w h)
guarded_is k (lam b) e = guarded_is (suc k) b e
guarded_is k (loc n) e = λ q. eqb-false n k (not_true (eqb n k) e) q
  where
    not_true : (b : Bool) → not b ≡ true → b ≡ false
    not_true true e = absurd (subst T (sym e) tt)
    not_true false e = refl
guarded_is k (con n) e = tt
guarded_is k (var n) e = tt

-- a head that begins with a constant keeps it
module _ (h g : Term → Term) (application : (f a : Term) → h (app f a) ≡ app (h f) (g a)) (constant : (n : ℕ) → h (con n) ≡ con n) where
  constant_kept : (t : Term) → constant_head t ≡ true → constant_head (h t) ≡ true
  constant_kept (app f a) e = rw (application f a) (constant_kept f e)
  constant_kept (lam b) e = absurd (subst T (sym e) tt)
  constant_kept (loc n) e = absurd (subst T (sym e) tt)
  constant_kept (con n) e = rw (constant n)
  constant_kept (var n) e = absurd (subst T (sym e) tt)

constant_proper : (t : Term) → constant_head t ≡ true → is_abstraction t ≡ false
constant_proper (app f a) e = refl
constant_proper (lam b) e = absurd (subst T (sym e) tt)
constant_proper (loc n) e = refl
constant_proper (con n) e = refl
constant_proper (var n) e = refl

constant_sweep : (t : Term) → constant_head t ≡ true → constant_head (sweep t) ≡ true
constant_sweep (app f a) e =
    let h = constant_sweep f e in
    rw (contract_app (sweep f) (sweep a) (rw (constant_proper (sweep f) h) tt)) h
constant_sweep (lam b) e = absurd (subst T (sym e) tt)
constant_sweep (loc n) e = absurd (subst T (sym e) tt)
constant_sweep (con n) e = refl
constant_sweep (var n) e = absurd (subst T (sym e) tt)

-- a term without the local
pub guarded_closed : (d k : ℕ) (t : Term) → d ≤ k → Closed d t → Guarded k t
guarded_closed d k (app f a) l c = (guarded_closed d k f l c.0, inr (guarded_closed d k a l c.1))
guarded_closed d k (lam b) l c = guarded_closed (suc d) (suc k) b (omega arith) c
guarded_closed d k (loc n) l c = λ q. omega (arith, q, c)
guarded_closed d k (con n) l c = tt
guarded_closed d k (var n) l c = tt

-- shifting, and moving out
guarded_shift : (d c k j : ℕ) (t : Term) → c ≤ k → j ≡ k + d → Guarded k t → Guarded j (shift d c t)
guarded_shift d c k j (app f a) l e g = (
  guarded_shift d c k j f l e g.0,
  ⊎_elim (λ p. inl (
    ap (shift d c) p.0 ∙ shift_high d c k l ∙ ap loc (sym e),
    constant_kept (shift d c) (shift d c) (λ u v. refl) (λ n. refl) f p.1,
  ))
      (λ p. inr (guarded_shift d c k j a l e p)) g.1,
)
guarded_shift d c k j (lam b) l e g = guarded_shift d (suc c) (suc k) (suc j) b (omega arith) (omega arith) g
guarded_shift d c k j (loc n) l e g =
    by_ltb (λ s. Guarded j (cond s (loc n) (loc (n + d)))) n c (λ p q. omega (arith, p, q)) (λ p q. g (omega (arith, q)))
guarded_shift d c k j (con n) l e g = tt
guarded_shift d c k j (var n) l e g = tt

pub guarded_unshift : (c k : ℕ) (t : Term) → c ≤ k → uses c t ≡ false → Guarded (suc k) t → Guarded k (unshift 1 c t)
guarded_unshift c k (app f a) l u g =
    let o = or_false (uses c f) (uses c a) u in (
      guarded_unshift c k f l o.0 g.0,
      ⊎_elim (λ p. inl (
        ap (unshift 1 c) p.0 ∙ rw (le-ltb (suc k) c (omega arith)) (ap loc (omega arith)),
        constant_kept (unshift 1 c) (unshift 1 c) (λ u v. refl) (λ n. refl) f p.1,
      )) (λ p. inr (guarded_unshift c k a l o.1 p)) g.1,
    )
guarded_unshift c k (lam b) l u g = guarded_unshift (suc c) (suc k) b (omega arith) u g
guarded_unshift c k (loc n) l u g =
    by_ltb (λ s. Guarded k (cond s (loc n) (loc (n - 1)))) n c (λ p q. omega (arith, p, q))
    (λ p q. let z = eqb-false n c u in g (omega (arith, p, q, z)))
guarded_unshift c k (con n) l u g = tt
guarded_unshift c k (var n) l u g = tt

-- substitution
guarded_substitute : (j k i : ℕ) (a b : Term) → j ≤ k → k ≡ i + j → Guarded (suc k) b → Guarded i a → Guarded k (substitute j a b)
guarded_substitute j k i a (app f b) l e g h = (
  guarded_substitute j k i a f l e g.0 h,
  ⊎_elim (λ p. inl (
    ap (substitute j a) p.0 ∙ substitute_high (suc k) j a (omega arith) ∙ ap loc (omega arith),
    constant_kept (substitute j a) (substitute j a) (λ u v. refl) (λ n. refl) f p.1,
  )) (λ p. inr (guarded_substitute j k i a b l e p h)) g.1,
)
guarded_substitute j k i a (lam b) l e g h = guarded_substitute (suc j) (suc k) i a b (omega arith) (omega arith) g h
guarded_substitute j k i a (loc n) l e g h =
    by_substitute (Guarded k) j a n (λ p q. omega (arith, p, q)) (λ p. guarded_shift j 0 i k a (omega arith) e h)
    (λ p q. g (omega (arith, p, q)))
guarded_substitute j k i a (con n) l e g h = tt
guarded_substitute j k i a (var n) l e g h = tt

-- filling, and the sweep
pub guarded_fill : (φ : ℕ → Term) → Values φ → (k : ℕ) (t : Term) → Guarded k t → Guarded k (fill φ t)
guarded_fill φ v k (app f a) g = (
  guarded_fill φ v k f g.0,
  ⊎_elim (λ p. inl (ap (fill φ) p.0, constant_kept (fill φ) (fill φ) (λ u w. refl) (λ n. refl) f p.1))
      (λ p. inr (guarded_fill φ v k a p)) g.1,
)
guarded_fill φ v k (lam b) g = guarded_fill φ v (suc k) b g
guarded_fill φ v k (loc n) g = g
guarded_fill φ v k (con n) g = tt
guarded_fill φ v k (var n) g = guarded_closed 0 k (φ n) (omega arith) (v n).0

guarded_contract : (k : ℕ) (f a : Term) → Guarded k f → ((a ≡ loc k) × (constant_head f ≡ true)) ⊎ Guarded k a
    → Guarded k (contract (app f a))
guarded_contract k (app f b) a g h = (g, h)
guarded_contract k (lam b) a g h =
    guarded_substitute 0 k k a b (omega arith) (omega arith) g (⊎_elim (λ p. absurd (subst T (sym p.1) tt)) (λ p. p) h)
guarded_contract k (loc n) a g h = (g, h)
guarded_contract k (con n) a g h = (g, h)
guarded_contract k (var n) a g h = (g, h)

pub guarded_sweep : (k : ℕ) (t : Term) → Guarded k t → Guarded k (sweep t)
guarded_sweep k (app f a) g =
    guarded_contract k (sweep f) (sweep a) (guarded_sweep k f g.0)
    (⊎_elim (λ p. inl (ap sweep p.0, constant_sweep f p.1)) (λ p. inr (guarded_sweep k a p)) g.1)
guarded_sweep k (lam b) g = go (abstracted (sweep b)) (guarded_sweep (suc k) b g)
  where
    go : Abstracted (sweep b) → Guarded (suc k) (sweep b) → Guarded k (contract (lam (sweep b)))
    go (out m p u l w) h =
        let q : Guarded (suc k) (app m (loc 0)) = subst (Guarded (suc k)) p h in
        rw w (guarded_unshift 0 k m (omega arith) u q.0)
    go (kept o w) h = rw w h
guarded_sweep k (loc n) g = g
guarded_sweep k (con n) g = tt
guarded_sweep k (var n) g = tt

-- what is put for the local comes into no head
pub guarded_head : (e : Term) (k : ℕ) (t : Term) → Guarded k t → is_abstraction (substitute k e t) ≡ is_abstraction t
guarded_head e k (app f a) g = refl
guarded_head e k (lam b) g = refl
guarded_head e k (loc n) g = by_substitute (λ s. is_abstraction s ≡ false) k e n (λ l. refl) (λ q. absurd (g q)) (λ l. refl)
guarded_head e k (con n) g = refl
guarded_head e k (var n) g = refl
