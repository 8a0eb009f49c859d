-- What a sweep leaves behind: no abstraction over `M #0` that it would have moved M out of. Shifting and substitution keep that, since
-- an abstraction of the result is one of the body or lies within a copy of the argument. Assumes nothing.
--   is_proper s    the abstraction over s is a proper eta-redex: s is `M #0`, M doesn't use that local and is no abstraction
--   Contracted t   no part of t is a proper eta-redex
use mathlib.Core.Path.{◌≡◌, refl, sym, ap, subst}
use mathlib.Core.Bool.{Bool, true, false, not, cond, ◌&&◌}
use Prim.Native.Nat.{ℕ, suc, ◌+◌}
use lib.Dec.{T}
use borrow.Author.Tests.{eqb-true}
use Rattle.terms.specs.Term.{Term, app, lam, loc, con, var, shift, unshift, substitute, uses, is_abstraction, is_innermost, is_eta}
use Rattle.terms.specs.Sweep.{contract, head_of, sweep}
use Rattle.terms.proofs.Tests.{by_ltb, and_not, and_not_true}
use Rattle.terms.proofs.Shift.{is_eta_shift, is_abstraction_shift, shift_unshift}
use Rattle.terms.proofs.Substitute.{by_substitute, is_abstraction_substitute, is_eta_substitute, is_eta_below}

abbrev pub is_proper : Term → Bool
is_proper s = is_eta s && not (is_abstraction (head_of s))

abbrev pub Contracted : Term → Type 0
Contracted (app f a) = Contracted f × Contracted a
Contracted (lam b) = T (not (is_proper b)) × Contracted b
Contracted (loc n) = Unit {0}
Contracted (con n) = Unit {0}
Contracted (var n) = Unit {0}

is_proper_shift : (d c : ℕ) (t : Term) → is_proper (shift d (suc c) t) ≡ is_proper t
is_proper_shift d c (app f a) = rw (is_eta_shift d c (app f a), is_abstraction_shift d (suc c) f)
is_proper_shift d c (lam b) = refl
is_proper_shift d c (loc n) = by_ltb (λ s. is_proper (cond s (loc n) (loc (n + d))) ≡ false) n (suc c) (λ l. refl) (λ l. refl)
is_proper_shift d c (con n) = refl
is_proper_shift d c (var n) = refl

pub contracted_shift : (d c : ℕ) (t : Term) → Contracted (shift d c t) ≡ Contracted t
contracted_shift d c (app f a) = rw (contracted_shift d c f, contracted_shift d c a)
contracted_shift d c (lam b) = rw (is_proper_shift d c b, contracted_shift d (suc c) b)
contracted_shift d c (loc n) = by_ltb (λ s. Contracted (cond s (loc n) (loc (n + d))) ≡ Unit {0}) n c (λ l. refl) (λ l. refl)
contracted_shift d c (con n) = refl
contracted_shift d c (var n) = refl

is_proper_substitute : (k : ℕ) (e t : Term) → T (not (is_proper t)) → T (not (is_proper (substitute (suc k) e t)))
is_proper_substitute k e (app f a) h = rw (is_eta_substitute k e (app f a))
    (and_not (is_eta (app f a)) (is_abstraction f) (is_abstraction (substitute (suc k) e f)) (is_abstraction_substitute (suc k) e f) h)
is_proper_substitute k e (lam b) h = tt
is_proper_substitute k e (loc n) h = by_substitute (λ s. T (not (is_proper s))) (suc k) e n (λ l. tt) (λ l. rw (is_eta_below k e) tt)
    (λ l. tt)
is_proper_substitute k e (con n) h = tt
is_proper_substitute k e (var n) h = tt

pub contracted_substitute : (k : ℕ) (e t : Term) → Contracted e → Contracted t → Contracted (substitute k e t)
contracted_substitute k e (app f a) g h = (contracted_substitute k e f g h.0, contracted_substitute k e a g h.1)
contracted_substitute k e (lam b) g h = (is_proper_substitute k e b h.0, contracted_substitute (suc k) e b g h.1)
contracted_substitute k e (loc n) g h = by_substitute Contracted k e n (λ l. tt) (λ l. rw (contracted_shift k 0 e) g) (λ l. tt)
contracted_substitute k e (con n) g h = tt
contracted_substitute k e (var n) g h = tt

-- what an abstraction over a swept body sweeps to, with what its test says
pub data Abstracted (s : Term) : Type 0 where
  out : (m : Term) → s ≡ app m (loc 0) → uses 0 m ≡ false → is_abstraction m ≡ false → contract (lam s) ≡ unshift 1 0 m → Abstracted s
  kept : is_proper s ≡ false → contract (lam s) ≡ lam s → Abstracted s

innermost_is : (a : Term) → is_innermost a ≡ true → a ≡ loc 0
innermost_is (app f b) e = cc
innermost_is (lam b) e = cc
innermost_is (loc n) e = ap loc (eqb-true n 0 e)
innermost_is (con n) e = cc
innermost_is (var n) e = cc

proper_is : (s : Term) → is_proper s ≡ true → (m : Term) × (s ≡ app m (loc 0)) × (uses 0 m ≡ false) × (is_abstraction m ≡ false)
proper_is (app m a) o =
    let p = and_not_true (is_eta (app m a)) (is_abstraction m) o in
    let q = and_not_true (is_innermost a) (uses 0 m) p.0 in
    (m, ap (app m) (innermost_is a q.0), q.1, p.1)
proper_is (lam b) o = absurd (subst T (sym o) tt)
proper_is (loc n) o = absurd (subst T (sym o) tt)
proper_is (con n) o = absurd (subst T (sym o) tt)
proper_is (var n) o = absurd (subst T (sym o) tt)

pub abstracted : (s : Term) → Abstracted s
abstracted s = go (is_proper s) refl
  where
    go : (t : Bool) → is_proper s ≡ t → Abstracted s
    go true e = let p = proper_is s e in out p.0 p.1 p.2 p.3 (rw e (ap (λ x. unshift 1 0 (head_of x)) p.1))
    go false e = kept e (rw e)

contracted_lam : (s : Term) → Contracted s → Contracted (contract (lam s))
contracted_lam s h = go (abstracted s)
  where
    go : Abstracted s → Contracted (contract (lam s))
    go (out m p u l w) =
        let g : Contracted (app m (loc 0)) = rw p at h in
        rw w (rw (contracted_shift 1 0 (unshift 1 0 m)) at (rw (← shift_unshift 0 m u) at g.0))
    go (kept o w) = rw w (rw o tt, h)

contracted_app : (f a : Term) → Contracted f → Contracted a → Contracted (contract (app f a))
contracted_app (app f b) a g h = (g, h)
contracted_app (lam b) a g h = contracted_substitute 0 a b h g.1
contracted_app (loc n) a g h = (g, h)
contracted_app (con n) a g h = (g, h)
contracted_app (var n) a g h = (g, h)

pub contracted_sweep : (t : Term) → Contracted (sweep t)
contracted_sweep (app f a) = contracted_app (sweep f) (sweep a) (contracted_sweep f) (contracted_sweep a)
contracted_sweep (lam b) = contracted_lam (sweep b) (contracted_sweep b)
contracted_sweep (loc n) = tt
contracted_sweep (con n) = tt
contracted_sweep (var n) = tt
