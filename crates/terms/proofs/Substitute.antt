-- Substitution: what it leaves as it was, and what it puts in. By induction on the term. Assumes nothing.
use mathlib.Core.Path.{◌≡◌, refl, sym, ap, ap₂, ◌∙◌, subst}
use mathlib.Core.Bool.{true, false, cond, ◌||◌}
use mathlib.Core.Logic.{⊎_elim}
use Prim.Native.Nat.{ℕ, suc, ◌+◌, ◌-◌, ◌≤◌, ◌<◌}
use native.Mathlib.Omega.{arith}
use lib.Dec.{T, T_not, not_T, ltb, eqb}
use borrow.Author.Tests.{ne_eqb, lt-ltb, le-ltb, eqb-false, eqb-true, eq-eqb}
use Rattle.terms.specs.Term.{Term, app, lam, loc, con, var, Normal, size, shift, unshift, substitute, uses, is_eta, is_abstraction}
use Rattle.terms.specs.Term.{is_innermost}
use Rattle.terms.proofs.Tests.{by_ltb, by_eqb, eqb_same, or_false, or_true}
use Rattle.terms.proofs.Shift.{unshift_shift, unused_shift, uses_below, uses_above, normal_shift, size_shift}

-- the three cases of a local
pub by_substitute : (P : Term → Type 0) (k : ℕ) (e : Term) (n : ℕ) → (n < k → P (loc n)) → (n ≡ k → P (shift k 0 e))
    → (k < n → P (loc (n - 1))) → P (substitute k e (loc n))
by_substitute P k e n lo at hi =
    by_ltb (λ s. P (cond s (loc n) (cond (eqb n k) (shift k 0 e) (loc (n - 1))))) n k lo
    (λ l. by_eqb (λ s. P (cond s (shift k 0 e) (loc (n - 1)))) n k at (λ q. hi (omega arith)))

pub uses_substitute : (j k : ℕ) (e t : Term) → j < k → uses j (substitute k e t) ≡ uses j t
uses_substitute j k e (app f a) h = ap₂ ◌||◌ (uses_substitute j k e f h) (uses_substitute j k e a h)
uses_substitute j k e (lam b) h = uses_substitute (suc j) (suc k) e b (omega arith)
uses_substitute j k e (loc n) h =
    by_substitute (λ s. uses j s ≡ eqb n j) k e n (λ l. refl)
    (λ l. uses_below j k 0 e (omega arith) (omega arith) ∙ sym (ne_eqb n j (omega arith)))
    (λ l. eqb_same (n - 1) j n j (omega arith) (omega arith))
uses_substitute j k e (con n) h = refl
uses_substitute j k e (var n) h = refl

is_innermost_below : (d : ℕ) (t : Term) → is_innermost (shift (suc d) 0 t) ≡ false
is_innermost_below d (app f a) = refl
is_innermost_below d (lam b) = refl
is_innermost_below d (loc n) = by_ltb (λ s. is_innermost (cond s (loc n) (loc (n + suc d))) ≡ false) n 0 (λ l. ne_eqb n 0 (omega arith))
    (λ l. ne_eqb (n + suc d) 0 (omega arith))
is_innermost_below d (con n) = refl
is_innermost_below d (var n) = refl

pub is_eta_below : (d : ℕ) (t : Term) → is_eta (shift (suc d) 0 t) ≡ false
is_eta_below d (app f a) = rw (is_innermost_below d a)
is_eta_below d (lam b) = refl
is_eta_below d (loc n) = by_ltb (λ s. is_eta (cond s (loc n) (loc (n + suc d))) ≡ false) n 0 (λ l. refl) (λ l. refl)
is_eta_below d (con n) = refl
is_eta_below d (var n) = refl

pub is_innermost_substitute : (k : ℕ) (e t : Term) → is_innermost (substitute (suc k) e t) ≡ is_innermost t
is_innermost_substitute k e (app f a) = refl
is_innermost_substitute k e (lam b) = refl
is_innermost_substitute k e (loc n) =
    by_substitute (λ s. is_innermost s ≡ eqb n 0) (suc k) e n (λ l. refl) (λ l. is_innermost_below k e ∙ sym (ne_eqb n 0 (omega arith)))
    (λ l. eqb_same (n - 1) 0 n 0 (omega arith) (omega arith))
is_innermost_substitute k e (con n) = refl
is_innermost_substitute k e (var n) = refl

pub is_eta_substitute : (k : ℕ) (e t : Term) → is_eta (substitute (suc k) e t) ≡ is_eta t
is_eta_substitute k e (app f a) = rw (is_innermost_substitute k e a, uses_substitute 0 (suc k) e f (omega arith))
is_eta_substitute k e (lam b) = refl
is_eta_substitute k e (loc n) = by_substitute (λ s. is_eta s ≡ false) (suc k) e n (λ l. refl) (λ l. is_eta_below k e) (λ l. refl)
is_eta_substitute k e (con n) = refl
is_eta_substitute k e (var n) = refl

-- the local isn't used: nothing is put in
pub substitute_unused : (k : ℕ) (e t : Term) → uses k t ≡ false → substitute k e t ≡ unshift 1 k t
substitute_unused k e (app f a) h =
    let p = or_false (uses k f) (uses k a) h in
    ap₂ app (substitute_unused k e f p.0) (substitute_unused k e a p.1)
substitute_unused k e (lam b) h = ap lam (substitute_unused (suc k) e b h)
substitute_unused k e (loc n) h =
    let ne = eqb-false n k h in
    by_substitute (λ s. s ≡ cond (ltb n k) (loc n) (loc (n - 1))) k e n (λ l. rw (lt-ltb n k l)) (λ q. absurd (ne q))
    (λ l. rw (le-ltb n k (omega arith)))
substitute_unused k e (con n) h = refl
substitute_unused k e (var n) h = refl

pub substitute_shift : (k : ℕ) (e t : Term) → substitute k e (shift 1 k t) ≡ t
substitute_shift k e t = substitute_unused k e (shift 1 k t) (unused_shift k t) ∙ unshift_shift 1 k t

pub is_abstraction_substitute : (k : ℕ) (e t : Term) → T (is_abstraction t) → T (is_abstraction (substitute k e t))
is_abstraction_substitute k e (app f a) h = h
is_abstraction_substitute k e (lam b) h = h
is_abstraction_substitute k e (loc n) h = absurd h
is_abstraction_substitute k e (con n) h = h
is_abstraction_substitute k e (var n) h = h

pub normal_substitute : (k : ℕ) (e t : Term) → Normal (substitute k e t) → Normal t
normal_substitute k e (app f a) h = (
  not_T (is_abstraction f) (λ l. T_not (is_abstraction (substitute k e f)) h.0 (is_abstraction_substitute k e f l)),
  normal_substitute k e f h.1,
  normal_substitute k e a h.2,
)
normal_substitute k e (lam b) h = (rw (is_eta_substitute k e b) at h.0, normal_substitute (suc k) e b h.1)
normal_substitute k e (loc n) h = tt
normal_substitute k e (con n) h = tt
normal_substitute k e (var n) h = tt

pub substitute_here : (k : ℕ) (e : Term) (n : ℕ) → n ≡ k → substitute k e (loc n) ≡ shift k 0 e
substitute_here k e n q = rw (le-ltb n k (omega arith), eq-eqb n k q)

pub substitute_low : (n d : ℕ) (e : Term) → n < d → substitute d e (loc n) ≡ loc n
substitute_low n d e l = rw (lt-ltb n d)

pub substitute_high : (n d : ℕ) (e : Term) → d < n → substitute d e (loc n) ≡ loc (n - 1)
substitute_high n d e l = rw (le-ltb n d (omega arith), ne_eqb n d (omega arith))

-- the local is used: what is put in is a part of the result
pub normal_used : (k : ℕ) (e t : Term) → uses k t ≡ true → Normal (substitute k e t) → Normal e
normal_used k e (app f a) u h =
    ⊎_elim (λ p. normal_used k e f p h.1) (λ p. normal_used k e a p h.2) (or_true (uses k f) (uses k a) u)
normal_used k e (lam b) u h = normal_used (suc k) e b u h.1
normal_used k e (loc n) u h = rw (substitute_here k e n (eqb-true n k u), normal_shift k 0 e) at h
normal_used k e (con n) u h = absurd (subst T (sym u) tt)
normal_used k e (var n) u h = absurd (subst T (sym u) tt)

pub size_pos : (t : Term) → 1 ≤ size t
size_pos (app f a) = omega arith
size_pos (lam b) = omega arith
size_pos (loc n) = omega arith
size_pos (con n) = omega arith
size_pos (var n) = omega arith

pub size_substitute : (k : ℕ) (e t : Term) → size t ≤ size (substitute k e t)
size_substitute k e (app f a) = omega (arith, size_substitute k e f, size_substitute k e a)
size_substitute k e (lam b) = omega (arith, size_substitute (suc k) e b)
size_substitute k e (loc n) = by_substitute (λ s. 1 ≤ size s) k e n (λ l. omega arith) (λ l. size_pos (shift k 0 e)) (λ l. omega arith)
size_substitute k e (con n) = omega arith
size_substitute k e (var n) = omega arith

pub size_used : (k : ℕ) (e t : Term) → uses k t ≡ true → size e ≤ size (substitute k e t)
size_used k e (app f a) u =
    ⊎_elim (λ p. let h = size_used k e f p in let z : size e ≤ suc (size (substitute k e f) + size (substitute k e a)) = omega arith in z)
    (λ p. let h = size_used k e a p in let z : size e ≤ suc (size (substitute k e f) + size (substitute k e a)) = omega arith in z)
    (or_true (uses k f) (uses k a) u)
size_used k e (lam b) u = omega (arith, size_used (suc k) e b u)
size_used k e (loc n) u = rw (substitute_here k e n (eqb-true n k u)) (omega (arith, size_shift k 0 e))
size_used k e (con n) u = absurd (omega (arith, ap (λ b. cond {A = ℕ} b 1 0) u))
size_used k e (var n) u = absurd (omega (arith, ap (λ b. cond {A = ℕ} b 1 0) u))

-- a local that neither the body nor what is put in uses
pub unused_substitute : (j i k : ℕ) (a b : Term) → j ≡ i + k → uses (suc j) b ≡ false → uses i a ≡ false → uses j (substitute k a b) ≡ false
unused_substitute j i k a (app f g) e h u =
    let p = or_false (uses (suc j) f) (uses (suc j) g) h in
    rw (unused_substitute j i k a f e p.0 u, unused_substitute j i k a g e p.1 u)
unused_substitute j i k a (lam b) e h u = unused_substitute (suc j) i (suc k) a b (omega arith) h u
unused_substitute j i k a (loc n) e h u =
    let ne = eqb-false n (suc j) h in
    by_substitute (λ s. uses j s ≡ false) k a n (λ l. ne_eqb n j (omega arith)) (λ l. uses_above j i k 0 a e (omega arith) ∙ u)
    (λ l. ne_eqb (n - 1) j (omega arith))
unused_substitute j i k a (con n) e h u = refl
unused_substitute j i k a (var n) e h u = refl
