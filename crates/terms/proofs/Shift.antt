-- Shifting: what it leaves as it was, and that unshifting undoes it. By induction on the term. Assumes nothing.
use mathlib.Core.Path.{◌≡◌, refl, ap, ap₂}
use mathlib.Core.Bool.{false, cond, ◌||◌}
use Prim.Native.Nat.{ℕ, suc, ◌+◌, ◌-◌, ◌≤◌, ◌<◌}
use native.Mathlib.Omega.{arith}
use lib.Dec.{eqb}
use borrow.Author.Tests.{ne_eqb, lt-ltb, le-ltb, eqb-false}
use Rattle.terms.specs.Term.{Term, app, lam, loc, con, var, Normal, size, shift, unshift, uses, is_eta, is_abstraction, is_innermost}
use Rattle.terms.proofs.Tests.{by_ltb, eqb_same, or_false}

-- a local below the shifted ones, and one among them
pub shift_low : (d c n : ℕ) → n < c → shift d c (loc n) ≡ loc n
shift_low d c n l = rw (lt-ltb n c l)

pub shift_high : (d c n : ℕ) → c ≤ n → shift d c (loc n) ≡ loc (n + d)
shift_high d c n l = rw (le-ltb n c l)

pub uses_shift : (j d c : ℕ) (t : Term) → j < c → uses j (shift d c t) ≡ uses j t
uses_shift j d c (app f a) h = ap₂ ◌||◌ (uses_shift j d c f h) (uses_shift j d c a h)
uses_shift j d c (lam b) h = uses_shift (suc j) d (suc c) b (omega arith)
uses_shift j d c (loc n) h =
    by_ltb (λ t. uses j (cond t (loc n) (loc (n + d))) ≡ eqb n j) n c (λ l. refl)
    (λ l. eqb_same (n + d) j n j (omega arith) (omega arith))
uses_shift j d c (con n) h = refl
uses_shift j d c (var n) h = refl

pub is_abstraction_shift : (d c : ℕ) (t : Term) → is_abstraction (shift d c t) ≡ is_abstraction t
is_abstraction_shift d c (app f a) = refl
is_abstraction_shift d c (lam b) = refl
is_abstraction_shift d c (loc n) = by_ltb (λ t. is_abstraction (cond t (loc n) (loc (n + d))) ≡ false) n c (λ l. refl) (λ l. refl)
is_abstraction_shift d c (con n) = refl
is_abstraction_shift d c (var n) = refl

pub is_innermost_shift : (d c : ℕ) (t : Term) → is_innermost (shift d (suc c) t) ≡ is_innermost t
is_innermost_shift d c (app f a) = refl
is_innermost_shift d c (lam b) = refl
is_innermost_shift d c (loc n) =
    by_ltb (λ t. is_innermost (cond t (loc n) (loc (n + d))) ≡ eqb n 0) n (suc c) (λ l. refl)
    (λ l. eqb_same (n + d) 0 n 0 (omega arith) (omega arith))
is_innermost_shift d c (con n) = refl
is_innermost_shift d c (var n) = refl

pub is_eta_shift : (d c : ℕ) (t : Term) → is_eta (shift d (suc c) t) ≡ is_eta t
is_eta_shift d c (app f a) = rw (is_innermost_shift d c a, uses_shift 0 d (suc c) f (omega arith))
is_eta_shift d c (lam b) = refl
is_eta_shift d c (loc n) = by_ltb (λ t. is_eta (cond t (loc n) (loc (n + d))) ≡ false) n (suc c) (λ l. refl) (λ l. refl)
is_eta_shift d c (con n) = refl
is_eta_shift d c (var n) = refl

-- as types: both directions at once
pub normal_shift : (d c : ℕ) (t : Term) → Normal (shift d c t) ≡ Normal t
normal_shift d c (app f a) = rw (is_abstraction_shift d c f, normal_shift d c f, normal_shift d c a)
normal_shift d c (lam b) = rw (is_eta_shift d c b, normal_shift d (suc c) b)
normal_shift d c (loc n) = by_ltb (λ t. Normal (cond t (loc n) (loc (n + d))) ≡ Unit {0}) n c (λ l. refl) (λ l. refl)
normal_shift d c (con n) = refl
normal_shift d c (var n) = refl

pub unshift_shift : (d c : ℕ) (t : Term) → unshift d c (shift d c t) ≡ t
unshift_shift d c (app f a) = ap₂ app (unshift_shift d c f) (unshift_shift d c a)
unshift_shift d c (lam b) = ap lam (unshift_shift d (suc c) b)
unshift_shift d c (loc n) =
    by_ltb (λ t. unshift d c (cond t (loc n) (loc (n + d))) ≡ loc n) n c (λ l. rw (lt-ltb n c l))
    (λ l. rw (le-ltb (n + d) c (omega arith)) (ap loc (omega arith)))
unshift_shift d c (con n) = refl
unshift_shift d c (var n) = refl

pub shift_unshift : (c : ℕ) (t : Term) → uses c t ≡ false → shift 1 c (unshift 1 c t) ≡ t
shift_unshift c (app f a) h =
    let p = or_false (uses c f) (uses c a) h in
    ap₂ app (shift_unshift c f p.0) (shift_unshift c a p.1)
shift_unshift c (lam b) h = ap lam (shift_unshift (suc c) b h)
shift_unshift c (loc n) h =
    let ne = eqb-false n c h in
    by_ltb (λ t. shift 1 c (cond t (loc n) (loc (n - 1))) ≡ loc n) n c (λ l. rw (lt-ltb n c l))
    (λ l. rw (le-ltb (n - 1) c (omega arith)) (ap loc (omega arith)))
shift_unshift c (con n) h = refl
shift_unshift c (var n) h = refl

pub uses_below : (j d c : ℕ) (t : Term) → c ≤ j → j < c + d → uses j (shift d c t) ≡ false
uses_below j d c (app f a) h l = rw (uses_below j d c f h l, uses_below j d c a h l)
uses_below j d c (lam b) h l = uses_below (suc j) d (suc c) b (omega arith) (omega arith)
uses_below j d c (loc n) h l =
    by_ltb (λ s. uses j (cond s (loc n) (loc (n + d))) ≡ false) n c (λ q. ne_eqb n j (omega arith)) (λ q. ne_eqb (n + d) j (omega arith))
uses_below j d c (con n) h l = refl
uses_below j d c (var n) h l = refl

pub unused_shift : (c : ℕ) (t : Term) → uses c (shift 1 c t) ≡ false
unused_shift c t = uses_below c 1 c t (omega arith) (omega arith)

pub uses_above : (j i d c : ℕ) (t : Term) → j ≡ i + d → c ≤ i → uses j (shift d c t) ≡ uses i t
uses_above j i d c (app f a) e h = ap₂ ◌||◌ (uses_above j i d c f e h) (uses_above j i d c a e h)
uses_above j i d c (lam b) e h = uses_above (suc j) (suc i) d (suc c) b (omega arith) (omega arith)
uses_above j i d c (loc n) e h =
    by_ltb (λ s. uses j (cond s (loc n) (loc (n + d))) ≡ eqb n i) n c
    (λ l. eqb_same n j n i (omega arith) (omega arith)) (λ l. eqb_same (n + d) j n i (omega arith) (omega arith))
uses_above j i d c (con n) e h = refl
uses_above j i d c (var n) e h = refl

pub size_shift : (d c : ℕ) (t : Term) → size (shift d c t) ≡ size t
size_shift d c (app f a) = ap suc (ap₂ ◌+◌ (size_shift d c f) (size_shift d c a))
size_shift d c (lam b) = ap suc (size_shift d (suc c) b)
size_shift d c (loc n) = by_ltb (λ s. size (cond s (loc n) (loc (n + d))) ≡ 1) n c (λ l. refl) (λ l. refl)
size_shift d c (con n) = refl
size_shift d c (var n) = refl
