-- The occurrences of an argument in a target, numbered in table order: the first place of a candidate names it, and no two places do. By
-- induction on the target, whose parts stand in the order of its records. Assumes nothing.
use mathlib.Core.Path.{◌≡◌, refl, sym, ap, ◌∙◌, subst}
use mathlib.Core.Bool.{true}
use mathlib.Core.List.{◌++◌}
use mathlib.Core.Logic.{◌⊎◌, inl, inr, ⊎_elim}
use Prim.Native.Nat.{ℕ, zero, suc, ◌+◌, ◌-◌, ◌<◌}
use native.Mathlib.Omega.{arith}
use native.Mathlib.Decide.{dec_lt}
use lib.Dec.{T}
use lib.ListN.{length, get_or, length-append, get_or-append}
use lib.Seq.{get_or-append-add}
use borrow.Author.Tests.{eqb-true}
use Rattle.terms.specs.Term.{Term, app, lam, loc, con, var, size, shift, unshift, substitute, uses}
use Rattle.terms.proofs.Tests.{or_true}
use Rattle.terms.proofs.Shift.{unshift_shift}
use Rattle.terms.proofs.Substitute.{size_pos, substitute_here}
use Rattle.matching.specs.Occurrences.{part_at, Copy, FirstCopy, all_parts}
use Rattle.matching.specs.Abstractions.{same}
use Rattle.matching.proofs.Decide.{by_dec}

pub length_parts : (d : ℕ) (t : Term) → length (all_parts d t) ≡ size t
length_parts d (app f a) = omega (arith, length-append (all_parts d f) (all_parts d a), length_parts d f, length_parts d a)
length_parts d (lam b) = ap suc (length_parts (suc d) b)
length_parts d (loc n) = refl
length_parts d (con n) = refl
length_parts d (var n) = refl

-- the parts of a head and of an argument among those of the application
pub part_at_head : (d : ℕ) (f a : Term) (j : ℕ) → j < size f → part_at d (app f a) (suc j) ≡ part_at d f j
part_at_head d f a j h = get_or-append (all_parts d f) (all_parts d a) (0, con 0) j (omega (arith, length_parts d f))

pub part_at_argument : (d : ℕ) (f a : Term) (j : ℕ) → part_at d (app f a) (suc (size f + j)) ≡ part_at d a j
part_at_argument d f a j =
    ap (λ n. get_or (all_parts d f ++ all_parts d a) (n + j) (0, con 0)) (sym (length_parts d f))
    ∙ get_or-append-add (all_parts d f) (all_parts d a) j (0, con 0)

pub part_at_first : (d : ℕ) (t : Term) → part_at d t 0 ≡ (d, t)
part_at_first d (app f a) = refl
part_at_first d (lam b) = refl
part_at_first d (loc n) = refl
part_at_first d (con n) = refl
part_at_first d (var n) = refl

-- a part of a term is the term itself or a part of its own parts
module _ (Q : ℕ × Term → Type 0) (d : ℕ) where
  pub by_app : (f a : Term) (j : ℕ) → j < size (app f a) → Q (d, app f a) → ((i : ℕ) → i < size f → Q (part_at d f i))
      → ((i : ℕ) → i < size a → Q (part_at d a i)) → Q (part_at d (app f a) j)
  by_app f a zero h q x y = q
  by_app f a (suc j) h q x y =
      by_dec (λ _. Q (part_at d (app f a) (suc j))) (dec_lt j (size f)) (λ l. subst Q (sym (part_at_head d f a j l)) (x j l))
      (λ l.
      let m : suc j ≡ suc (size f + (j - size f)) = omega arith in
      subst Q (sym (ap (part_at d (app f a)) m ∙ part_at_argument d f a (j - size f))) (y (j - size f) (omega arith)))

  pub by_lam : (b : Term) (j : ℕ) → j < size (lam b) → Q (d, lam b) → ((i : ℕ) → i < size b → Q (part_at (suc d) b i))
      → Q (part_at d (lam b) j)
  by_lam b zero h q x = q
  by_lam b (suc j) h q x = x j (omega arith)

  pub by_leaf : (t : Term) (j : ℕ) → j < 1 → Q (d, t) → Q (part_at d t j)
  by_leaf t zero h q = subst Q (sym (part_at_first d t)) q
  by_leaf t (suc j) h q = absurd (omega arith)

-- what goes down to the parts of a term holds of each
module _ (P : ℕ → Term → Type 0) (at_app : (d : ℕ) (f a : Term) → P d (app f a) → P d f × P d a)
    (at_lam : (d : ℕ) (b : Term) → P d (lam b) → P (suc d) b) where
  pub each_part : (d : ℕ) (t : Term) (j : ℕ) → j < size t → P d t → P (part_at d t j).0 (part_at d t j).1
  each_part d (app f a) j h p = by_app (λ q. P q.0 q.1) d f a j h p (λ i l. each_part d f i l (at_app d f a p).0)
      (λ i l. each_part d a i l (at_app d f a p).1)
  each_part d (lam b) j h p = by_lam (λ q. P q.0 q.1) d b j h p (λ i l. each_part (suc d) b i l (at_lam d b p))
  each_part d (loc n) j h p = by_leaf (λ q. P q.0 q.1) d (loc n) j h p
  each_part d (con n) j h p = by_leaf (λ q. P q.0 q.1) d (con n) j h p
  each_part d (var n) j h p = by_leaf (λ q. P q.0 q.1) d (var n) j h p

-- what is put for a used local is one of the parts
abbrev Found : ℕ → Term → Term → Type 0
Found d t e = (j : ℕ) × (j < size t) × Copy (part_at d t j) e

found_head : (d : ℕ) (f a e : Term) → Found d f e → Found d (app f a) e
found_head d f a e (j, h, c) = (suc j, omega arith, subst (λ q. Copy q e) (sym (part_at_head d f a j h)) c)

found_argument : (d : ℕ) (f a e : Term) → Found d a e → Found d (app f a) e
found_argument d f a e (j, h, c) = (suc (size f + j), omega arith, subst (λ q. Copy q e) (sym (part_at_argument d f a j)) c)

found_used : (d : ℕ) (e b : Term) → uses d b ≡ true → Found d (substitute d e b) e
found_used d e (app f a) u =
    ⊎_elim (λ p. found_head d (substitute d e f) (substitute d e a) e (found_used d e f p))
    (λ p. found_argument d (substitute d e f) (substitute d e a) e (found_used d e a p)) (or_true (uses d f) (uses d a) u)
found_used d e (lam b) u = let r = found_used (suc d) e b u in (suc r.0, omega (arith, r.1), r.2)
found_used d e (loc n) u =
    rw (substitute_here d e n (eqb-true n d u))
    (0, size_pos (shift d 0 e), subst (λ q. Copy q e) (sym (part_at_first d (shift d 0 e))) refl)
found_used d e (con n) u = absurd (subst T (sym u) tt)
found_used d e (var n) u = absurd (subst T (sym u) tt)

-- the first number with a property that is decided
module _ (P : ℕ → Type 0) (decide : (i : ℕ) → Dec (P i)) where
  abbrev Least : ℕ → Type 0
  Least n = (i : ℕ) × (i < n) × P i × ((k : ℕ) → k < i → ¬ P k)

  least_next : (n : ℕ) → Dec (P n) → ((i : ℕ) → i < n → ¬ P i) → Least (suc n) ⊎ ((i : ℕ) → i < suc n → ¬ P i)
  least_next n (yes p) f = inl (n, omega arith, p, f)
  least_next n (no p) f = inr go
    where
      go : (i : ℕ) → i < suc n → ¬ P i
      go i h x = by (dec_lt i n)
        where
          by : Dec (i < n) → ⊥
          by (yes l) = f i l x
          by (no l) = let q : i ≡ n = omega arith in p (subst P q x)

  least_below : (n : ℕ) → Least n ⊎ ((i : ℕ) → i < n → ¬ P i)
  least_below zero = inr (λ i h x. omega arith)
  least_below (suc n) = ⊎_elim (λ r. inl (r.0, omega (arith, r.1), r.2, r.3)) (least_next n (decide n)) (least_below n)

  least : (j : ℕ) → P j → Least (suc j)
  least j p = ⊎_elim (λ r. r) (λ f. absurd (f j (omega arith) p)) (least_below (suc j))

-- an argument whose local is used has a first occurrence
pub first_of : (e b t : Term) → substitute 0 e b ≡ t → uses 0 b ≡ true → (j : ℕ) × FirstCopy t j e
first_of e b t p u =
    let (j, h, c) : Found 0 t e = rw p at (found_used 0 e b u) in
    let r = least (λ i. Copy (part_at 0 t i) e) (λ i. same (part_at 0 t i).1 (shift (part_at 0 t i).0 0 e)) j c in
    (r.0, record { within = omega (arith, r.1, h); copy = r.2; none_before = r.3 })

-- and one only
pub first_one : (t : Term) (i j : ℕ) (e : Term) → FirstCopy t i e → FirstCopy t j e → i ≡ j
first_one t i j e x y = go (dec_lt i j) (dec_lt j i)
  where
    go : Dec (i < j) → Dec (j < i) → i ≡ j
    go (yes l) o = absurd (y.none_before i l x.copy)
    go (no l) (yes m) = absurd (x.none_before j m y.copy)
    go (no l) (no m) = omega arith

-- the part at a first occurrence, moved out of the binders above it, is the argument
pub first_lowered : (t : Term) (j : ℕ) (e : Term) → FirstCopy t j e → e ≡ unshift (part_at 0 t j).0 0 (part_at 0 t j).1
first_lowered t j e x = sym (unshift_shift (part_at 0 t j).0 0 e) ∙ ap (unshift (part_at 0 t j).0 0) (sym x.copy)

pub first_same : (t : Term) (j : ℕ) (e e' : Term) → FirstCopy t j e → FirstCopy t j e' → e ≡ e'
first_same t j e e' x y = first_lowered t j e x ∙ sym (first_lowered t j e' y)

-- so a part that uses a binder above it is none
pub first_movable : (t : Term) (j : ℕ) (e : Term) → FirstCopy t j e → Copy (part_at 0 t j) (unshift (part_at 0 t j).0 0 (part_at 0 t j).1)
first_movable t j e x = subst (Copy (part_at 0 t j)) (first_lowered t j e x) x.copy

-- nor is one whose argument stands earlier
pub first_not_again :
    (t : Term) (i j : ℕ) (e : Term) → i < j → Copy (part_at 0 t i) (unshift (part_at 0 t j).0 0 (part_at 0 t j).1) → ¬ FirstCopy t j e
first_not_again t i j e h c x = x.none_before i h (subst (Copy (part_at 0 t i)) (sym (first_lowered t j e x)) c)

-- what code finds by looking
pub first_from : (t : Term) (j : ℕ) (e : Term) → j < size t → Copy (part_at 0 t j) e
    → ((i : ℕ) → i < j → ¬ Copy (part_at 0 t i) e) → FirstCopy t j e
first_from t j e h c f = record { within = h; copy = c; none_before = f }

-- whether a part is the first occurrence of an argument
none_below : (e t : Term) (j : ℕ) → Dec ((i : ℕ) → i < j → ¬ Copy (part_at 0 t i) e)
none_below e t zero = yes (λ i h c. omega arith)
none_below e t (suc j) =
    by_dec (λ _. Dec ((i : ℕ) → i < suc j → ¬ Copy (part_at 0 t i) e)) (same (part_at 0 t j).1 (shift (part_at 0 t j).0 0 e))
    (λ c. no (λ f. f j (omega arith) c)) (λ n. by_dec (λ _. Dec ((i : ℕ) → i < suc j → ¬ Copy (part_at 0 t i) e)) (none_below e t j)
    (λ f. yes (more n f)) (λ f. no (λ g. f (λ i h. g i (omega arith)))))
  where
    more : ¬ Copy (part_at 0 t j) e → ((i : ℕ) → i < j → ¬ Copy (part_at 0 t i) e) → (i : ℕ) → i < suc j → ¬ Copy (part_at 0 t i) e
    more n f i h c =
        by_dec (λ _. ⊥) (dec_lt i j) (λ l. f i l c) (λ l. let q : i ≡ j = omega arith in n (subst (λ k. Copy (part_at 0 t k) e) q c))

pub dec_first : (t : Term) (j : ℕ) → Dec ((e : Term) × FirstCopy t j e)
dec_first t j =
    by_dec (λ _. Dec ((e : Term) × FirstCopy t j e)) (dec_lt j (size t))
    (λ h. by_dec (λ _. Dec ((e : Term) × FirstCopy t j e)) (same (part_at 0 t j).1 (shift (part_at 0 t j).0 0 e))
    (λ c. by_dec (λ _. Dec ((e : Term) × FirstCopy t j e)) (none_below e t j) (λ f. yes (e, first_from t j e h c f))
    (λ n. no (λ x. n (λ i l c. first_not_again t i j x.0 l c x.1))))
    (λ n. no (λ x. n (first_movable t j x.0 x.1))))
    (λ n. no (λ x. n x.1.within))
  where
    e : Term
    e = unshift (part_at 0 t j).0 0 (part_at 0 t j).1
