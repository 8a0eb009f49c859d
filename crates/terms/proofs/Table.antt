-- Tables: a term is known from its records and from its bytes, the order of the bytes is the order of the records, and the records of a
-- closed term are good if its variables are in range and it isn't too long, and only if they are in range. By induction on the term, for
-- any way of writing a record that loses nothing. Assumes nothing.
use mathlib.Core.Path.{◌≡◌, refl, sym, ap, ap₂, ◌∙◌, subst}
use mathlib.Core.Bool.{Bool, true, false, cond, ◌&&◌}
use mathlib.Core.Option.{none, some}
use mathlib.Core.List.{List, [], ◌∷◌, ◌++◌, append_assoc, append-nil}
use mathlib.Core.Logic.{◌⊎◌, inl, inr, ◌↔◌}
use Prim.Native.Nat.{ℕ, suc, ◌+◌, ◌*◌, ◌/◌, ◌%◌, ◌<◌, ◌≤◌}
use native.Mathlib.Omega.{arith}
use native.Mathlib.Decide.{dec_lt}
use lib.Dec.{T, ltb, eqb}
use lib.ListN.{length, get_or, drop, length-append}
use borrow.Author.Tests.{eq-eqb, ne_eqb, eqb-true, lt-ltb, ltb-true}
use Rattle.terms.specs.Figures.{words}
use Rattle.terms.specs.Term.{Term, app, lam, loc, con, var, size, Closed, Below}
use Rattle.terms.specs.Table.{constant_kind, record_bytes, record_of, kind_and_number, preorder, encode, allowed, good_records}
use Rattle.terms.specs.Listing.{Lexicographic, kinds_and_numbers}
use Rattle.terms.proofs.Tests.{and_split}

-- the parts of two equal terms
pub app_inj : (f a g b : Term) → app f a ≡ app g b → (f ≡ g) × (a ≡ b)
app_inj f a g b e = (cc, cc)

pub lam_inj : (b c : Term) → lam b ≡ lam c → b ≡ c
lam_inj b c e = cc

-- the kind of a term's first record
abbrev pub kind : Term → ℕ
kind (app f a) = 0
kind (lam b) = 1
kind (loc n) = 2
kind (con n) = 3
kind (var n) = 4

-- its number
abbrev pub number_of : Term → ℕ
number_of (app f a) = 0
number_of (lam b) = 0
number_of (loc n) = n
number_of (con n) = n
number_of (var n) = n

-- a way of writing records that loses nothing
pub record Lossless (w : ℕ → ℕ → List ℕ → List ℕ) : Type 0 where
  pub more : (k n : ℕ) (r s : List ℕ) → w k n r ++ s ≡ w k n (r ++ s)
  pub inj : (k m n l : ℕ) (r s : List ℕ) → w k n r ≡ w m l s → (k ≡ m) × (n ≡ l) × (r ≡ s)

module _ (w : ℕ → ℕ → List ℕ → List ℕ) (lossless : Lossless w) where
  -- the records behind the first
  abbrev behind : Term → List ℕ
  behind (app f a) = preorder w f ++ preorder w a
  behind (lam b) = preorder w b
  behind (loc n) = []
  behind (con n) = []
  behind (var n) = []

  first : (t : Term) (r : List ℕ) → preorder w t ++ r ≡ w (kind t) (number_of t) (behind t ++ r)
  first (app f a) r = lossless.more 0 0 (behind (app f a)) r
  first (lam b) r = lossless.more 1 0 (behind (lam b)) r
  first (loc n) r = lossless.more 2 n [] r
  first (con n) r = lossless.more 3 n [] r
  first (var n) r = lossless.more 4 n [] r

  next : (s t : Term) (r q : List ℕ) → preorder w s ++ r ≡ preorder w t ++ q
      → (kind s ≡ kind t) × (number_of s ≡ number_of t) × (behind s ++ r ≡ behind t ++ q)
  next s t r q p = lossless.inj (kind s) (kind t) (number_of s) (number_of t) (behind s ++ r) (behind t ++ q) (sym (first s r) ∙ p
      ∙ first t q)

  -- a term is known from its records, whatever follows them
  preorder_inj : (s t : Term) (r q : List ℕ) → preorder w s ++ r ≡ preorder w t ++ q → (s ≡ t) × (r ≡ q)
  preorder_inj (app f a) (app g b) r q p =
      let e = (next (app f a) (app g b) r q p).2 in
      let u = preorder_inj f g (preorder w a ++ r) (preorder w b ++ q)
      (sym (append_assoc (preorder w f) (preorder w a) r) ∙ e ∙ append_assoc (preorder w g) (preorder w b) q) in
      let v = preorder_inj a b r q u.1 in
      (ap₂ app u.0 v.0, v.1)
  preorder_inj (app f a) (lam c) r q p = absurd (omega (arith, (next (app f a) (lam c) r q p).0))
  preorder_inj (app f a) (loc m) r q p = absurd (omega (arith, (next (app f a) (loc m) r q p).0))
  preorder_inj (app f a) (con m) r q p = absurd (omega (arith, (next (app f a) (con m) r q p).0))
  preorder_inj (app f a) (var m) r q p = absurd (omega (arith, (next (app f a) (var m) r q p).0))
  preorder_inj (lam b) (app g a) r q p = absurd (omega (arith, (next (lam b) (app g a) r q p).0))
  preorder_inj (lam b) (lam c) r q p = let u = preorder_inj b c r q (next (lam b) (lam c) r q p).2 in (ap lam u.0, u.1)
  preorder_inj (lam b) (loc m) r q p = absurd (omega (arith, (next (lam b) (loc m) r q p).0))
  preorder_inj (lam b) (con m) r q p = absurd (omega (arith, (next (lam b) (con m) r q p).0))
  preorder_inj (lam b) (var m) r q p = absurd (omega (arith, (next (lam b) (var m) r q p).0))
  preorder_inj (loc n) (app g b) r q p = absurd (omega (arith, (next (loc n) (app g b) r q p).0))
  preorder_inj (loc n) (lam c) r q p = absurd (omega (arith, (next (loc n) (lam c) r q p).0))
  preorder_inj (loc n) (loc m) r q p = let u = next (loc n) (loc m) r q p in (ap loc u.1, u.2)
  preorder_inj (loc n) (con m) r q p = absurd (omega (arith, (next (loc n) (con m) r q p).0))
  preorder_inj (loc n) (var m) r q p = absurd (omega (arith, (next (loc n) (var m) r q p).0))
  preorder_inj (con n) (app g b) r q p = absurd (omega (arith, (next (con n) (app g b) r q p).0))
  preorder_inj (con n) (lam c) r q p = absurd (omega (arith, (next (con n) (lam c) r q p).0))
  preorder_inj (con n) (loc m) r q p = absurd (omega (arith, (next (con n) (loc m) r q p).0))
  preorder_inj (con n) (con m) r q p = let u = next (con n) (con m) r q p in (ap con u.1, u.2)
  preorder_inj (con n) (var m) r q p = absurd (omega (arith, (next (con n) (var m) r q p).0))
  preorder_inj (var n) (app g b) r q p = absurd (omega (arith, (next (var n) (app g b) r q p).0))
  preorder_inj (var n) (lam c) r q p = absurd (omega (arith, (next (var n) (lam c) r q p).0))
  preorder_inj (var n) (loc m) r q p = absurd (omega (arith, (next (var n) (loc m) r q p).0))
  preorder_inj (var n) (con m) r q p = absurd (omega (arith, (next (var n) (con m) r q p).0))
  preorder_inj (var n) (var m) r q p = let u = next (var n) (var m) r q p in (ap var u.1, u.2)

  preorder_one : (s t : Term) → preorder w s ≡ preorder w t → s ≡ t
  preorder_one s t p = (preorder_inj s t [] [] (append-nil (preorder w s) ∙ p ∙ sym (append-nil (preorder w t)))).0

-- the two ways: a kind and a number, and four bytes
numbers_lossless : Lossless kind_and_number
numbers_lossless = record {
  more = λ k n r s. refl;
  inj = λ k m n l r s e. (ap (λ x. get_or x 0 0) e, ap (λ x. get_or x 1 0) e, ap (drop 2) e);
}

pub records_inj : (s t : Term) → kinds_and_numbers s ≡ kinds_and_numbers t → s ≡ t
records_inj s t p = preorder_one kind_and_number numbers_lossless s t p

-- a number is known from its three bytes
pub number_is : (n : ℕ) → n / 65536 * 65536 + (n / 256 % 256 * 256 + n % 256) ≡ n
number_is n = omega arith

number_inj : (n l : ℕ) → n / 65536 ≡ l / 65536 → n / 256 % 256 ≡ l / 256 % 256 → n % 256 ≡ l % 256 → n ≡ l
number_inj n l f g h = sym (number_is n) ∙ (λ i. f i * 65536 + (g i * 256 + h i)) ∙ number_is l

bytes_lossless : Lossless record_bytes
bytes_lossless = record {
  more = λ k n r s. refl;
  inj = λ k m n l r s e. (
    ap (λ x. get_or x 0 0) e,
    number_inj n l (ap (λ x. get_or x 1 0) e) (ap (λ x. get_or x 2 0) e) (ap (λ x. get_or x 3 0) e),
    ap (drop 4) e,
  );
}

pub encode_inj : (s t : Term) (r q : List ℕ) → encode s ++ r ≡ encode t ++ q → (s ≡ t) × (r ≡ q)
encode_inj s t r q p = preorder_inj record_bytes bytes_lossless s t r q p

pub encode_one : (s t : Term) → encode s ≡ encode t → s ≡ t
encode_one s t p = preorder_one record_bytes bytes_lossless s t p

pub encode_length : (t : Term) → length (encode t) ≡ 4 * size t
encode_length (app f a) = omega (arith, length-append (encode f) (encode a), encode_length f, encode_length a)
encode_length (lam b) = omega (arith, encode_length b)
encode_length (loc n) = omega arith
encode_length (con n) = omega arith
encode_length (var n) = omega arith

-- the order of the bytes is the order of the records
abbrev items : Term → List (ℕ × ℕ)
items (app f a) = (0, 0) ∷ items f ++ items a
items (lam b) = (1, 0) ∷ items b
items (loc n) = (2, n) ∷ []
items (con n) = (3, n) ∷ []
items (var n) = (4, n) ∷ []

abbrev written : (ℕ → ℕ → List ℕ → List ℕ) → List (ℕ × ℕ) → List ℕ
written w [] = []
written w (r ∷ l) = w r.0 r.1 (written w l)

module _ (w : ℕ → ℕ → List ℕ → List ℕ) (lossless : Lossless w) where
  preorder_written : (t : Term) (l : List (ℕ × ℕ)) → preorder w t ++ written w l ≡ written w (items t ++ l)
  preorder_written (app f a) l =
      lossless.more 0 0 (preorder w f ++ preorder w a) (written w l)
      ∙ ap (w 0 0)
      (append_assoc (preorder w f) (preorder w a) (written w l) ∙ ap (preorder w f ++◌) (preorder_written a l)
      ∙ preorder_written f (items a ++ l)
      ∙ ap (written w) (sym (append_assoc (items f) (items a) l)))
  preorder_written (lam b) l = lossless.more 1 0 (preorder w b) (written w l) ∙ ap (w 1 0) (preorder_written b l)
  preorder_written (loc n) l = lossless.more 2 n [] (written w l)
  preorder_written (con n) l = lossless.more 3 n [] (written w l)
  preorder_written (var n) l = lossless.more 4 n [] (written w l)

  preorder_items : (t : Term) → preorder w t ≡ written w (items t)
  preorder_items t = sym (append-nil (preorder w t)) ∙ preorder_written t [] ∙ ap (written w) (append-nil (items t))

-- by the number's two low bytes, and then by what follows
abbrev ByLowBytes : (n k : ℕ) (A : Type 0) → Type 0
ByLowBytes n k A = (n / 256 % 256 < k / 256 % 256) ⊎ ((n / 256 % 256 ≡ k / 256 % 256) × ((n % 256 < k % 256) ⊎ A))

number_less : (n k : ℕ) (A : Type 0) → n < k → (n / 65536 < k / 65536) ⊎ ((n / 65536 ≡ k / 65536) × ByLowBytes n k A)
number_less n k A h = go (dec_lt (n / 65536) (k / 65536)) (dec_lt (n / 256 % 256) (k / 256 % 256))
  where
    go : Dec (n / 65536 < k / 65536) → Dec (n / 256 % 256 < k / 256 % 256)
        → (n / 65536 < k / 65536) ⊎ ((n / 65536 ≡ k / 65536) × ByLowBytes n k A)
    go (yes p) d = inl p
    go (no p) (yes q) = inr (omega arith, inl q)
    go (no p) (no q) = inr (omega arith, inr (omega arith, inl (omega arith)))

to_bytes : (l m : List (ℕ × ℕ)) → Lexicographic ◌<◌ (written kind_and_number l) (written kind_and_number m)
    → Lexicographic ◌<◌ (written record_bytes l) (written record_bytes m)
to_bytes [] [] h = h
to_bytes [] (s ∷ m) h = tt
to_bytes (r ∷ l) [] h = h
to_bytes (r ∷ l) (s ∷ m) (inl h) = inl h
to_bytes (r ∷ l) (s ∷ m) (inr (e, inl h)) =
    inr (
      e,
      number_less r.1 s.1 ((r.1 % 256 ≡ s.1 % 256) × Lexicographic ◌<◌ (written record_bytes l) (written record_bytes m)) h,
    )
to_bytes (r ∷ l) (s ∷ m) (inr (e, inr (f, h))) =
    inr (e, inr (ap (◌/ 65536) f, inr (ap (λ n. n / 256 % 256) f, inr (ap (◌% 256) f, to_bytes l m h))))

from_bytes : (l m : List (ℕ × ℕ)) → Lexicographic ◌<◌ (written record_bytes l) (written record_bytes m)
    → Lexicographic ◌<◌ (written kind_and_number l) (written kind_and_number m)
from_bytes [] [] h = h
from_bytes [] (s ∷ m) h = tt
from_bytes (r ∷ l) [] h = h
from_bytes (r ∷ l) (s ∷ m) (inl h) = inl h
from_bytes (r ∷ l) (s ∷ m) (inr (e, inl h)) = inr (e, inl (omega arith))
from_bytes (r ∷ l) (s ∷ m) (inr (e, inr (z, inl h))) = inr (e, inl (omega arith))
from_bytes (r ∷ l) (s ∷ m) (inr (e, inr (z, inr (f, inl h)))) = inr (e, inl (omega arith))
from_bytes (r ∷ l) (s ∷ m) (inr (e, inr (z, inr (f, inr (g, h))))) = inr (e, inr (number_inj r.1 s.1 z f g, from_bytes l m h))

-- "by kind and then number, which is the order of their bytes"
pub order_bytes : (v w : Term) → Lexicographic ◌<◌ (kinds_and_numbers v) (kinds_and_numbers w) ↔ Lexicographic ◌<◌ (encode v) (encode w)
order_bytes v w =
    let pv = preorder_items kind_and_number numbers_lossless v in
    let pw = preorder_items kind_and_number numbers_lossless w in
    let bv = preorder_items record_bytes bytes_lossless v in
    let bw = preorder_items record_bytes bytes_lossless w in (
      λ h. rw (bv, bw) (to_bytes (items v) (items w) (rw (pv, pw) at h)),
      λ h. rw (pv, pw) (from_bytes (items v) (items w) (rw (bv, bw) at h)),
    )

-- "For kind 3 only, the second byte of a record becomes the top eight bits of the number": whatever it is, no constant is refused
pub constant_allowed : (v z h l : ℕ) → allowed v (record_of constant_kind z h l) ≡ true
constant_allowed v z h l = refl

pub constant_number : (z h l : ℕ) → record_of constant_kind z h l ≡ some (constant_kind, z * 65536 + (h * 256 + l))
constant_number z h l = refl

-- "In all other kinds it must still be zero."
pub second_zero : (v k z h l : ℕ) → ¬ (k ≡ constant_kind) → allowed v (record_of k z h l) ≡ true → z ≡ 0
second_zero v k z h l m a = go (eqb z 0) refl (rw (ne_eqb k constant_kind m) at a)
  where
    go : (b : Bool) → eqb z 0 ≡ b → allowed v (cond b (some (k, z * 65536 + (h * 256 + l))) none) ≡ true → z ≡ 0
    go true e a = eqb-true z 0 e
    go false e a = absurd (subst T (sym a) tt)

-- good records have variables in range
allowed_read : (v : ℕ) (read g : Bool) (r : ℕ × ℕ) → allowed v (cond read (some r) none) && g ≡ true → allowed v (some r) && g ≡ true
allowed_read v true g r h = h
allowed_read v false g r h = absurd (subst T (sym h) tt)

pub good_below : (v : ℕ) (t : Term) (r : List ℕ) → good_records v (encode t ++ r) ≡ true → Below v t × (good_records v r ≡ true)
good_below v (app f a) r h =
    let x = good_below v f (encode a ++ r) (rw (append_assoc (encode f) (encode a) r) at h) in
    let y = good_below v a r x.1 in
    ((x.0, y.0), y.1)
good_below v (lam b) r h = good_below v b r h
good_below v (loc n) r h = (tt, allowed_read v (eqb (n / 65536) 0) (good_records v r) (2, n) (rw (number_is n) at h))
good_below v (con n) r h = (tt, h)
good_below v (var n) r h =
    let e = allowed_read v (eqb (n / 65536) 0) (good_records v r) (4, n) (rw (number_is n) at h) in
    let p = and_split (ltb n v) (good_records v r) e in
    (ltb-true n v p.0, p.1)

-- the other way: the second byte of a local is zero, since few binders stand above it
closed_good : (v d : ℕ) (t : Term) (r : List ℕ) → v ≤ words → Closed d t → d + size t ≤ words → Below v t → good_records v r ≡ true
    → good_records v (encode t ++ r) ≡ true
closed_good v d (app f a) r m c s h g =
    rw append_assoc
    (closed_good v d f (encode a ++ r) m c.0 (omega arith) h.0 (closed_good v d a r m c.1 (omega arith) h.1 g))
closed_good v d (lam b) r m c s h g = closed_good v (suc d) b r m c (omega arith) h g
closed_good v d (loc n) r m c s h g = rw (eq-eqb (n / 65536) 0 (omega arith)) g
closed_good v d (con n) r m c s h g = g
closed_good v d (var n) r m c s h g = rw (number_is n, eq-eqb (n / 65536) 0 (omega arith), lt-ltb n v h) g

pub table_good : (v : ℕ) (t : Term) → v ≤ words → Closed 0 t → size t ≤ words → Below v t → good_records v (encode t) ≡ true
table_good v t m c s h = ap (good_records v) (sym (append-nil (encode t))) ∙ closed_good v 0 t [] m c (omega (arith, s)) h refl
