-- Tables of the old form mean what they meant. A term whose table is of the old form, or was a table of bytes as tables were written, has
-- no number above 65,535, and is then written as it was. Record by record. Assumes nothing.
use mathlib.Core.Path.{◌≡◌, refl, sym, ap, ap₂, ◌∙◌, subst}
use mathlib.Core.Bool.{Bool, true, false, cond, ◌&&◌}
use mathlib.Core.Option.{none, some}
use mathlib.Core.List.{List, [], ◌∷◌, ◌++◌, append_assoc, append-nil}
use Prim.Native.Nat.{ℕ, zero, suc, ◌+◌, ◌*◌, ◌/◌, ◌%◌, ◌<◌, ◌≤◌}
use native.Mathlib.Omega.{arith}
use lib.Dec.{T, eqb}
use lib.ListN.{get_or}
use borrow.Author.Tests.{eqb-true}
use Rattle.terms.specs.Figures.{words}
use Rattle.terms.specs.Term.{Term, app, lam, loc, con, var, size, Closed, Below}
use Rattle.terms.specs.Sweep.{sweep}
use Rattle.terms.specs.Normalization.{sweeps}
use Rattle.terms.specs.Table.{record_bytes, second_byte_allowed, record_of, allowed, good_records, preorder, encode}
use Rattle.terms.specs.OldForm.{Bytes, OldForm, old_record_bytes, old_record_of, old_good_records, old_encode, NumbersBelow}
use Rattle.terms.specs.OldForm.{OldFormStays, LetInBefore, WrittenAsBefore, SweptAsBefore}
use Rattle.terms.proofs.Tests.{and_split, or_right}
use Rattle.terms.proofs.Variables.{leaves_sweep}
use Rattle.terms.proofs.Normalization.{sweeps_closed_below}

-- a bound on the numbers of a term, from what is known of its table and then of the table behind each record
module _ (w : ℕ → ℕ → List ℕ → List ℕ) (more : (k n : ℕ) (r s : List ℕ) → w k n r ++ s ≡ w k n (r ++ s)) (m : ℕ) (P : List ℕ → Type 0)
    (bound : (k n : ℕ) (r : List ℕ) → P (w k n r) → n < m) (behind : (k n : ℕ) (r : List ℕ) → P (w k n r) → P r) where
  pub numbers_below : (t : Term) (r : List ℕ) → P (preorder w t ++ r) → NumbersBelow m t × P r
  numbers_below (app f a) r h =
      let b = behind 0 0 ((preorder w f ++ preorder w a) ++ r) (subst P (more 0 0 (preorder w f ++ preorder w a) r) h) in
      let x = numbers_below f (preorder w a ++ r) (subst P (append_assoc (preorder w f) (preorder w a) r) b) in
      let y = numbers_below a r x.1 in
      ((x.0, y.0), y.1)
  numbers_below (lam b) r h = numbers_below b r (behind 1 0 (preorder w b ++ r) (subst P (more 1 0 (preorder w b) r) h))
  numbers_below (loc n) r h = let g = subst P (more 2 n [] r) h in (bound 2 n r g, behind 2 n r g)
  numbers_below (con n) r h = let g = subst P (more 3 n [] r) h in (bound 3 n r g, behind 3 n r g)
  numbers_below (var n) r h = let g = subst P (more 4 n [] r) h in (bound 4 n r g, behind 4 n r g)

-- the same bytes for every number below 65,536
written_record : (k n : ℕ) (r : List ℕ) → n < words → record_bytes k n r ≡ old_record_bytes k n r
written_record k n r h =
    let a : n / 65536 ≡ 0 = omega arith in
    let b : n / 256 % 256 ≡ n / 256 = omega arith in
    λ i. k ∷ a i ∷ b i ∷ (n % 256) ∷ r

pub written_as_before : WrittenAsBefore
written_as_before (app f a) h = ap₂ (λ x y. record_bytes 0 0 (x ++ y)) (written_as_before f h.0) (written_as_before a h.1)
written_as_before (lam b) h = ap (record_bytes 1 0) (written_as_before b h)
written_as_before (loc n) h = written_record 2 n [] h
written_as_before (con n) h = written_record 3 n [] h
written_as_before (var n) h = written_record 4 n [] h

old_behind : (k z h l : ℕ) (r : List ℕ) → OldForm (k ∷ z ∷ h ∷ l ∷ r) → OldForm r
old_behind k z h l r o i = let e : 4 * suc i + 1 ≡ suc (suc (suc (suc (4 * i + 1)))) = omega arith in
    ap (λ j. get_or (k ∷ z ∷ h ∷ l ∷ r) j 0) (sym e) ∙ o (suc i)

old_form_below : (t : Term) → OldForm (encode t) → NumbersBelow words t
old_form_below t o =
    (numbers_below record_bytes (λ k n r s. refl) words OldForm (λ k n r h. omega (arith, h 0))
    (λ k n r h. old_behind k (n / 65536) (n / 256 % 256) (n % 256) r h) t [] (subst OldForm (sym (append-nil (encode t))) o)).0

old_bytes_below : (t : Term) → Bytes (old_encode t) → NumbersBelow words t
old_bytes_below t b =
    (numbers_below old_record_bytes (λ k n r s. refl) words Bytes (λ k n r h. omega (arith, h 2))
    (λ k n r h i. h (suc (suc (suc (suc i))))) t [] (subst Bytes (sym (append-nil (old_encode t))) b)).0

-- `record_of` of a zero second byte is as it was
read_as_before : (k h l : ℕ) → record_of k 0 h l ≡ old_record_of k 0 h l
read_as_before k h l =
    let n : 0 * 65536 + (h * 256 + l) ≡ h * 256 + l = omega arith in
    let s : second_byte_allowed k 0 ≡ true = search or_right in
    let r : ℕ → ℕ × ℕ = λ m. (k, m) in
    λ i. cond (s i) (some (r (n i))) none

good_as_before : (v : ℕ) (l : List ℕ) → OldForm l → good_records v l ≡ old_good_records v l
good_as_before v [] o = refl
good_as_before v (k ∷ []) o = refl
good_as_before v (k ∷ z ∷ []) o = refl
good_as_before v (k ∷ z ∷ h ∷ []) o = refl
good_as_before v (k ∷ z ∷ h ∷ l ∷ r) o =
    let e : record_of k z h l ≡ old_record_of k z h l = rw (o 0) (read_as_before k h l) in
    ap₂ (λ x y. allowed v x && y) e (good_as_before v r (old_behind k z h l r o))

pub old_form_stays : OldFormStays
old_form_stays l b o = record {
  good = λ v. good_as_before v l o;
  table = λ t. (
    λ e. e ∙ written_as_before t (old_form_below t (subst OldForm e o)),
    λ e. e ∙ sym (written_as_before t (old_bytes_below t (subst Bytes e b))),
  );
}

-- a record that was allowed has a zero second byte
allowed_before : (v k z h l : ℕ) → allowed v (old_record_of k z h l) ≡ true → z ≡ 0
allowed_before v k z h l a = go (eqb z 0) refl a
  where
    go : (b : Bool) → eqb z 0 ≡ b → allowed v (cond b (some (k, h * 256 + l)) none) ≡ true → z ≡ 0
    go true e a = eqb-true z 0 e
    go false e a = absurd (subst T (sym a) tt)

pub let_in_before : LetInBefore
let_in_before v [] g i = refl
let_in_before v (k ∷ []) g i = absurd (subst T (sym g) tt)
let_in_before v (k ∷ z ∷ []) g i = absurd (subst T (sym g) tt)
let_in_before v (k ∷ z ∷ h ∷ []) g i = absurd (subst T (sym g) tt)
let_in_before v (k ∷ z ∷ h ∷ l ∷ r) g zero = allowed_before v k z h l (and_split (allowed v (old_record_of k z h l)) _ g).0
let_in_before v (k ∷ z ∷ h ∷ l ∷ r) g (suc i) =
    let e : 4 * suc i + 1 ≡ suc (suc (suc (suc (4 * i + 1)))) = omega arith in
    ap (λ j. get_or (k ∷ z ∷ h ∷ l ∷ r) j 0) e ∙ let_in_before v r (and_split (allowed v (old_record_of k z h l)) _ g).1 i

-- the constants of a term are below m; sweeps bring in none
abbrev pub ConstantsBelow : ℕ → Term → Type 0
ConstantsBelow m (app f a) = ConstantsBelow m f × ConstantsBelow m a
ConstantsBelow m (lam b) = ConstantsBelow m b
ConstantsBelow m (loc n) = Unit {0}
ConstantsBelow m (con n) = n < m
ConstantsBelow m (var n) = Unit {0}

pub constants_of : (m : ℕ) (t : Term) → NumbersBelow m t → ConstantsBelow m t
constants_of m (app f a) h = (constants_of m f h.0, constants_of m a h.1)
constants_of m (lam b) h = constants_of m b h
constants_of m (loc n) h = tt
constants_of m (con n) h = h
constants_of m (var n) h = tt

constants_sweeps : (m n : ℕ) (t : Term) → ConstantsBelow m t → ConstantsBelow m (sweeps n t)
constants_sweeps m zero t h = h
constants_sweeps m (suc n) t h =
    constants_sweeps m n (sweep t) (leaves_sweep (ConstantsBelow m) (λ f a. refl) (λ b. refl) (λ k. refl) t h)

-- the numbers of a closed term without variables: those of locals are below the binders above them
pub closed_numbers : (d : ℕ) (t : Term) → Closed d t → Below 0 t → d + size t ≤ words → ConstantsBelow words t → NumbersBelow words t
closed_numbers d (app f a) c b s h =
    (closed_numbers d f c.0 b.0 (omega arith) h.0, closed_numbers d a c.1 b.1 (omega arith) h.1)
closed_numbers d (lam e) c b s h = closed_numbers (suc d) e c b (omega arith) h
closed_numbers d (loc n) c b s h = omega arith
closed_numbers d (con n) c b s h = h
closed_numbers d (var n) c b s h = absurd (omega arith)

pub swept_as_before : SweptAsBefore
swept_as_before n t c b h s =
    let u = sweeps_closed_below n t c b in
    written_as_before (sweeps n t)
    (closed_numbers 0 (sweeps n t) u.0 u.1 (omega (arith, s)) (constants_sweeps words n t (constants_of words t h)))
