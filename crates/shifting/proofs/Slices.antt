-- Parts handed on as slices: head, argument and body of the term that a list begins with, and how many bytes it takes. By the laws of
-- positions, since the slice from byte n on begins with the part that stands there. Assumes nothing.
use mathlib.Core.Path.{◌≡◌, subst}
use mathlib.Core.List.{List}
use Prim.Native.Nat.{ℕ, ◌+◌, ◌*◌, ◌≤◌, ◌<◌}
use native.Mathlib.Omega.{arith}
use lib.ListN.{length, get_or}
use Rattle.terms.specs.Term.{Term, app, lam, size}
use Rattle.records.specs.Parts.{slice, Part, Whole, Ends}
use Rattle.records.proofs.Parts as parts
use Rattle.records.proofs.Slices.{part_slice, slice_ends, slice_length}

-- the slices behind a first record, and behind a head of h bytes, are shorter
module _ (l : List ℕ) (t : ℕ) (e : length l ≡ t) (i : 4 ≤ length l) where
  pub shorter : length (slice l 4) < t
  shorter = omega (arith, slice_length l 4)

  pub shorter_behind : (h : ℕ) → length (slice l (4 + h)) < t
  shorter_behind h = omega (arith, slice_length l (4 + h))

-- the parts of an application, whose argument stands behind a head of h bytes, and of an abstraction
pub record ApplicationSlices (l : List ℕ) (t : Term) : Type 0 where
  pub f : Term
  pub a : Term
  pub is : t ≡ app f a
  pub head : Part (slice l 4) 0 f
  pub argument : (h : ℕ) → h ≡ 4 * size f → Part (slice l (4 + h)) 0 a

pub record AbstractionSlices (l : List ℕ) (t : Term) : Type 0 where
  pub b : Term
  pub is : t ≡ lam b
  pub body : Part (slice l 4) 0 b

module _ (l : List ℕ) where
  pub application_slices : (t : Term) → Part l 0 t → get_or l 0 0 ≡ 0 → ApplicationSlices l t
  application_slices t x k =
      let v = parts.application l 0 t x k in
      record {
        f = v.f;
        a = v.a;
        is = v.is;
        head = part_slice l 4 v.f v.head;
        argument = λ h e.
            let n : 0 + 4 + 4 * size v.f ≡ 4 + h = omega arith in
            part_slice l (4 + h) v.a (subst (λ (i : ℕ). Part l i v.a) n v.argument);
      }

  pub abstraction_slices : (t : Term) → Part l 0 t → get_or l 0 0 ≡ 1 → AbstractionSlices l t
  abstraction_slices t x k =
      let v = parts.abstraction l 0 t x k in
      record { b = v.b; is = v.is; body = part_slice l 4 v.b v.body }

  -- the argument stands where the head ends
  pub slices_argument : (h : ℕ) (t : Term) → Ends (slice l 4) 0 h → (v : ApplicationSlices l t) → Part (slice l (4 + h)) 0 v.a
  slices_argument h t e v = v.argument h (omega (arith, e.exact v.f v.head))

  -- how many bytes an application, an abstraction and any other term take
  pub slices_app : (h r : ℕ) → get_or l 0 0 ≡ 0 → Ends (slice l 4) 0 h → Ends (slice l (4 + h)) 0 r → Ends l 0 (4 + h + r)
  slices_app h r k e d = parts.ends_app l 0 (4 + h) (4 + h + r) k (slice_ends l 4 h e) (slice_ends l (4 + h) r d)

  pub slices_lam : (r : ℕ) → get_or l 0 0 ≡ 1 → Ends (slice l 4) 0 r → Ends l 0 (4 + r)
  slices_lam r k e = parts.ends_lam l 0 (4 + r) k (slice_ends l 4 r e)

  pub slices_leaf : ¬ (get_or l 0 0 ≡ 0) → ¬ (get_or l 0 0 ≡ 1) → Whole l 0 → Ends l 0 4
  slices_leaf n m x = parts.ends_leaf l 0 n m x
