-- The strings of a table: read at a key, and known again from their bytes, one after the other. By induction on the counts. Assumes
-- nothing.
--   Sized ns m   the strings m have so many records
use mathlib.Core.Path.{◌≡◌, refl, sym, ap, ap₂, ◌∙◌}
use mathlib.Core.List.{List, [], ◌∷◌, ◌++◌, append_assoc}
use Prim.Native.Nat.{ℕ, zero, suc, ◌+◌, ◌-◌, ◌*◌, ◌≤◌, ◌<◌}
use native.Mathlib.Omega.{arith}
use lib.ListN.{length, get_or, take, drop, set, length-append, length-drop}
use lib.Seq.{take-add, take_at, drop_at, drop-drop, length-take-le}
use Rattle.slots.specs.Slots.{total, cut, joined, Bounds}
use Rattle.slots.proofs.Counts.{total_split}

pub length_cut : (ns t : List ℕ) → length (cut ns t) ≡ length ns
length_cut [] t = refl
length_cut (n ∷ ns) t = ap suc (length_cut ns (drop (4 * n) t))

abbrev pub Sized : List ℕ → List (List ℕ) → Type 0
Sized [] [] = Unit {0}
Sized [] (s ∷ m) = ⊥
Sized (n ∷ ns) [] = ⊥
Sized (n ∷ ns) (s ∷ m) = (length s ≡ 4 * n) × Sized ns m

pub sized_cut : (ns t : List ℕ) → 4 * total ns ≤ length t → Sized ns (cut ns t)
sized_cut [] t h = tt
sized_cut (n ∷ ns) t h =
    (length-take-le (4 * n) t (omega arith), sized_cut ns (drop (4 * n) t) (simp length-drop (omega arith)))

pub sized_set : (ns : List ℕ) (m : List (List ℕ)) (k n : ℕ) (s : List ℕ) → length s ≡ 4 * n → Sized ns m → Sized (set ns k n) (set m k s)
sized_set [] [] k n s h x = tt
sized_set [] (r ∷ m) k n s h x = absurd x
sized_set (j ∷ ns) [] k n s h x = absurd x
sized_set (j ∷ ns) (r ∷ m) zero n s h x = (h, x.1)
sized_set (j ∷ ns) (r ∷ m) (suc k) n s h x = (x.0, sized_set ns m k n s h x.1)

pub sized_at : (ns : List ℕ) (m : List (List ℕ)) (k : ℕ) → Sized ns m → length (get_or m k []) ≡ 4 * get_or ns k 0
sized_at [] [] k x = refl
sized_at [] (r ∷ m) k x = absurd x
sized_at (j ∷ ns) [] k x = absurd x
sized_at (j ∷ ns) (r ∷ m) zero x = x.0
sized_at (j ∷ ns) (r ∷ m) (suc k) x = sized_at ns m k x.1

pub length_joined : (ns : List ℕ) (m : List (List ℕ)) → Sized ns m → length (joined m) ≡ 4 * total ns
length_joined [] [] x = refl
length_joined [] (r ∷ m) x = absurd x
length_joined (j ∷ ns) [] x = absurd x
length_joined (j ∷ ns) (r ∷ m) x = length-append r (joined m) ∙ omega (arith, x.0, length_joined ns m x.1)

-- strings are known from their bytes
pub cut_joined : (ns : List ℕ) (m : List (List ℕ)) (rest : List ℕ) → Sized ns m → cut ns (joined m ++ rest) ≡ m
cut_joined [] [] rest x = refl
cut_joined [] (r ∷ m) rest x = absurd x
cut_joined (j ∷ ns) [] rest x = absurd x
cut_joined (j ∷ ns) (r ∷ m) rest x =
    let e : r ++ joined m ++ rest ≡ r ++ (joined m ++ rest) = append_assoc r (joined m) rest in
    ap₂ ◌∷◌ (ap (take (4 * j)) e ∙ take_at r (joined m ++ rest) (4 * j) x.0)
    (ap (cut ns) (ap (drop (4 * j)) e ∙ drop_at r (joined m ++ rest) (4 * j) x.0) ∙ cut_joined ns m rest x.1)

pub joined_cut : (ns t : List ℕ) → joined (cut ns t) ≡ take (4 * total ns) t
joined_cut [] t = refl
joined_cut (n ∷ ns) t =
    let e : 4 * n + 4 * total ns ≡ 4 * (n + total ns) = omega arith in
    ap (λ (l : List ℕ). take (4 * n) t ++ l) (joined_cut ns (drop (4 * n) t)) ∙ sym (take-add (4 * n) (4 * total ns) t)
    ∙ ap (λ (k : ℕ). take k t) e

-- a string, read
pub cut_at : (ns t : List ℕ) (k : ℕ) → k < length ns → get_or (cut ns t) k [] ≡ take (4 * get_or ns k 0) (drop (4 * total (take k ns)) t)
cut_at [] t k h = absurd (omega arith)
cut_at (n ∷ ns) t zero h = refl
cut_at (n ∷ ns) t (suc k) h =
    let e : 4 * n + 4 * total (take k ns) ≡ 4 * (n + total (take k ns)) = omega arith in
    cut_at ns (drop (4 * n) t) k (omega arith)
    ∙ ap (take (4 * get_or ns k 0)) (drop-drop (4 * total (take k ns)) (4 * n) t ∙ ap (λ (m : ℕ). drop m t) e)

-- the same, as a part of the table: f are the records before it, w its own
module _ (ns t : List ℕ) (k f w : ℕ) (h : k < length ns) (hf : f ≡ total (take k ns)) (hw : w ≡ get_or ns k 0) where
  pub part_within : Bounds ns t → 4 * f + 4 * w ≤ length t
  part_within b = omega (arith, total_split ns k h, b.fits)

  pub part_held : take (4 * f + 4 * w - 4 * f) (drop (4 * f) t) ≡ get_or (cut ns t) k []
  part_held =
      let n : 4 * f + 4 * w - 4 * f ≡ 4 * get_or ns k 0 = omega arith in
      let e : 4 * f ≡ 4 * total (take k ns) = omega arith in
      ap₂ (λ (x y : ℕ). take x (drop y t)) n e ∙ sym (cut_at ns t k h)
