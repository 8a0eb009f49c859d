-- Counts of records added up: before a key, up to the end, and with one of them changed. By induction on the counts. Assumes nothing.
use mathlib.Core.Path.{◌≡◌, refl, ap, ◌∙◌}
use mathlib.Core.Bool.{true, false}
use mathlib.Core.List.{List, [], ◌∷◌, ◌++◌}
use Prim.Native.Nat.{ℕ, zero, suc, ◌+◌, ◌-◌, ◌*◌, ◌/◌, ◌≤◌, ◌<◌}
use native.Mathlib.Numerals.{add-one}
use native.Mathlib.Omega.{arith}
use lib.ListN.{length, get_or, take, drop, set, replicate}
use lib.Seq.{take-suc, take_all, split_at}
use Rattle.records.specs.Tests.{Says}
use Rattle.slots.specs.Slots.{total, Bounds}

pub total_append : (xs ys : List ℕ) → total (xs ++ ys) ≡ total xs + total ys
total_append [] ys = omega arith
total_append (x ∷ xs) ys = let h = total_append xs ys in omega arith

-- the sum in a loop
pub total_more : (ns : List ℕ) (i sum n : ℕ) → i < length ns → sum ≡ total (take i ns) → n ≡ get_or ns i 0
    → sum + n ≡ total (take (i + 1) ns)
total_more ns i sum n h e f =
    let p : total (take (i + 1) ns) ≡ total (take i ns) + total (get_or ns i 0 ∷ []) =
    ap (λ (k : ℕ). total (take k ns)) (add-one i) ∙ ap total (take-suc ns i 0 h)
    ∙ total_append (take i ns) (get_or ns i 0 ∷ []) in
    omega arith

pub total_all : (ns : List ℕ) → total (take (length ns) ns) ≡ total ns
total_all ns = ap total (take_all (length ns) ns (omega arith))

-- those before a key, the key's, and those behind it
pub total_split : (ns : List ℕ) (k : ℕ) → k < length ns → total ns ≡ total (take k ns) + get_or ns k 0 + total (drop (suc k) ns)
total_split ns k h =
    ap total (split_at ns k 0 h) ∙ total_append (take k ns) (get_or ns k 0 ∷ drop (suc k) ns) ∙ omega arith

pub total_set : (ns : List ℕ) (k n : ℕ) → k < length ns → total (set ns k n) + get_or ns k 0 ≡ total ns + n
total_set [] k n h = absurd (omega arith)
total_set (x ∷ ns) zero n h = omega arith
total_set (x ∷ ns) (suc k) n h = let r = total_set ns k n (omega arith) in omega arith

pub total_zeros : (n k : ℕ) → total (take k (replicate n 0)) ≡ 0
total_zeros n zero = refl
total_zeros zero (suc k) = refl
total_zeros (suc n) (suc k) = let r = total_zeros n k in omega arith

-- room for n records in the place of a key's: e are all records, w the key's
module _ (ns t : List ℕ) (k e w n : ℕ) (b : Bounds ns t) (h : k < length ns) (he : e ≡ total (take (length ns) ns))
    (hw : w ≡ get_or ns k 0) where
  pub key_least : w ≤ e
  key_least = omega (arith, total_all ns, total_split ns k h)

  pub room_none : length t / 4 - (e - w) < n → Says false (4 * total (set ns k n) ≤ length t)
  room_none g x = omega (arith, total_all ns, total_split ns k h, total_set ns k n h, b.fits)

  pub room_some : n ≤ length t / 4 - (e - w) → Says true (4 * total (set ns k n) ≤ length t)
  room_some g = omega (arith, total_all ns, total_split ns k h, total_set ns k n h, b.fits)
