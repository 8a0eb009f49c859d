-- One string put in the place of another: the strings behind it move, and the table then begins with all strings. Assumes nothing.
use mathlib.Core.Path.{◌≡◌, sym, ap, ap₂, ◌∙◌}
use mathlib.Core.List.{List, [], ◌∷◌, ◌++◌, append_assoc}
use Prim.Native.Nat.{ℕ, zero, suc, ◌+◌, ◌-◌, ◌*◌, ◌/◌, ◌%◌, ◌≤◌, ◌<◌}
use native.Mathlib.Omega.{arith}
use lib.ListN.{length, get_or, take, drop, set, length-drop}
use lib.Seq.{sets, sets-eq, take-add, drop_at, drop-drop, take-take, take-append-le, length-take-le, length-sets}
use Rattle.copying.specs.Moves.{moved, Movable}
use Rattle.slots.specs.Slots.{total, cut, joined, replaced, Replaceable}
use Rattle.slots.proofs.Counts.{total_all, total_split, total_set}
use Rattle.slots.proofs.Strings.{Sized, sized_cut, sized_set, length_joined, cut_joined, joined_cut}

-- the bytes of the strings: those before the key, the new one, those behind
pub joined_set : (ns t : List ℕ) (k : ℕ) (s : List ℕ) → k < length ns
    → joined (set (cut ns t) k s)
    ≡ take (4 * total (take k ns)) t ++ (s ++ take (4 * total (drop (suc k) ns)) (drop (4 * total (take k ns) + 4 * get_or ns k 0) t))
joined_set [] t k s h = absurd (omega arith)
joined_set (n ∷ ns) t zero s h =
    let e : 4 * n ≡ 0 + 4 * n = omega arith in
    ap (λ (l : List ℕ). s ++ l) (joined_cut ns (drop (4 * n) t) ∙ ap (λ (x : ℕ). take (4 * total ns) (drop x t)) e)
joined_set (n ∷ ns) t (suc k) s h =
    let f : ℕ = 4 * total (take k ns) in
    let m : ℕ = 4 * total (drop (suc k) ns) in
    let g : 4 * n + 4 * total (take k ns) ≡ 4 * (n + total (take k ns)) = omega arith in
    let o : 4 * n + (4 * total (take k ns) + 4 * get_or ns k 0) ≡ 4 * (n + total (take k ns)) + 4 * get_or ns k 0 = omega arith in
    let e : drop (4 * total (take k ns) + 4 * get_or ns k 0) (drop (4 * n) t) ≡ drop (4 * (n + total (take k ns)) + 4 * get_or ns k 0) t =
    drop-drop (4 * total (take k ns) + 4 * get_or ns k 0) (4 * n) t ∙ ap (λ (x : ℕ). drop x t) o in
    ap (λ (l : List ℕ). take (4 * n) t ++ l) (joined_set ns (drop (4 * n) t) k s (omega arith))
    ∙ sym (append_assoc (take (4 * n) t) (take f (drop (4 * n) t)) (s ++ take m (drop (f + 4 * get_or ns k 0) (drop (4 * n) t))))
    ∙ ap₂ (λ (x y : List ℕ). x ++ (s ++ take m y)) (sym (take-add (4 * n) f t) ∙ ap (λ (x : ℕ). take x t) g) e

-- what a move of the strings behind, and then a copy, leave
moved_copied :
    (t p q s : List ℕ) (a o m : ℕ) → a + o + m ≤ length t → a + length s + m ≤ length t → p ≡ moved t (a + o) m (a + length s)
    → q ≡ sets p a s → q ≡ take a t ++ (s ++ (take m (drop (a + o) t) ++ drop (a + length s + m) t))
moved_copied t p q s a o m h k e f =
    let w : length (take m (drop (a + o) t)) ≡ m = length-take-le m (drop (a + o) t) (simp length-drop (omega arith)) in
    let v : length (take (a + length s) t) ≡ a + length s = length-take-le (a + length s) t (omega arith) in
    let b : p ≡ take (a + length s) t ++ (take m (drop (a + o) t) ++ drop (a + length s + m) t) =
    e ∙ sets-eq (take m (drop (a + o) t)) t (a + length s) (omega arith)
    ∙ append_assoc (take (a + length s) t) (take m (drop (a + o) t)) (drop (a + length s + length (take m (drop (a + o) t))) t)
    ∙ ap (λ (x : ℕ). take (a + length s) t ++ (take m (drop (a + o) t) ++ drop (a + length s + x) t)) w in
    let n : length p ≡ length t = ap length e ∙ length-sets t (a + length s) (take m (drop (a + o) t)) in
    let front : take a p ≡ take a t =
    ap (take a) b ∙ take-append-le a (take (a + length s) t) (take m (drop (a + o) t) ++ drop (a + length s + m) t) (omega arith)
    ∙ take-take a (a + length s) t (omega arith) in
    let back : drop (a + length s) p ≡ take m (drop (a + o) t) ++ drop (a + length s + m) t =
    ap (drop (a + length s)) b
    ∙ drop_at (take (a + length s) t) (take m (drop (a + o) t) ++ drop (a + length s + m) t) (a + length s) v in
    f ∙ sets-eq s p a (omega arith) ∙ append_assoc (take a p) s (drop (a + length s) p)
    ∙ ap₂ (λ (x y : List ℕ). x ++ (s ++ y)) front back

module _ (ns t : List ℕ) (k : ℕ) (s : List ℕ) (ready : Replaceable ns t k s) where
  records_is : length s / 4 ≡ ready.records
  records_is = omega (arith, ready.whole)

  sized : Sized (set ns k (length s / 4)) (set (cut ns t) k s)
  sized = sized_set ns (cut ns t) k (length s / 4) s (omega (arith, ready.whole)) (sized_cut ns t ready.bounds.fits)

  joined_length : length (joined (set (cut ns t) k s)) ≡ 4 * total (set ns k (length s / 4))
  joined_length = length_joined (set ns k (length s / 4)) (set (cut ns t) k s) sized

  joined_within : 4 * total (set ns k (length s / 4)) ≤ length t
  joined_within = rw records_is ready.room

  replaced_is : replaced ns t k s ≡ joined (set (cut ns t) k s) ++ drop (length (joined (set (cut ns t) k s))) t
  replaced_is =
      let e : 0 + length (joined (set (cut ns t) k s)) ≡ length (joined (set (cut ns t) k s)) = omega arith in
      sets-eq (joined (set (cut ns t) k s)) t 0 (omega (arith, joined_length, joined_within))
      ∙ ap (λ (x : ℕ). joined (set (cut ns t) k s) ++ drop x t) e

  pub count_set : set ns k (length s / 4 % 256) ≡ set ns k (length s / 4)
  count_set = ap (set ns k) (omega (arith, ready.whole, ready.most))

  -- a string replaced changes no other
  pub cut_replaced : cut (set ns k (length s / 4)) (replaced ns t k s) ≡ set (cut ns t) k s
  cut_replaced =
      ap (cut (set ns k (length s / 4))) replaced_is
      ∙ cut_joined (set ns k (length s / 4)) (set (cut ns t) k s) (drop (length (joined (set (cut ns t) k s))) t) sized

  -- as the function computes it: f are the records before the key's string, w its own, e all
  module _ (f w e : ℕ) (hf : f ≡ total (take k ns)) (hw : w ≡ get_or ns k 0) (he : e ≡ total (take (length ns) ns)) where
    parts : (e ≡ f + w + total (drop (suc k) ns)) × (total (set ns k (length s / 4)) + w ≡ e + length s / 4)
    parts = (
      omega (arith, total_all ns, total_split ns k ready.within),
      omega (arith, total_all ns, total_set ns k (length s / 4) ready.within),
    )

    pub behind_least : 4 * f + 4 * w ≤ 4 * e
    behind_least = omega (arith, parts.0)

    pub behind_movable : Movable t (4 * f + 4 * w) (4 * e - (4 * f + 4 * w)) (4 * f + length s)
    behind_movable =
        let x = parts.0 in
        let y = parts.1 in
        let z = joined_within in
        let b = ready.bounds.fits in
        let a = total_all ns in
        let r = ready.whole in
        record { source = omega arith; target = omega arith }

    pub string_within : (p : List ℕ) → p ≡ moved t (4 * f + 4 * w) (4 * e - (4 * f + 4 * w)) (4 * f + length s)
        → 4 * f + length s ≤ length p
    string_within p h =
        let n : length p ≡ length t =
        ap length h ∙ length-sets t (4 * f + length s) (take (4 * e - (4 * f + 4 * w)) (drop (4 * f + 4 * w) t)) in
        omega (arith, behind_movable.target)

    pub table_replaced : (p q : List ℕ) → p ≡ moved t (4 * f + 4 * w) (4 * e - (4 * f + 4 * w)) (4 * f + length s) → q ≡ sets p (4 * f) s
        → q ≡ replaced ns t k s
    table_replaced p q ep eq =
        let x = parts in
        let y = behind_movable in
        let a : 4 * f ≡ 4 * total (take k ns) = omega arith in
        let o : 4 * w ≡ 4 * get_or ns k 0 = omega arith in
        let m : 4 * e - (4 * f + 4 * w) ≡ 4 * total (drop (suc k) ns) = omega (arith, x.0) in
        let tail : behind
        ≡ take (4 * total (drop (suc k) ns)) (drop (4 * total (take k ns) + 4 * get_or ns k 0) t) =
        ap₂ (λ (i j : ℕ). take i (drop j t)) m (ap₂ ◌+◌ a o) in
        let strings : joined (set (cut ns t) k s) ≡ take (4 * f) t ++ (s ++ behind) =
        joined_set ns t k s ready.within ∙ sym (ap₂ (λ (i : ℕ) (l : List ℕ). take i t ++ (s ++ l)) a tail) in
        let all : length (joined (set (cut ns t) k s)) ≡ 4 * f + length s + (4 * e - (4 * f + 4 * w)) =
        joined_length ∙ omega (arith, x.0, x.1, ready.whole) in
        moved_copied t p q s (4 * f) (4 * w) (4 * e - (4 * f + 4 * w)) y.source (omega (arith, y.target)) ep eq
        ∙ sym (ap₂ (λ (l : List ℕ) (i : ℕ). l ++ drop i t) strings all
        ∙ append_assoc (take (4 * f) t) (s ++ behind) (drop (4 * f + length s + (4 * e - (4 * f + 4 * w))) t)
        ∙ ap (λ (l : List ℕ). take (4 * f) t ++ l) (append_assoc s behind (drop (4 * f + length s + (4 * e - (4 * f + 4 * w))) t)))
        ∙ sym replaced_is
      where
        behind : List ℕ
        behind = take (4 * e - (4 * f + 4 * w)) (drop (4 * f + 4 * w) t)
