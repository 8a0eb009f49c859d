-- Runs of stores, `sets l o vs`: one behind another, as a copy leaves them, and what was stored read back. By induction on the
-- bytes stored. Assumes nothing.
use mathlib.Core.Path.{◌≡◌, refl, sym, ap, ap₂, ◌∙◌}
use mathlib.Core.List.{List, [], ◌∷◌, ◌++◌, append_assoc}
use Prim.Native.Nat.{ℕ, suc, ◌+◌, ◌-◌, ◌≤◌, ◌<◌}
use native.Mathlib.Nat.{add-zero, add-suc, suc-add}
use native.Mathlib.Numerals.{add-one}
use native.Mathlib.Omega.{arith}
use lib.ListN.{length, get_or, take, drop, set, get_or-append}
use lib.Seq.{paste, sets, sets-eq, take-suc, take_at, take_all, take-set-le, length-take-le, get_or-append-add}

pub sets_then : (xs ys out : List ℕ) (o : ℕ) → sets (sets out o xs) (o + length xs) ys ≡ sets out o (xs ++ ys)
sets_then [] ys out o = ap (λ (k : ℕ). sets out k ys) (add-zero o)
sets_then (x ∷ xs) ys out o =
    ap (λ (k : ℕ). sets (sets (set out o x) (suc o) xs) k ys) (add-suc o (length xs) ∙ sym (suc-add o (length xs)))
    ∙ sets_then xs ys (set out o x) (suc o)

-- the same, as two writers leave it
pub written_then : (xs ys out p q : List ℕ) (o m : ℕ) → p ≡ sets out o xs → q ≡ sets p m ys → m ≡ o + length xs → q ≡ sets out o (xs ++ ys)
written_then xs ys out p q o m e f n = f ∙ ap₂ (λ (l : List ℕ) (k : ℕ). sets l k ys) e n ∙ sets_then xs ys out o

-- one byte more copied
pub copied_more : (out p s : List ℕ) (o i : ℕ) → i < length s → p ≡ sets out o (take i s)
    → set p (o + i) (get_or s i 0) ≡ sets out o (take (i + 1) s)
copied_more out p s o i h e =
    let n : length (take i s) ≡ i = length-take-le i s (omega arith) in
    ap (λ (x : List ℕ). set x (o + i) (get_or s i 0)) e ∙ ap (λ (j : ℕ). set (sets out o (take i s)) (o + j) (get_or s i 0)) (sym n)
    ∙ sets_then (take i s) (get_or s i 0 ∷ []) out o
    ∙ ap (sets out o) (sym (take-suc s i 0 h) ∙ ap (λ (j : ℕ). take j s) (sym (add-one i)))

pub copied_all : (out p s : List ℕ) (o i : ℕ) → length s ≤ i → p ≡ sets out o (take i s) → p ≡ sets out o s
copied_all out p s o i h e = e ∙ ap (sets out o) (take_all i s h)

-- bytes copied at once are stored one behind another
pub pasted : (d s : List ℕ) (at k n : ℕ) → k ≡ n → n ≤ length s → at + n ≤ length d → paste d at s k ≡ sets d at (take n s)
pasted d s at k n e h g =
    let w : length (take n s) ≡ n = length-take-le n s h in
    ap (paste d at s) e ∙ ap (λ (j : ℕ). take at d ++ take n s ++ drop (at + j) d) (sym w) ∙ sym (sets-eq (take n s) d at (omega arith))

-- what was stored from byte 0 on, read back
pub stored : (out p xs : List ℕ) (n : ℕ) → p ≡ sets out 0 xs → n ≡ length xs → n ≤ length out → take (n - 0) (drop 0 p) ≡ xs
stored out p xs n e h w =
    ap (take (n - 0)) (e ∙ sets-eq xs out 0 (omega arith)) ∙ take_at xs (drop (0 + length xs) out) (n - 0) (omega arith)

-- the bytes before those that are stored, and those themselves
pub take_sets : (xs out : List ℕ) (n o : ℕ) → n ≤ o → take n (sets out o xs) ≡ take n out
take_sets [] out n o h = refl
take_sets (x ∷ xs) out n o h = take_sets xs (set out o x) n (suc o) (omega arith) ∙ take-set-le n out o x h

pub get_or_stored : (vs l : List ℕ) (at i : ℕ) → i < length vs → at + length vs ≤ length l
    → get_or (sets l at vs) (at + i) 0 ≡ get_or vs i 0
get_or_stored vs l at i h k =
    let p : length (take at l) ≡ at = length-take-le at l (omega arith) in
    ap₂ (λ (x : List ℕ) (j : ℕ). get_or x (j + i) 0) (sets-eq vs l at k ∙ append_assoc (take at l) vs (drop (at + length vs) l)) (sym p)
    ∙ get_or-append-add (take at l) (vs ++ drop (at + length vs) l) i 0
    ∙ get_or-append vs (drop (at + length vs) l) 0 i h
