-- The four bytes of a counter: written one by one, and the number that they give back. Assumes nothing.
use mathlib.Core.Path.{◌≡◌, ap, ap₂, ◌∙◌}
use mathlib.Core.List.{List}
use Prim.Native.Nat.{ℕ, suc, ◌+◌, ◌*◌, ◌/◌, ◌%◌, ◌≤◌}
use native.Mathlib.Omega.{arith}
use lib.Dec.{lit<}
use lib.ListN.{length, get_or, set}
use lib.Seq.{sets}
use Rattle.terms.specs.Figures.{words, ceiling}
use Rattle.copying.proofs.Stores.{get_or_stored}
use Rattle.counters.specs.Counters.{counter_bytes, count_at, raised}

-- a word's two bytes, and the number that they give
word_is : (n : ℕ) → n / 256 * 256 + n % 256 ≡ n
word_is n = omega arith

words_are : (n : ℕ) → n / words * words + n % words ≡ n
words_are n = omega arith

-- the number of a counter is the one that was written
pub count_stored : (l : List ℕ) (at n : ℕ) → at + 4 ≤ length l → count_at (sets l at (counter_bytes n)) at ≡ n
count_stored l at n h =
    let a : get_or (sets l at (counter_bytes n)) (at + 0) 0 ≡ n / words / 256 = get_or_stored (counter_bytes n) l at 0 (lit< tt) h in
    let b : get_or (sets l at (counter_bytes n)) (at + 1) 0 ≡ n / words % 256 = get_or_stored (counter_bytes n) l at 1 (lit< tt) h in
    let c : get_or (sets l at (counter_bytes n)) (at + 2) 0 ≡ n % words / 256 = get_or_stored (counter_bytes n) l at 2 (lit< tt) h in
    let d : get_or (sets l at (counter_bytes n)) (at + 3) 0 ≡ n % words % 256 = get_or_stored (counter_bytes n) l at 3 (lit< tt) h in
    let i : at ≡ at + 0 = omega arith in
    let j : at + 2 + 1 ≡ at + 3 = omega arith in
    ap₂ (λ (x y : ℕ). x * words + y)
    (ap₂ (λ (x y : ℕ). x * 256 + y) (ap (λ (x : ℕ). get_or (sets l at (counter_bytes n)) x 0) i ∙ a) b ∙ word_is (n / words))
    (ap₂ (λ (x y : ℕ). x * 256 + y) c (ap (λ (x : ℕ). get_or (sets l at (counter_bytes n)) x 0) j ∙ d) ∙ word_is (n % words))
    ∙ words_are n
