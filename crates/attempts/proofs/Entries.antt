-- The open entries of a line, filled one after the other: the words of the entry that is written, and that those of the others stay.
-- Assumes nothing.
use mathlib.Core.Path.{◌≡◌, refl, sym, ap, ap₂, ◌∙◌, subst}
use mathlib.Core.Bool.{Bool, true, false, cond}
use mathlib.Core.List.{List, []}
use mathlib.Core.Logic.{◌⊎◌, inl, inr}
use Prim.Native.Nat.{ℕ, suc, ◌+◌, ◌*◌, ◌/◌, ◌%◌, ◌≤◌, ◌<◌}
use native.Mathlib.Decide.{ℕ_discrete, dec_lt}
use native.Mathlib.Omega.{arith}
use lib.Dec.{eqb}
use borrow.Author.Tests.{eq-eqb, ne_eqb}
use lib.ListN.{length, get_or, set, length-set}
use lib.Seq.{sets, length-sets, get_or-set_same, get_or-set_other}
use Rattle.terms.specs.Figures.{variables, words}
use Rattle.terms.specs.Layout.{word, word_at}
use Rattle.attempts.specs.Steps.{open_first, open_count, EntryFilled, EntryWritten, FilledOpen}

-- a word that is written, and the words beside it
module _ (l : List ℕ) (at n : ℕ) (h : at + 2 ≤ length l) where
  pub word_same : n < words → word_at (sets l at (word n [])) at ≡ n
  word_same f =
      let a : get_or (set (set l at (n / 256)) (suc at) (n % 256)) at 0 ≡ n / 256 =
      get_or-set_other (set l at (n / 256)) (suc at) at (n % 256) 0 (λ e. omega (arith, e))
      ∙ get_or-set_same l at (n / 256) 0 (omega arith) in
      let s : at + 1 ≡ suc at = omega arith in
      let b : get_or (set (set l at (n / 256)) (suc at) (n % 256)) (at + 1) 0 ≡ n % 256 =
      ap (λ (k : ℕ). get_or (set (set l at (n / 256)) (suc at) (n % 256)) k 0) s
      ∙ get_or-set_same (set l at (n / 256)) (suc at) (n % 256) 0 (omega (arith, length-set l at (n / 256))) in
      omega (arith, a, b)

  byte_other : (k : ℕ) → ¬ (k ≡ at) → ¬ (k ≡ suc at) → get_or (sets l at (word n [])) k 0 ≡ get_or l k 0
  byte_other k x y = get_or-set_other (set l at (n / 256)) (suc at) k (n % 256) 0 y ∙ get_or-set_other l at k (n / 256) 0 x

  pub word_before : (k : ℕ) → k + 2 ≤ at → word_at (sets l at (word n [])) k ≡ word_at l k
  word_before k g =
      ap₂ (λ (x y : ℕ). x * 256 + y) (byte_other k (λ e. omega (arith, e)) (λ e. omega (arith, e)))
      (byte_other (k + 1) (λ e. omega (arith, e)) (λ e. omega (arith, e)))

  pub word_after : (k : ℕ) → at + 2 ≤ k → word_at (sets l at (word n [])) k ≡ word_at l k
  word_after k g =
      ap₂ (λ (x y : ℕ). x * 256 + y) (byte_other k (λ e. omega (arith, e)) (λ e. omega (arith, e)))
      (byte_other (k + 1) (λ e. omega (arith, e)) (λ e. omega (arith, e)))

-- an entry that is not open, and one that is
module _ (l : List ℕ) (n i c : ℕ) (e : c ≡ word_at l (4 * i + 2)) where
  pub entry_assigned : 0 < c → EntryWritten l n i l
  entry_assigned h =
      let z : eqb (word_at l (4 * i + 2)) 0 ≡ false = ne_eqb (word_at l (4 * i + 2)) 0 (λ d. omega (arith, d)) in
      record {
        length_is = refl;
        filled = record {
          first = ap (λ (b : Bool). cond b n (word_at l (4 * i))) (sym z);
          count = ap (λ (b : Bool). cond b 1 (word_at l (4 * i + 2))) (sym z);
        };
        kept = λ k d. record { first = refl; count = refl };
      }

  pub entry_open : c ≤ 0 → 4 * i + 4 ≤ length l → n < words → (p m : List ℕ) → p ≡ sets l (4 * i) (word n [])
      → m ≡ sets p (4 * i + 2) (word 1 []) → EntryWritten l n i m
  entry_open h w f p m x y =
      let z : eqb (word_at l (4 * i + 2)) 0 ≡ true = eq-eqb (word_at l (4 * i + 2)) 0 (omega arith) in
      let g : length p ≡ length l = ap length x ∙ length-sets l (4 * i) (word n []) in
      record {
        length_is = ap length y ∙ length-sets p (4 * i + 2) (word 1 []) ∙ g;
        filled = record {
          first =
              ap (λ (q : List ℕ). word_at q (4 * i)) y ∙ word_before p (4 * i + 2) 1 (omega (arith, g)) (4 * i) (omega arith)
              ∙ ap (λ (q : List ℕ). word_at q (4 * i)) x ∙ word_same l (4 * i) n (omega arith) f
              ∙ ap (λ (b : Bool). cond b n (word_at l (4 * i))) (sym z);
          count =
              ap (λ (q : List ℕ). word_at q (4 * i + 2)) y ∙ word_same p (4 * i + 2) 1 (omega (arith, g)) (omega arith)
              ∙ ap (λ (b : Bool). cond b 1 (word_at l (4 * i + 2))) (sym z);
        };
        kept = λ k d. record {
          first = other (4 * k) (apart k d (4 * k) (omega arith) (omega arith));
          count = other (4 * k + 2) (apart k d (4 * k + 2) (omega arith) (omega arith));
        };
      }
    where
      apart : (k : ℕ) → ¬ (k ≡ i) → (j : ℕ) → 4 * k ≤ j → j ≤ 4 * k + 2 → (j + 2 ≤ 4 * i) ⊎ (4 * i + 4 ≤ j)
      apart k d j a b = go (dec_lt k i)
        where
          go : Dec (k < i) → (j + 2 ≤ 4 * i) ⊎ (4 * i + 4 ≤ j)
          go (yes q) = inl (omega arith)
          go (no q) = inr (omega arith)

      other : (k : ℕ) → (k + 2 ≤ 4 * i) ⊎ (4 * i + 4 ≤ k) → word_at m k ≡ word_at l k
      other k (inl q) =
          ap (λ (r : List ℕ). word_at r k) y
          ∙ word_before p (4 * i + 2) 1 (omega (arith, ap length x, length-sets l (4 * i) (word n []))) k (omega arith)
          ∙ ap (λ (r : List ℕ). word_at r k) x ∙ word_before l (4 * i) n (omega arith) k q
      other k (inr q) =
          ap (λ (r : List ℕ). word_at r k) y
          ∙ word_after p (4 * i + 2) 1 (omega (arith, ap length x, length-sets l (4 * i) (word n []))) k (omega arith)
          ∙ ap (λ (r : List ℕ). word_at r k) x ∙ word_after l (4 * i) n (omega arith) k (omega arith)
