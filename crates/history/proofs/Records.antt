-- The records of the other buoys' recipes and of a new one, added up over the history and over the counts of a directory. By induction on
-- the buoys. Assumes nothing.
use mathlib.Core.Path.{◌≡◌, refl, sym, ap, ap₂, ◌∙◌}
use mathlib.Core.Bool.{cond}
use mathlib.Core.List.{List}
use Prim.Native.Nat.{ℕ, zero, suc, ◌+◌, ◌/◌, ◌≤◌, ◌<◌}
use native.Mathlib.Numerals.{add-one}
use native.Mathlib.Decide.{ℕ_discrete}
use native.Mathlib.Omega.{arith}
use lib.ListN.{length, get_or, take, set, length-set}
use lib.Seq.{get_or-set_same, get_or-set_other, take_all}
use Rattle.terms.proofs.Tests.{by_eqb}
use Rattle.slots.specs.Slots.{total}
use Rattle.slots.proofs.Counts.{total_more}
use Rattle.history.specs.Law.{Call, latest, others}

module _ (cs : List Call) (ns : List ℕ) (b n : ℕ) (within : b < length ns)
    (counts : (k : ℕ) → k < length ns → get_or ns k 0 ≡ length (latest k cs) / 4) where
  one_more : (k : ℕ) → k < length ns → total (take (suc k) (set ns b n)) ≡ total (take k (set ns b n)) + get_or (set ns b n) k 0
  one_more k h =
      ap (λ (j : ℕ). total (take j (set ns b n))) (sym (add-one k))
      ∙ sym (total_more (set ns b n) k (total (take k (set ns b n))) (get_or (set ns b n) k 0) (omega (arith, length-set ns b n)) refl refl)

  others_own : others b cs (suc b) ≡ others b cs b
  others_own =
      by_eqb (λ x. others b cs b + cond x 0 (length (latest b cs) / 4) ≡ others b cs b) b b (λ z. omega arith) (λ z. absurd (z refl))

  others_more : (k : ℕ) → k < length ns → ¬ (k ≡ b) → others b cs (suc k) ≡ others b cs k + get_or (set ns b n) k 0
  others_more k h e =
      by_eqb (λ x. others b cs k + cond x 0 (length (latest k cs) / 4) ≡ others b cs k + get_or (set ns b n) k 0) k b (λ z. absurd (e z))
      (λ z. ap (λ (x : ℕ). others b cs k + x) (sym (counts k h) ∙ sym (get_or-set_other ns b k n 0 e)))

  before : (k : ℕ) → k ≤ b → total (take k (set ns b n)) ≡ others b cs k
  before zero h = refl
  before (suc k) h =
      one_more k (omega arith) ∙ ap (λ (x : ℕ). x + get_or (set ns b n) k 0) (before k (omega arith))
      ∙ sym (others_more k (omega arith) (λ e. omega arith))

  behind : (k : ℕ) → b < k → k ≤ length ns → total (take k (set ns b n)) ≡ others b cs k + n
  behind zero g h = absurd (omega arith)
  behind (suc k) g h = go (λ e. behind k e (omega arith)) (ℕ_discrete k b)
    where
      apart : (j : ℕ) → b < suc j → ¬ (j ≡ b) → b < j
      apart j h e = omega arith

      swap : (x y z : ℕ) → x + y + z ≡ x + z + y
      swap x y z = omega arith

      go : (b < k → total (take k (set ns b n)) ≡ others b cs k + n) → Dec (k ≡ b)
          → total (take (suc k) (set ns b n)) ≡ others b cs (suc k) + n
      go x (yes e) =
          ap (λ (j : ℕ). total (take (suc j) (set ns b n))) e ∙ one_more b within
          ∙ ap₂ ◌+◌ (before b (omega arith)) (get_or-set_same ns b n 0 within) ∙ ap (λ (x : ℕ). x + n) (sym others_own)
          ∙ ap (λ (j : ℕ). others b cs (suc j) + n) (sym e)
      go x (no e) =
          let y = others_more k (omega arith) e in
          one_more k (omega arith) ∙ ap (λ (x : ℕ). x + get_or (set ns b n) k 0) (x (apart k g e))
          ∙ swap (others b cs k) n (get_or (set ns b n) k 0)
          ∙ ap (λ (x : ℕ). x + n) (sym y)

  pub total_others : (m : ℕ) → m ≡ length ns → total (set ns b n) ≡ others b cs m + n
  total_others m e =
      ap total (sym (take_all m (set ns b n) (omega (arith, length-set ns b n)))) ∙ behind m (omega arith) (omega arith)
