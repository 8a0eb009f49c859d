-- What `any` and `all` say of the numbers of a range from 0 on, as std's lemmas tell it of their list, said of the numbers themselves.
-- Assumes nothing.
use mathlib.Core.Path.{◌≡◌, subst}
use mathlib.Core.Bool.{Bool, true, false}
use Prim.Native.Nat.{ℕ, ◌<◌}
use native.Mathlib.Omega.{arith}
use lib.ListN.{length, get_or}
use Rattle.std.specs.Bool.{MatchBool}
use Rattle.std.specs.List.{range_with_len, HoldsAt, AllWithin}
use Rattle.std.proofs.lemmas.List.FromFn.{length-range_with_len, get_or-range_with_len}

number : (n k : ℕ) → k < n → get_or (range_with_len 0 n) k 0 ≡ k
number n k i = omega (arith, get_or-range_with_len 0 n k 0 i)

module _ (n : ℕ) (P : ℕ → Type 0) where
  some_below : (k : ℕ) × (k < length (range_with_len 0 n)) × HoldsAt P (range_with_len 0 n) k → (k : ℕ) × (k < n) × P k
  some_below w =
      let i : w.0 < n = omega (arith, length-range_with_len 0 n, w.1) in
      (w.0, i, subst P (number n w.0 i) (w.2 0))

  each_below : AllWithin P (range_with_len 0 n) 0 (length (range_with_len 0 n)) → (k : ℕ) → k < n → P k
  each_below w k i = subst P (number n k i) (w k 0 (omega arith) (omega (arith, length-range_with_len 0 n)))

module _ (n : ℕ) (Yes No : ℕ → Type 0) where
  pub any_below : (r : Bool)
      → MatchBool r ((k : ℕ) × (k < length (range_with_len 0 n)) × HoldsAt Yes (range_with_len 0 n) k)
      (AllWithin No (range_with_len 0 n) 0 (length (range_with_len 0 n)))
      → MatchBool r ((k : ℕ) × (k < n) × Yes k) ((k : ℕ) → k < n → No k)
  any_below true w = some_below n Yes w
  any_below false w = each_below n No w

  pub all_below : (r : Bool)
      → MatchBool r (AllWithin Yes (range_with_len 0 n) 0 (length (range_with_len 0 n)))
      ((k : ℕ) × (k < length (range_with_len 0 n)) × HoldsAt No (range_with_len 0 n) k)
      → MatchBool r ((k : ℕ) → k < n → Yes k) ((k : ℕ) × (k < n) × No k)
  all_below true w = each_below n Yes w
  all_below false w = some_below n No w
