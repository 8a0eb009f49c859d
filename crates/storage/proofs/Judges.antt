-- The verdicts on a shelf's tables: each is its one row. Assumes nothing.
use mathlib.Core.Path.{◌≡◌, refl, ◌∙◌}
use mathlib.Core.Bool.{Bool, true, false}
use mathlib.Core.List.{List}
use mathlib.Core.Logic.{inl, inr, ⊎_elim}
use Prim.Native.Nat.{ℕ, ◌*◌, ◌/◌, ◌≤◌, ◌<◌}
use native.Mathlib.Omega.{arith}
use lib.ListN.{length, take, set, get_or}
use Rattle.std.specs.declared.result.Result.TheVariants.{Ok, Err}
use Rattle.terms.specs.Figures.{buoys, shelf_records}
use Rattle.records.specs.Tests.{Says}
use Rattle.refusals.specs.declared.Refusal.{Refusal}
use Rattle.refusals.specs.Judged.{Judged}
use Rattle.slots.specs.Slots.{total}
use Rattle.storage.specs.Storage.{directory_bytes, counts_of, buoy_rows, directory_rows, record_table_rows, absent_rows, room_rows}
use Rattle.storage.specs.Steps.{Directory, Shelf}
use Rattle.storage.proofs.Tables.{counts_total, count_at_lem}

pub buoy_bad : (b : ℕ) → buoys ≤ b → Judged (buoy_rows b) (b < buoys) (Err Refusal.Buoy)
unfolding Judged
buoy_bad b h = inl (h, refl)

pub buoy_good : (b : ℕ) → b < buoys → Judged (buoy_rows b) (b < buoys) (Ok tt)
unfolding Judged
buoy_good b h = ((λ n. omega arith, tt), h)

module _ (d : List ℕ) where
  pub length_bad : ¬ (length d ≡ directory_bytes) → Judged (directory_rows d) (Directory d) (Err Refusal.Tables)
  unfolding Judged
  length_bad h = inl (inl h, refl)

  -- n are the records of all recipes
  module _ (n : ℕ) (e : n ≡ total (take buoys (counts_of d))) where
    pub counts_bad : shelf_records < n → Judged (directory_rows d) (Directory d) (Err Refusal.Tables)
    unfolding Judged
    counts_bad h = inl (inr (omega (arith, counts_total d)), refl)

    pub directory_good : length d ≡ directory_bytes → n ≤ shelf_records → Judged (directory_rows d) (Directory d) (Ok tt)
    unfolding Judged
    directory_good s h =
        ((⊎_elim (λ x. x s) (λ x. omega (arith, counts_total d)), tt), record { size = s; fits = omega (arith, counts_total d) })

module _ (t : List ℕ) where
  pub table_bad : ¬ (length t ≡ 4 * shelf_records)
      → Judged (record_table_rows t) (length t ≡ 4 * shelf_records) (Err Refusal.Tables)
  unfolding Judged
  table_bad h = inl (h, refl)

  pub table_good : length t ≡ 4 * shelf_records → Judged (record_table_rows t) (length t ≡ 4 * shelf_records) (Ok tt)
  unfolding Judged
  table_good e = ((λ n. n e, tt), e)

module _ (b : ℕ) (d : List ℕ) (h : b < buoys) where
  pub recipe_none : get_or d b 0 ≡ 0 → Judged (absent_rows b d) (0 < get_or (counts_of d) b 0) (Err Refusal.Buoy)
  unfolding Judged
  recipe_none e = inl (count_at_lem d b h ∙ e, refl)

  pub recipe_some : ¬ (get_or d b 0 ≡ 0) → Judged (absent_rows b d) (0 < get_or (counts_of d) b 0) (Ok tt)
  unfolding Judged
  recipe_some n = ((λ e. n (omega (arith, count_at_lem d b h)), tt), omega (arith, count_at_lem d b h, positive (get_or d b 0) n))
    where
      positive : (k : ℕ) → ¬ (k ≡ 0) → 0 < k
      positive k m = omega arith

-- room, as the test says
module _ (b : ℕ) (r d t : List ℕ) (h : Shelf d t) (x : Bool) (s : Says x (4 * total (set (counts_of d) b (length r / 4)) ≤ length t)) where
  abbrev Room : Type 0
  Room = total (set (counts_of d) b (length r / 4)) ≤ shelf_records

  pub room_some : x ≡ true → Judged (room_rows b r d) Room (Ok tt)
  unfolding Judged
  room_some e = let y : 4 * total (set (counts_of d) b (length r / 4)) ≤ length t = rw e at s in
      ((λ n. omega (arith, h.table), tt), omega (arith, h.table))

  pub room_none : x ≡ false → Judged (room_rows b r d) Room (Err Refusal.ShelfRoom)
  unfolding Judged
  room_none e = let y : ¬ (4 * total (set (counts_of d) b (length r / 4)) ≤ length t) = rw e at s in
      inl (more (total (set (counts_of d) b (length r / 4))) (length t) h.table y, refl)
    where
      more : (k n : ℕ) → n ≡ 4 * shelf_records → ¬ (4 * k ≤ n) → shelf_records < k
      more k n q z = omega arith
