-- The verdicts on all that an operation is lent, from those on its tables, in the document's order. Assumes nothing.
use mathlib.Core.Path.{◌≡◌}
use mathlib.Core.List.{List, ◌++◌}
use Prim.Native.Nat.{ℕ, ◌*◌, ◌/◌, ◌≤◌, ◌<◌}
use lib.ListN.{length, set, get_or}
use Rattle.std.specs.Prelude.{⊤}
use Rattle.std.specs.declared.result.Result.{Result}
use Rattle.std.specs.declared.result.Result.TheVariants.{Ok, Err}
use Rattle.terms.specs.Figures.{buoys, shelf_records}
use Rattle.terms.specs.Refusal.{Row, recipe_rows}
use Rattle.records.specs.Checks.{Recipe}
use Rattle.refusals.specs.declared.Refusal.{Refusal}
use Rattle.refusals.specs.Judged.{Judged}
use Rattle.refusals.proofs.Judging.{judged_stop, judged_both, judged_more}
use Rattle.slots.specs.Slots.{total}
use Rattle.storage.specs.Storage.{counts_of, buoy_rows, directory_rows, record_table_rows, absent_rows, room_rows}
use Rattle.storage.specs.Steps.{Directory}
use Rattle.shelf.specs.Operations.{put_rows, take_out_rows}
use Rattle.shelf.specs.Steps.{Puttable, Kept}

-- put: the buoy's number, the two tables, the recipe, the room
module _ (b : ℕ) (r d t : List ℕ) where
  abbrev Tables : Type 0
  Tables = (Directory d × (length t ≡ 4 * shelf_records)) × Recipe r

  abbrev tables_rows : List Row
  tables_rows = directory_rows d ++ record_table_rows t

  abbrev lent_rows : List Row
  lent_rows = tables_rows ++ recipe_rows r

  lent_stop : (c : Refusal) → Judged (buoy_rows b ++ lent_rows) ((b < buoys) × Tables) (Err c)
      → Judged (put_rows b r d t) (Puttable b r d t) (Err c)
  lent_stop c j = judged_stop (buoy_rows b ++ lent_rows) ((b < buoys) × Tables) (room_rows b r d) (Puttable b r d t) c j

  pub put_buoy : (c : Refusal) → Judged (buoy_rows b) (b < buoys) (Err c) → Judged (put_rows b r d t) (Puttable b r d t) (Err c)
  put_buoy c j = lent_stop c (judged_stop (buoy_rows b) (b < buoys) lent_rows ((b < buoys) × Tables) c j)

  module _ (ju : Judged (buoy_rows b) (b < buoys) (Ok tt)) where
    tables_stop : (c : Refusal) → Judged lent_rows Tables (Err c) → Judged (put_rows b r d t) (Puttable b r d t) (Err c)
    tables_stop c j = lent_stop c (judged_both (buoy_rows b) (b < buoys) lent_rows Tables (Err c) ju j)

    shelf_stop : (c : Refusal) → Judged tables_rows (Directory d × (length t ≡ 4 * shelf_records)) (Err c)
        → Judged (put_rows b r d t) (Puttable b r d t) (Err c)
    shelf_stop c j = tables_stop c (judged_stop tables_rows (Directory d × (length t ≡ 4 * shelf_records)) (recipe_rows r) Tables c j)

    pub put_directory : (c : Refusal) → Judged (directory_rows d) (Directory d) (Err c)
        → Judged (put_rows b r d t) (Puttable b r d t) (Err c)
    put_directory c j =
        shelf_stop c
        (judged_stop (directory_rows d) (Directory d) (record_table_rows t) (Directory d × (length t ≡ 4 * shelf_records)) c j)

    module _ (jd : Judged (directory_rows d) (Directory d) (Ok tt)) where
      shelf : (v : Result ⊤ Refusal) → Judged (record_table_rows t) (length t ≡ 4 * shelf_records) v
          → Judged tables_rows (Directory d × (length t ≡ 4 * shelf_records)) v
      shelf v j = judged_both (directory_rows d) (Directory d) (record_table_rows t) (length t ≡ 4 * shelf_records) v jd j

      pub put_table : (c : Refusal) → Judged (record_table_rows t) (length t ≡ 4 * shelf_records) (Err c)
          → Judged (put_rows b r d t) (Puttable b r d t) (Err c)
      put_table c j = shelf_stop c (shelf (Err c) j)

      module _ (jt : Judged (record_table_rows t) (length t ≡ 4 * shelf_records) (Ok tt)) where
        lent : (v : Result ⊤ Refusal) → Judged (recipe_rows r) (Recipe r) v → Judged lent_rows Tables v
        lent v j =
            judged_both tables_rows (Directory d × (length t ≡ 4 * shelf_records)) (recipe_rows r) (Recipe r) v (shelf (Ok tt) jt) j

        pub put_recipe : (c : Refusal) → Judged (recipe_rows r) (Recipe r) (Err c) → Judged (put_rows b r d t) (Puttable b r d t) (Err c)
        put_recipe c j = tables_stop c (lent (Err c) j)

        pub put_judged : (v : Result ⊤ Refusal) → Judged (recipe_rows r) (Recipe r) (Ok tt)
            → Judged (room_rows b r d) (total (set (counts_of d) b (length r / 4)) ≤ shelf_records) v
            → Judged (put_rows b r d t) (Puttable b r d t) v
        put_judged v jr j =
            judged_more (put_rows b r d t)
            (((b < buoys) × Tables) × (total (set (counts_of d) b (length r / 4)) ≤ shelf_records)) (Puttable b r d t) v
            (λ k. record { within = k.0.0; shelf = record { directory = k.0.1.0.0; table = k.0.1.0.1 }; recipe = k.0.1.1; room = k.1 })
            (judged_both (buoy_rows b ++ lent_rows) ((b < buoys) × Tables) (room_rows b r d)
            (total (set (counts_of d) b (length r / 4)) ≤ shelf_records) v
            (judged_both (buoy_rows b) (b < buoys) lent_rows Tables (Ok tt) ju (lent (Ok tt) jr)) j)

-- take-out and read: the buoy's number and the directory, whether the buoy has a recipe, the record table
module _ (b : ℕ) (d t : List ℕ) where
  abbrev named_rows : List Row
  named_rows = buoy_rows b ++ directory_rows d

  abbrev held_rows : List Row
  held_rows = absent_rows b d ++ record_table_rows t

  abbrev Held : Type 0
  Held = (0 < get_or (counts_of d) b 0) × (length t ≡ 4 * shelf_records)

  named_stop : (c : Refusal) → Judged named_rows ((b < buoys) × Directory d) (Err c) → Judged (take_out_rows b d t) (Kept b d t) (Err c)
  named_stop c j = judged_stop named_rows ((b < buoys) × Directory d) held_rows (Kept b d t) c j

  pub kept_buoy : (c : Refusal) → Judged (buoy_rows b) (b < buoys) (Err c) → Judged (take_out_rows b d t) (Kept b d t) (Err c)
  kept_buoy c j = named_stop c (judged_stop (buoy_rows b) (b < buoys) (directory_rows d) ((b < buoys) × Directory d) c j)

  module _ (ju : Judged (buoy_rows b) (b < buoys) (Ok tt)) where
    named : (v : Result ⊤ Refusal) → Judged (directory_rows d) (Directory d) v → Judged named_rows ((b < buoys) × Directory d) v
    named v j = judged_both (buoy_rows b) (b < buoys) (directory_rows d) (Directory d) v ju j

    pub kept_directory : (c : Refusal) → Judged (directory_rows d) (Directory d) (Err c) → Judged (take_out_rows b d t) (Kept b d t) (Err c)
    kept_directory c j = named_stop c (named (Err c) j)

    module _ (jd : Judged (directory_rows d) (Directory d) (Ok tt)) where
      kept_of : (v : Result ⊤ Refusal) → Judged held_rows Held v → Judged (take_out_rows b d t) (Kept b d t) v
      kept_of v j =
          judged_more (take_out_rows b d t) (((b < buoys) × Directory d) × Held) (Kept b d t) v
          (λ k. record { within = k.0.0; shelf = record { directory = k.0.1; table = k.1.1 }; some = k.1.0 })
          (judged_both named_rows ((b < buoys) × Directory d) held_rows Held v (named (Ok tt) jd) j)

      pub kept_held : (c : Refusal) → Judged (absent_rows b d) (0 < get_or (counts_of d) b 0) (Err c)
          → Judged (take_out_rows b d t) (Kept b d t) (Err c)
      kept_held c j =
          kept_of (Err c) (judged_stop (absent_rows b d) (0 < get_or (counts_of d) b 0) (record_table_rows t) Held c j)

      pub kept_judged : (v : Result ⊤ Refusal) → Judged (absent_rows b d) (0 < get_or (counts_of d) b 0) (Ok tt)
          → Judged (record_table_rows t) (length t ≡ 4 * shelf_records) v → Judged (take_out_rows b d t) (Kept b d t) v
      kept_judged v jh j =
          kept_of v
          (judged_both (absent_rows b d) (0 < get_or (counts_of d) b 0) (record_table_rows t) (length t ≡ 4 * shelf_records) v jh j)
