-- The verdict on what is lent: the tables' lengths, the number of places, the rules and the recipe, in that order. Assumes nothing.
use mathlib.Core.Path.{◌≡◌, refl, sym, subst}
use mathlib.Core.List.{List, ◌++◌}
use mathlib.Core.Logic.{inl, inr, ⊎_elim}
use Prim.Native.Nat.{ℕ, ◌/◌, ◌%◌, ◌≤◌, ◌<◌}
use native.Mathlib.Omega.{arith}
use lib.ListN.{length}
use Rattle.std.specs.Prelude.{⊤}
use Rattle.std.specs.declared.result.Result.{Result}
use Rattle.std.specs.declared.result.Result.TheVariants.{Ok, Err}
use Rattle.std.specs.Result.{result_and}
use Rattle.terms.specs.Figures.{table_bytes, place_bytes, most_places}
use Rattle.terms.specs.Refusal.{recipe_rows}
use Rattle.records.specs.Checks.{Recipe}
use Rattle.refusals.specs.declared.Refusal.{Refusal}
use Rattle.refusals.specs.Judged.{Judged, table_row, area_row}
use Rattle.refusals.proofs.Judging.{judged_stop, judged_both, judged_and, judged_more}
use Rattle.rules.specs.Rules.{places, rules_rows}
use Rattle.rules.specs.Steps.{Rules}
use Rattle.book.specs.Operations.{book_table_rows, places_rows, lent_for_book}
use Rattle.book.specs.Steps.{BookTables}

module _ (b o w : List ℕ) where
  pub length_bad : 0 < length b % place_bytes → Judged (book_table_rows b o w) (length w ≡ table_bytes) (Err Refusal.Tables)
  unfolding Judged
  length_bad h = inl (λ e. omega (arith, e), refl)

  pub length_good : length b % place_bytes ≤ 0 → (v : Result ⊤ Refusal)
      → Judged (table_row 4 o ++ area_row w) ((length o ≤ table_bytes) × (length w ≡ table_bytes)) v
      → Judged (book_table_rows b o w) (length w ≡ table_bytes) v
  unfolding Judged
  length_good h (Ok tt) x = ((λ n. n (omega arith), x.0), x.1.1)
  length_good h (Err c) x = inr (λ n. n (omega arith), x)

module _ (b : List ℕ) where
  pub places_none : length b / place_bytes ≡ 0
      → Judged (places_rows b) (length b / place_bytes ≤ most_places) (Err Refusal.BookSize)
  unfolding Judged
  places_none h = inl (inl h, refl)

  pub places_many : most_places < length b / place_bytes
      → Judged (places_rows b) (length b / place_bytes ≤ most_places) (Err Refusal.BookSize)
  unfolding Judged
  places_many h = inl (inr h, refl)

  pub places_right : ¬ (length b / place_bytes ≡ 0) → length b / place_bytes ≤ most_places
      → Judged (places_rows b) (length b / place_bytes ≤ most_places) (Ok tt)
  unfolding Judged
  places_right h g = ((⊎_elim h (λ k. omega arith), tt), g)

-- all of it, in order
module _ (b r o w : List ℕ) (x y : Result ⊤ Refusal) (jx : Judged (book_table_rows b o w) (length w ≡ table_bytes) x)
    (jy : Judged (places_rows b) (length b / place_bytes ≤ most_places) y) where
  sizes : Judged (book_table_rows b o w ++ places_rows b) ((length w ≡ table_bytes) × (length b / place_bytes ≤ most_places))
      (result_and x y)
  sizes = judged_and (book_table_rows b o w) (length w ≡ table_bytes) (places_rows b) (length b / place_bytes ≤ most_places) x y jx jy

  pub book_stop : (c : Refusal) → Err c ≡ result_and x y → Judged (lent_for_book b r o w) (BookTables b r w) (Err c)
  book_stop c e =
      judged_stop (book_table_rows b o w ++ places_rows b) ((length w ≡ table_bytes) × (length b / place_bytes ≤ most_places))
      (rules_rows b (places b) ++ recipe_rows r) (BookTables b r w) c (subst (Judged _ _) (sym e) sizes)

  pub book_next : Ok tt ≡ result_and x y → (u v : Result ⊤ Refusal) → Judged (rules_rows b (places b)) (Rules b) u
      → Judged (recipe_rows r) (Recipe r) v
      → Judged (lent_for_book b r o w) (BookTables b r w) (result_and u v)
  book_next e u v ju jv =
      judged_more (lent_for_book b r o w) (((length w ≡ table_bytes) × (length b / place_bytes ≤ most_places)) × (Rules b × Recipe r))
      (BookTables b r w) (result_and u v) (λ k. record { rules = k.1.0; few = k.0.1; recipe = k.1.1; area = k.0.0 })
      (judged_both (book_table_rows b o w ++ places_rows b) ((length w ≡ table_bytes) × (length b / place_bytes ≤ most_places))
      (rules_rows b (places b) ++ recipe_rows r) (Rules b × Recipe r) (result_and u v) (subst (Judged _ _) (sym e) sizes)
      (judged_and (rules_rows b (places b)) (Rules b) (recipe_rows r) (Recipe r) u v ju jv))
