-- A new recipe is one that every operation takes: it passes the rows 4 to 7, having 1 to 96 records and being closed, normal and without
-- variables. Where no rule was used it is the recipe that was given; else it is a first normal form of that recipe with a closed term
-- without variables in the place of a part. Assumes nothing.
use mathlib.Core.Path.{◌≡◌, refl, sym, ap, ◌∙◌, subst}
use mathlib.Core.List.{List, [], ◌++◌, append-nil}
use mathlib.Core.Logic.{⊎_elim}
use Prim.Native.Nat.{ℕ, ◌*◌}
use native.Mathlib.Omega.{arith}
use lib.ListN.{length, take, drop}
use lib.Seq.{take_at}
use Rattle.std.specs.declared.result.Result.TheVariants.{Ok}
use Rattle.terms.specs.Figures.{recipe_records, most_sweeps}
use Rattle.terms.specs.Term.{Term, Below}
use Rattle.terms.specs.Table.{encode, good_records, IsTable}
use Rattle.terms.specs.Refusal.{Passed, recipe_rows}
use Rattle.terms.proofs.Table.{encode_length, encode_one, good_below, table_good}
use Rattle.terms.proofs.Refusal.{passed_later}
use Rattle.terms.proofs.Normalization.{first_normal_closed_below}
use Rattle.records.specs.Parts.{Part}
use Rattle.records.proofs.Tests.{not_false_true}
use Rattle.refusals.proofs.Passing.{normal_passed}
use Rattle.rules.specs.Rules.{left_table, right_table, places, rules_rows}
use Rattle.replacing.specs.Replacing.{replaced}
use Rattle.replacing.proofs.Holes.{hole}
use Rattle.replacing.proofs.Wholes.{replaced_put}
use Rattle.attempts.proofs.Forms.{form_closed_below}
use Rattle.rules.specs.Pairs.{pairs}
use Rattle.book.specs.declared.NewRecipe.{NewRecipe}
use Rattle.book.specs.Operations.{book_table_rows, places_rows, WrittenRecipe, Booked}
use Rattle.book.proofs.Used.{NoneUsed, RuleUsed, found_used}

-- what is put in a part's place brings in no variable
whole_below : (r : List ℕ) (s : Term) → r ≡ encode s → Below 0 s → (k : ℕ) (t u : Term) → Part r (4 * k) t → Below 0 u → (w : Term)
    → IsTable (replaced r k t u) w → Below 0 w
whole_below r s e h k t u p g w i =
    let x = hole s k (omega (arith, p.some, p.within, ap length e, encode_length s)) in
    subst (Below 0) (encode_one (x.put u) w (sym (replaced_put r s e k x t u p) ∙ i.0)) (x.put_below u g h)

module _ (b r o w : List ℕ) (a : NewRecipe) (after : List ℕ) (x : Booked b r o w (Ok a) after) where
  abbrev n : ℕ
  n = a.records

  abbrev c : ℕ
  c = a.pairs

  passed : Passed (recipe_rows r)
  unfolding Booked
  passed =
      passed_later (rules_rows b (places b)) (recipe_rows r)
      (passed_later (book_table_rows b o w ++ places_rows b) (rules_rows b (places b) ++ recipe_rows r) x.0)

  written : WrittenRecipe b r o n c after
  unfolding Booked
  written = x.1

  abbrev form : Term
  form = written.form

  abbrev s : Term
  s = written.found.term

  written_bytes : take (4 * n) after ≡ encode form
  written_bytes =
      ap (take (4 * n)) written.bytes
      ∙ take_at (encode form) (drop (length (encode form)) o) (4 * n) (omega (arith, written.records, encode_length form))

  recipe_below : Below 0 s
  recipe_below =
      let e = written.found.table.0 in
      (good_below 0 s [] (ap (good_records 0) (append-nil (encode s) ∙ sym e) ∙ sym (not_false_true (good_records 0 r) passed.1.0))).0

  none_recipe : (m : ℕ) → NoneUsed b s (pairs written.found.parts (places b)) m form → Passed (recipe_rows (take (4 * n) after))
  none_recipe m y =
      subst (λ (l : List ℕ). Passed (recipe_rows l)) (written.found.table.0 ∙ ap encode (sym y.same) ∙ sym written_bytes) passed

  used_recipe : (m : ℕ) → RuleUsed b r (pairs written.found.parts (places b)) m form → Passed (recipe_rows (take (4 * n) after))
  used_recipe m y =
      let u = form_closed_below (left_table b y.place) (right_table b y.place) y.part y.put y.made in
      let z = whole_below r s written.found.table.0 recipe_below y.at y.part y.put y.stands u.1 y.whole y.table in
      let d = first_normal_closed_below most_sweeps 0 y.whole form y.first y.table.1 z in
      let g = table_good 0 form (omega arith) d.0 (omega (arith, written.room.0)) d.1 in
      rw written_bytes (normal_passed form recipe_records (refl, d.0) (omega (arith, written.room.0)) g y.first.normal)

  pub booked_recipe : Passed (recipe_rows (take (4 * n) after))
  booked_recipe = ⊎_elim (none_recipe c) (used_recipe c) (found_used b r form c written.found)
