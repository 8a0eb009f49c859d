-- What rewrite writes can be rewritten again: it is closed, normal and without variables, so that it passes each of a recipe's rows 4 to 7
-- but for the length, and passes all if it has at most 96 records. Assumes nothing.
use mathlib.Core.Path.{◌≡◌, refl, ap, ◌∙◌}
use mathlib.Core.List.{List, ◌++◌}
use mathlib.Core.Logic.{inl}
use Prim.Native.Nat.{ℕ, ◌*◌, ◌≤◌, ◌<◌}
use native.Mathlib.Omega.{arith}
use lib.ListN.{length, take, drop}
use lib.Seq.{take_at}
use Rattle.std.specs.declared.result.Result.TheVariants.{Ok}
use Rattle.terms.specs.Figures.{most_sweeps, recipe_records, table_bytes, words}
use Rattle.terms.specs.Term.{size}
use Rattle.terms.specs.Table.{encode}
use Rattle.terms.specs.Refusal.{Passed, normal_rows, recipe_rows, swept_form_rows, unmatched_rows}
use Rattle.terms.proofs.Refusal.{passed_later}
use Rattle.terms.proofs.Table.{encode_length, table_good}
use Rattle.terms.proofs.Normalization.{first_normal_closed_below}
use Rattle.refusals.proofs.Passing.{normal_passed}
use Rattle.sides.proofs.Sides.{filled_closed_below}
use Rattle.rewriting.specs.Operations.{lent_for_rewrite, right_side_rows, WrittenNormal, Rewritten}

module _ (p q r l s o w : List ℕ) (n : ℕ) (after : List ℕ) (x : Rewritten p q r l s o w (Ok n) after) where
  written : WrittenNormal q l s o n after
  unfolding Rewritten
  written = x.1

  -- a form that fits a lent table has few records
  few : size written.form ≤ words
  unfolding Rewritten
  few =
      let long : ¬ (table_bytes < length o) = λ h. x.0.1.1.1.0 (inl h) in
      let tail = swept_form_rows p l s ++ (unmatched_rows p l s r ++ right_side_rows q l s o) in
      let rest = passed_later (lent_for_rewrite p q r l s o w) tail x.0 in
      let short : ¬ (length o < 4 * size written.form) =
      λ h. rest.1.1.1.1.0 (written.term, written.form, written.filled, written.first, h) in
      omega arith

  -- the bytes that are written
  written_bytes : take (4 * n) after ≡ encode written.form
  written_bytes =
      ap (take (4 * n)) written.bytes
      ∙ take_at (encode written.form) (drop (length (encode written.form)) o) (4 * n)
      (omega (arith, written.records, encode_length written.form))

  -- document 02: "Planners chain rules", and the next rule doesn't turn it down with 7, nor with 5 or 6
  pub rewritten_normal : (most : ℕ) → n ≤ most → Passed (normal_rows most (take (4 * n) after))
  rewritten_normal most h =
      let b = filled_closed_below q l s written.term written.filled in
      let c = first_normal_closed_below most_sweeps 1 written.term written.form written.first b.0 b.1 in
      let g = table_good 0 written.form (omega arith) c.0 few c.1 in
      rw written_bytes (normal_passed written.form most (refl, c.0) (omega (arith, written.records)) g written.first.normal)

  pub rewritten_recipe : n ≤ recipe_records → Passed (recipe_rows (take (4 * n) after))
  rewritten_recipe h = rewritten_normal recipe_records h
