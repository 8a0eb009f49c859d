-- The number of an answer fits 64 bits, so that it is handed on as it is: a count of lines or records is bounded by the largest table, a
-- shelf's count has 32 bits, and a refusal's number is one of nineteen. Assumes nothing.
use mathlib.Core.Path.{◌≡◌, refl, ap, ◌∙◌, subst}
use mathlib.Core.List.{List, ◌++◌}
use mathlib.Core.Logic.{inl}
use Prim.Native.Nat.{ℕ, zero, suc, ◌/◌, ◌≤◌, ◌<◌}
use native.Mathlib.Decide.{dec_lt}
use native.Mathlib.Omega.{arith}
use lib.Dec.{lit<}
use lib.IntN.{ℤ, pos, neg_ℤ, ◌-ℤ◌, +ℤ_idl}
use lib.ListN.{length}
use mir.Syntax.{w64}
use mir.Val.{SFits, to_z, of_z}
use mir.ValLaws.{to_z_pos, to_z-of_z}
use Rattle.std.specs.Prelude.{Bool, true, false, ⊤}
use Rattle.std.specs.declared.result.Result.{Result}
use Rattle.std.specs.declared.result.Result.TheVariants.{Ok, Err}
use Rattle.terms.specs.Figures.{recipe_records, swept_records, table_bytes, most_sweeps, ceiling}
use Rattle.terms.specs.Term.{size}
use Rattle.terms.specs.Sweep.{largest}
use Rattle.terms.specs.Refusal.{Passed, output_table_rows, swept_form_rows, output_rows, unmatched_rows}
use Rattle.terms.proofs.Refusal.{passed_first, passed_later}
use Rattle.terms.proofs.Sweep.{sweep_largest}
use Rattle.terms.proofs.Normalization.{first_normal_short}
use Rattle.refusals.specs.declared.Refusal.{Refusal}
use Rattle.refusals.specs.Judged.{number}
use Rattle.refusals.proofs.Numbers.{number_most}
use Rattle.rewriting.specs.Operations.{lent_for_sweep, lent_for_rewrite, right_side_rows, Written, Swept, Rewritten}
use Rattle.book.specs.declared.NewRecipe.{NewRecipe}
use Rattle.book.specs.Operations.{WrittenRecipe, Booked}
use Rattle.enumeration.specs.Written.{WrittenLines}
use Rattle.matcher.specs.Operations.{lent_for_list, Listed}
use Rattle.storage.specs.Storage.{recipe_of}
use Rattle.shelf.specs.Operations.{take_out_rows, read_table_rows, short_rows, ReadOut, Counted}
use Rattle.exports.specs.Answers.{Counts, refusal_code, count_code, check_code, change_code}

-- a line table has at most 2,048 lines
pub listed_few : (p r l s w : List ℕ) (a : Result ℕ Refusal) (m q : List ℕ) → Listed p r l s w a m q → (n : ℕ) → a ≡ Ok n
    → n ≤ table_bytes
unfolding Listed
listed_few p r l s w a m q x n e = few (subst (λ (b : Result ℕ Refusal). Listed p r l s w b m q) e x)
  where
    few : Passed (lent_for_list p r l s w) × WrittenLines p r l s n m q → n ≤ table_bytes
    few (h, f) = go (dec_lt table_bytes (length l))
      where
        go : Dec (table_bytes < length l) → n ≤ table_bytes
        go (yes d) = absurd (h.0 (inl d))
        go (no d) = let g = f.room.0 in omega (arith, f.count)

-- a swept form that is written is short
written_few : (p l s o : List ℕ) (n : ℕ) (after : List ℕ) → Passed (swept_form_rows p l s) → Written p l s o n after → n ≤ table_bytes
written_few p l s o n after h w = go (dec_lt swept_records (largest w.term))
  where
    go : Dec (swept_records < largest w.term) → n ≤ table_bytes
    go (yes d) = absurd (h.0 (w.term, w.filled, d))
    go (no d) = omega (arith, w.records, sweep_largest w.term)

pub swept_few : (p l s o w : List ℕ) (a : Result ℕ Refusal) (after : List ℕ) → Swept p l s o w a after → (n : ℕ) → a ≡ Ok n
    → n ≤ table_bytes
unfolding Swept
swept_few p l s o w a after x n e =
    let y = subst (λ (b : Result ℕ Refusal). Swept p l s o w b after) e x in
    written_few p l s o n after
    (passed_first (swept_form_rows p l s) (output_rows p l s o)
    (passed_later (lent_for_sweep p l s o w) (swept_form_rows p l s ++ output_rows p l s o) y.0)) y.1

pub rewritten_few : (p q r l s o w : List ℕ) (a : Result ℕ Refusal) (after : List ℕ) → Rewritten p q r l s o w a after → (n : ℕ) → a ≡ Ok n
    → n ≤ table_bytes
unfolding Rewritten
rewritten_few p q r l s o w a after x n e =
    let y = subst (λ (b : Result ℕ Refusal). Rewritten p q r l s o w b after) e x in
    let z =
    passed_later (lent_for_rewrite p q r l s o w) (swept_form_rows p l s ++ (unmatched_rows p l s r ++ right_side_rows q l s o)) y.0 in
    let u = passed_later (unmatched_rows p l s r) (right_side_rows q l s o)
    (passed_later (swept_form_rows p l s) (unmatched_rows p l s r ++ right_side_rows q l s o) z) in
    let f = y.1 in
    let h = first_normal_short most_sweeps f.term f.form f.first (λ g. u.0 (f.term, f.filled, g)) in
    omega (arith, f.records, h)

-- a new recipe has at most 96
pub booked_few : (b r o w : List ℕ) (a : Result NewRecipe Refusal) (after : List ℕ) → Booked b r o w a after → (x : NewRecipe) → a ≡ Ok x
    → x.records ≤ table_bytes
unfolding Booked
booked_few b r o w a after y x e =
    let f = (subst (λ (d : Result NewRecipe Refusal). Booked b r o w d after) e y).1 in
    go f (dec_lt recipe_records (size f.form))
  where
    go : (f : WrittenRecipe b r o x.records x.pairs after) → Dec (recipe_records < size f.form) → x.records ≤ table_bytes
    go f (yes d) = absurd (f.room.0 d)
    go f (no d) = omega (arith, f.records)

-- a recipe that is read has room in the output table
pub read_few : (b : ℕ) (d t o : List ℕ) (a : Result ℕ Refusal) (after : List ℕ) → ReadOut b d t o a after → (n : ℕ) → a ≡ Ok n
    → n ≤ table_bytes
unfolding ReadOut
read_few b d t o a after x n e =
    let y = subst (λ (c : Result ℕ Refusal). ReadOut b d t o c after) e x in
    let p = passed_later (read_table_rows b d t o) (short_rows b d t o) y.0 in
    let q = passed_later (take_out_rows b d t) (output_table_rows o) (passed_first (read_table_rows b d t o) (short_rows b d t o) y.0) in
    go (length o) (length (recipe_of b d t)) (λ h. q.0 (inl h)) p.0 y.1
  where
    go : (m l : ℕ) → ¬ (table_bytes < m) → ¬ (m < l) → n ≡ l / 4 → n ≤ table_bytes
    go m l h g f = omega arith

-- the count of a shelf has 32 bits
pub counted_few : (d : List ℕ) (a : Result ℕ Refusal) → Counted d a → Counts a
unfolding Counted
counted_few d a x n e = (subst (Counted d) e x).2

-- the numbers of answers fit
pub fits_count : (n : ℕ) → n ≤ ceiling → SFits w64 (pos n)
fits_count n h = record { sfits = omega arith }

pub fits_records : (n : ℕ) → n ≤ table_bytes → SFits w64 (pos n)
fits_records n h = fits_count n (omega arith)

fits_minus : (n : ℕ) → n ≤ table_bytes → SFits w64 (neg_ℤ (pos n))
fits_minus zero h = record { sfits = lit< tt }
fits_minus (suc n) h = record { sfits = omega arith }

pub number_few : (c : Refusal) → number c ≤ table_bytes
number_few c = omega (arith, number_most c)

pub fits_refusal : (c : Refusal) → SFits w64 (refusal_code c)
fits_refusal c = fits_minus (number c) (number_few c)

-- a number that was handed on is still itself
pub handed_on : (z k : ℤ) → z ≡ k → SFits w64 k → to_z w64 (of_z w64 z) ≡ k
handed_on z k e f = ap (λ (y : ℤ). to_z w64 (of_z w64 y)) e ∙ to_z-of_z w64 k f

pub fits_counted : (a : Result ℕ Refusal) → Counts a → SFits w64 (count_code a)
fits_counted (Ok n) h = fits_count n (h n refl)
fits_counted (Err c) h = fits_refusal c

pub few_counts : (a : Result ℕ Refusal) → ((n : ℕ) → a ≡ Ok n → n ≤ table_bytes) → Counts a
few_counts a h n e = omega (arith, h n e)
