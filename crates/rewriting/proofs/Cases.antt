-- Document 01's case 8, of check's promise itself: whatever meets it on the tables of the case is no. The tables pass every row of refusal,
-- the filled pattern sweeps to a term of other size than the recipe, and check's promise leaves one answer. Assumes nothing.
use mathlib.Core.Path.{◌≡◌, refl, sym, ap, subst}
use mathlib.Core.List.{List, ◌∷◌, ◌++◌}
use mathlib.Core.Logic.{inl, inr}
use Prim.Native.Nat.{ℕ, zero, suc, ◌*◌, ◌-◌}
use native.Mathlib.Omega.{arith}
use lib.Dec.{lit<, lit≤}
use lib.ListN.{length, replicate}
use Rattle.std.specs.declared.result.Result.{Result}
use Rattle.std.specs.declared.result.Result.TheVariants.{Ok}
use Rattle.refusals.specs.declared.Refusal.{Refusal}
use Rattle.std.specs.Prelude.{Bool, false}
use Rattle.terms.specs.Figures.{variables, recipe_records, table_bytes}
use Rattle.terms.specs.Term.{Term, app, lam, loc, con, var, Occurs, size}
use Rattle.terms.specs.Sweep.{sweep, fill, largest}
use Rattle.terms.specs.Table.{encode, IsTable}
use Rattle.terms.specs.Layout.{Stored}
use Rattle.terms.specs.Refusal.{Passed, Filled, Matches, OccursIn, assignment_table_rows, assignment_rows, swept_form_rows}
use Rattle.terms.specs.Refusal.{pattern_rows, recipe_rows}
use Rattle.terms.proofs.Table.{encode_one}
use Rattle.terms.proofs.Refusal.{passed_both, filled_one}
use Rattle.refusals.proofs.Passing.{table_passed, pattern_passed, normal_passed}
use Rattle.rewriting.specs.Operations.{lent_for_check, Checked}
use Rattle.rewriting.proofs.Determined.{checked_one}

-- 8. `\ @ @ p0 #0 p1`, `\ @ @ k1 #0 #0`, p0=`\ \ @ #0 #1`, p1 = the recipe: check says no
abbrev case_pattern : Term
case_pattern = lam (app (app (var 0) (loc 0)) (var 1))

abbrev case_recipe : Term
case_recipe = lam (app (app (con 1) (loc 0)) (loc 0))

-- their tables
abbrev p : List ℕ
p = encode case_pattern

abbrev r : List ℕ
r = encode case_recipe

abbrev first : Term
first = lam (lam (app (loc 0) (loc 1)))

abbrev φ : ℕ → Term
φ zero = first
φ (suc n) = case_recipe

-- the line: 5 records from 0, 6 records from 5, and for the variables that don't occur bytes that are not read
abbrev line : List ℕ
line = 0 ∷ 0 ∷ 0 ∷ 5 ∷ 0 ∷ 5 ∷ 0 ∷ 6 ∷ replicate (4 * variables - 8) 255

abbrev case_values : List ℕ
case_values = encode first ++ r

pattern_table : IsTable p case_pattern
pattern_table = (refl, ((tt, lit< tt), tt))

recipe_table : IsTable r case_recipe
recipe_table = (refl, ((tt, lit< tt), lit< tt))

first_stored : Stored line case_values 0 first
first_stored = record {
  least = lit≤ tt;
  most = lit≤ tt;
  within = lit≤ tt;
  bytes = refl;
  value = ((lit< tt, lit< tt), (tt, (tt, (tt, tt, tt))), (tt, tt));
}

second_stored : Stored line case_values 1 case_recipe
second_stored = record {
  least = lit≤ tt;
  most = lit≤ tt;
  within = lit≤ tt;
  bytes = refl;
  value = (((tt, lit< tt), lit< tt), (tt, (tt, (tt, tt, tt), tt)), ((lit< tt, tt), tt));
}

case_stored : (i : ℕ) → Occurs i case_pattern → Stored line case_values i (φ i)
case_stored i (inl (inl e)) = subst (λ (j : ℕ). Stored line case_values j (φ j)) (sym e) first_stored
case_stored i (inl (inr e)) = absurd e
case_stored i (inr e) = subst (λ (j : ℕ). Stored line case_values j (φ j)) (sym e) second_stored

filled : Filled p line case_values (fill φ case_pattern)
filled = record { term = case_pattern; table = pattern_table; φ = φ; stored = case_stored; is = refl }

case_filled : (t : Term) → Filled p line case_values t → t ≡ fill φ case_pattern
case_filled t f = filled_one p line case_values t (fill φ case_pattern) f filled

tables_passed : (w : List ℕ) → length w ≡ table_bytes → Passed (assignment_table_rows line case_values w)
tables_passed w h = (λ n. n refl, (table_passed 4 case_values (lit≤ tt) refl, (λ n. n h, tt)))

sides_passed : Passed (pattern_rows p ++ recipe_rows r)
sides_passed =
    passed_both (pattern_rows p) (recipe_rows r)
    (pattern_passed case_pattern pattern_table (lit≤ tt) refl)
    (normal_passed case_recipe recipe_records recipe_table (lit≤ tt) refl (tt, (tt, (tt, tt, tt), tt)))

assignment_passed : Passed (assignment_rows (OccursIn p) line case_values)
assignment_passed =
    (λ z. z.2 (φ z.0) (case_stored z.0 (subst (Occurs z.0) (encode_one z.1.0 case_pattern (sym z.1.1.0)) z.1.2)), tt)

case_swept_passed : Passed (swept_form_rows p line case_values)
case_swept_passed = (λ z. omega (arith, z.2, ap largest (case_filled z.0 z.1)), tt)

case_unmatched : ¬ Matches p line case_values r
case_unmatched z =
    omega (arith, ap size (encode_one case_recipe (sweep z.0) z.2.0), ap (λ (t : Term). size (sweep t)) (case_filled z.0 z.1))

module _ (w : List ℕ) (h : length w ≡ table_bytes) where
  lent_passed : Passed (lent_for_check p r line case_values w)
  lent_passed =
      passed_both (assignment_table_rows line case_values w ++ (pattern_rows p ++ recipe_rows r))
      (assignment_rows (OccursIn p) line case_values)
      (passed_both (assignment_table_rows line case_values w) (pattern_rows p ++ recipe_rows r) (tables_passed w h) sides_passed)
      assignment_passed

  answer_no : Checked p r line case_values w (Ok false)
  unfolding Checked
  answer_no = (
    passed_both (lent_for_check p r line case_values w) (swept_form_rows p line case_values) lent_passed case_swept_passed,
    case_unmatched,
  )

  pub case_8 : (a : Result Bool Refusal) → Checked p r line case_values w a → a ≡ (Ok false)
  case_8 a x = checked_one p r line case_values w a (Ok false) x answer_no
