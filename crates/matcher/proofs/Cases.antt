-- Document 01's case 1 byte for byte, of list's promise itself: on tables that have room for it, whatever meets the promise is two lines,
-- with these bytes and what stood behind them. The full listing is the table of cases', and list's promise leaves one answer.
-- Assumes nothing.
use mathlib.Core.Path.{◌≡◌, refl}
use mathlib.Core.Option.{some}
use mathlib.Core.List.{List, [], ◌∷◌, ◌++◌}
use mathlib.Core.Logic.{inl}
use Prim.Native.Nat.{ℕ, ◌*◌, ◌-◌, ◌≤◌}
use native.Mathlib.Omega.{arith}
use lib.Dec.{lit≤}
use lib.ListN.{replicate}
use Rattle.std.specs.declared.result.Result.{Result}
use Rattle.std.specs.declared.result.Result.TheVariants.{Ok}
use Rattle.refusals.specs.declared.Refusal.{Refusal}
use Rattle.terms.specs.Figures.{variables, recipe_records}
use Rattle.terms.specs.Term.{Term, app, lam, con, var}
use Rattle.terms.specs.Table.{encode, IsTable}
use Rattle.terms.specs.Listing.{Line, Full}
use Rattle.terms.specs.Refusal.{Passed, list_table_rows, pattern_rows, recipe_rows}
use Rattle.terms.proofs.Refusal.{passed_both}
use Rattle.matching.specs.Cases.{Case.lists, line_from, identity}
use Rattle.matching.proofs.Cases.{cases_hold}
use Rattle.refusals.specs.Lent.{overwritten}
use Rattle.refusals.proofs.Passing.{pattern_passed, normal_passed}
use Rattle.enumeration.specs.Written.{lent_lines, lent_records}
use Rattle.matcher.specs.Operations.{Listed}
use Rattle.matcher.proofs.Determined.{listed_one}

-- 1. `@ p0 p1`, `k0`: p0=`\ #0`, p1=`k0`; then p0=`\ k0`, p1 open
abbrev case_pattern : Term
case_pattern = app (var 0) (var 1)

abbrev case_recipe : Term
case_recipe = con 0

-- their tables
abbrev p : List ℕ
p = encode case_pattern

abbrev r : List ℕ
r = encode case_recipe

abbrev case_listing : List Line
case_listing = line_from variables (some identity ∷ some (con 0) ∷ []) ∷ line_from variables (some (lam (con 0)) ∷ []) ∷ []

-- line 0: 2 records from 0 on and 1 from 2 on; line 1: 2 records from 3 on; all else open
abbrev case_lines : List ℕ
case_lines =
    (0 ∷ 0 ∷ 0 ∷ 2 ∷ 0 ∷ 2 ∷ 0 ∷ 1 ∷ replicate (4 * variables - 8) 0) ++ (0 ∷ 3 ∷ 0 ∷ 2 ∷ replicate (4 * variables - 4) 0)

-- `\ #0`, `k0`, `\ k0`
abbrev value_bytes : List ℕ
value_bytes = 1 ∷ 0 ∷ 0 ∷ 0 ∷ 2 ∷ 0 ∷ 0 ∷ 0 ∷ 3 ∷ 0 ∷ 0 ∷ 0 ∷ 1 ∷ 0 ∷ 0 ∷ 0 ∷ 3 ∷ 0 ∷ 0 ∷ 0 ∷ []

pattern_table : IsTable p case_pattern
pattern_table = (refl, (tt, tt))

recipe_table : IsTable r case_recipe
recipe_table = (refl, tt)

lines_full : Full variables case_pattern case_recipe case_listing
lines_full = cases_hold (lists case_pattern case_recipe case_listing) (inl refl)

sides_passed : Passed (pattern_rows p ++ recipe_rows r)
sides_passed =
    passed_both (pattern_rows p) (recipe_rows r) (pattern_passed case_pattern pattern_table (lit≤ tt) refl)
    (normal_passed case_recipe recipe_records recipe_table (lit≤ tt) refl tt)

module _ (l s w : List ℕ) (h : Passed (list_table_rows l s w)) (two : 2 ≤ lent_lines l) (five : 5 ≤ lent_records s) where
  case_listed : Listed p r l s w (Ok 2) (overwritten case_lines l) (overwritten value_bytes s)
  unfolding Listed
  case_listed = (
    passed_both (list_table_rows l s w) (pattern_rows p ++ recipe_rows r) h sides_passed,
    record {
      lines = case_listing;
      listing_of = record {
        pattern_term = case_pattern;
        recipe_term = case_recipe;
        pattern_table = pattern_table;
        recipe_table = recipe_table;
        full = lines_full;
      };
      room = (λ d. omega (arith, d), (λ d. omega (arith, d), tt));
      count = refl;
      line_bytes = refl;
      value_bytes = refl;
    },
  )

  pub case_1 : (a : Result ℕ Refusal) (m x : List ℕ) → Listed p r l s w a m x
      → (a ≡ Ok 2) × (m ≡ overwritten case_lines l) × (x ≡ overwritten value_bytes s)
  case_1 a m x f =
      listed_one p r l s w a (Ok 2) m (overwritten case_lines l) x (overwritten value_bytes s) f
      case_listed
