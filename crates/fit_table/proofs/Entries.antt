-- One entry: what the answer of `fitting` makes of it, at a place with a rule, at an empty place, and where a buoy has no recipe. Assumes
-- nothing.
use mathlib.Core.Path.{◌≡◌, refl, sym, ap, ◌∙◌, subst}
use mathlib.Core.Bool.{Bool, true, false}
use mathlib.Core.List.{List}
use mathlib.Core.Logic.{inl, inr}
use Prim.Native.Nat.{ℕ, ◌+◌, ◌*◌, ◌<◌}
use native.Mathlib.Omega.{arith}
use lib.ListN.{length, drop, length-take}
use Rattle.std.specs.Int.{from_bool}
use Rattle.std.specs.declared.result.Result.TheVariants.{Ok, Err}
use Rattle.terms.specs.Figures.{place_bytes, most_places, table_bytes}
use Rattle.terms.specs.Refusal.{recipe_rows}
use Rattle.terms.proofs.Substitute.{size_pos}
use Rattle.terms.proofs.Table.{encode_length}
use Rattle.terms.proofs.Refusal.{refused_passed}
use Rattle.records.specs.Tests.{Says}
use Rattle.records.specs.Checks.{Pattern, Recipe}
use Rattle.refusals.specs.declared.Refusal.{Refusal}
use Rattle.refusals.specs.Judged.{number, Judged}
use Rattle.refusals.proofs.Judging.{known, passed, refused}
use Rattle.rules.specs.Rules.{left_count, left_table, is_empty}
use Rattle.rules.specs.Steps.{Rule}
use Rattle.rules.proofs.Places.{empty_left}
use Rattle.fitting.specs.Fitting.{HasMatch}
use Rattle.fitting.specs.Steps.{Searchable}
use Rattle.fit_table.specs.FitTable.{fit_bytes, fit_rows, Fits, RuleFits, Marks}
use Rattle.fit_table.specs.Steps.{RuleReady}

-- a table's length
module _ (f : List ℕ) where
  pub fit_bad : ¬ (length f ≡ fit_bytes) → Judged (fit_rows f) (length f ≡ fit_bytes) (Err Refusal.Tables)
  unfolding Judged
  fit_bad h = inl (h, refl)

  pub fit_good : length f ≡ fit_bytes → Judged (fit_rows f) (length f ≡ fit_bytes) (Ok tt)
  unfolding Judged
  fit_good e = ((λ n. n e, tt), e)

-- no term has a table without bytes
pub no_side : (k : List ℕ) (i : ℕ) (r : List ℕ) → left_count k i ≡ 0 → ¬ RuleFits k i r
no_side k i r e x =
    let h = x.1.1 in
    let n = ap length h.pattern_table.0 ∙ encode_length h.pattern_term in
    omega (arith, n, size_pos h.pattern_term, length-take (4 * left_count k i) (drop (place_bytes * i + 4) k))

-- a place of the book
module _ (k r w : List ℕ) (x : RuleReady k r w) (i : ℕ) (h : i < most_places) where
  pub empty_marks : (b : Bool) → b ≡ is_empty k i → b ≡ true → Marks 0 (RuleFits k i r)
  empty_marks b e f = inr (refl, no_side k i r (empty_left k i (sym e ∙ f)))

  module _ (b : Bool) (e : b ≡ is_empty k i) (f : b ≡ false) where
    pub rule_here : Rule k i
    rule_here = x.rules i (omega (arith, x.book)) (sym e ∙ f)

    module _ (l : List ℕ) (g : l ≡ left_table k i) where
      pub rule_searchable : Searchable l r w
      rule_searchable = record { pattern = rw g rule_here.left.1; recipe = x.recipe; area = x.area }

      pub rule_marks : (a : Bool) → Says a (HasMatch l r) → (n : ℕ) → n ≡ from_bool a → Marks n (RuleFits k i r)
      rule_marks true s n e = inl (e, (rule_here.left.0, (x.passed, subst (λ (y : List ℕ). HasMatch y r) g s)))
      rule_marks false s n e = inr (e, λ y. s (subst (λ (z : List ℕ). HasMatch z r) (sym g) y.1.1))

-- what a buoy has
module _ (p r w : List ℕ) (x : Pattern p) (n : length w ≡ table_bytes) where
  pub held_none : (c : Refusal) → Judged (recipe_rows r) (Recipe r) (Err c) → Marks 0 (Fits p r)
  held_none c j = inr (refl, λ y. refused_passed (recipe_rows r) (number c) (refused (recipe_rows r) (Recipe r) c j) y.0)

  module _ (j : Judged (recipe_rows r) (Recipe r) (Ok tt)) where
    pub held_searchable : Searchable p r w
    held_searchable = record { pattern = x; recipe = known (recipe_rows r) (Recipe r) j; area = n }

    pub held_marks : (a : Bool) → Says a (HasMatch p r) → (m : ℕ) → m ≡ from_bool a → Marks m (Fits p r)
    held_marks true s m e = inl (e, (passed (recipe_rows r) (Recipe r) j, s))
    held_marks false s m e = inr (e, λ y. s y.1)
