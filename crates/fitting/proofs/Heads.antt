-- Heads that exclude a match: a pattern with a rigid head never sweeps to a recipe with another head, so the full listing is empty. Assumes
-- nothing.
use mathlib.Core.Path.{◌≡◌, sym, ◌∙◌, subst}
use mathlib.Core.Bool.{Bool, true, false, not}
use mathlib.Core.List.{List, []}
use Prim.Native.Nat.{ℕ}
use Rattle.terms.specs.Figures.{variables}
use Rattle.terms.specs.Term.{Term}
use Rattle.terms.specs.Assignment.{valuation}
use Rattle.terms.specs.Listing.{Full}
use Rattle.terms.specs.Heads.{rigid}
use Rattle.matching.specs.Goals.{Sweeps}
use Rattle.matching.proofs.Reducts.{shift_zero}
use Rattle.records.specs.Parts.{Part, Whole}
use Rattle.records.specs.Checks.{Pattern, Recipe}
use Rattle.records.proofs.Parts.{at_start, whole}
use Rattle.agenda.specs.Heads.{Agree}
use Rattle.fitting.specs.Fitting.{HasMatch}
use Rattle.fitting.specs.Steps.{Excluded}

pub pattern_whole : (p : List ℕ) → Pattern p → Whole p 0
pattern_whole p x = whole p 0 x.tree (at_start p x.tree x.table.0)

pub recipe_whole : (t : List ℕ) → Recipe t → Whole t 0
recipe_whole t x = whole t 0 x.tree (at_start t x.tree x.table.0)

-- where no assignment sweeps to the recipe, no line is needed
none_full : (p t : Term) → ((φ : ℕ → Term) → ¬ Sweeps p t φ) → Full variables p t []
none_full p t h = record {
  entries = λ l i. absurd i;
  assigns = λ l i. absurd i;
  rising = tt;
  sound = λ a e c l i. absurd i;
  covers = λ a m. absurd (h (valuation a) m.2);
  once = λ a m l k i. absurd i;
}

module _ (p t : List ℕ) where
  pub not_excluded : Excluded p t false
  unfolding Excluded
  not_excluded = tt

  pub excluded : (r : Bool) → ((u : Term) → Part p 0 u → r ≡ rigid u) → r ≡ true → (b : Bool) → Agree p t b → Excluded p t (not b)
  unfolding Excluded Agree
  excluded r h e true a = tt
  excluded r h e false a = λ q u x y. none_full q u (λ φ s.
      a q u (at_start p q x.0) (at_start t u y.0) (sym (h q (at_start p q x.0)) ∙ e) φ 0 u (sym (shift_zero 0 u)) s)

  -- every match agrees with a line, and here there is none
  pub excluded_none : (b : Bool) → Excluded p t b → b ≡ true → ¬ HasMatch p t
  unfolding Excluded
  excluded_none b x e =
      let f : Excluded p t true = subst (Excluded p t) e x in
      λ h. ((f h.pattern_term h.recipe_term h.pattern_table h.recipe_table).covers h.assignment h.is_match).1
