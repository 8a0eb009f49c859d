-- A pattern has a match exactly if some total assignment of values takes it to the recipe: so it has one exactly if a search finds a line,
-- and exactly if its reduct has one. Assumes nothing.
--   TotalMatch p t   a total assignment of values takes the pattern p to the recipe t
use mathlib.Core.Path.{◌≡◌, refl, sym, ap, ◌∙◌, subst₂}
use mathlib.Core.Bool.{Bool, true, false}
use mathlib.Core.List.{List, [], ◌∷◌}
use mathlib.Core.Logic.{inl}
use Prim.Native.Nat.{ℕ, ◌-◌, ◌*◌, ◌≤◌, ◌<◌}
use native.Mathlib.Omega.{arith}
use lib.Dec.{ltb}
use lib.ListN.{length, take, drop}
use borrow.Author.Tests.{ltb-true, ltb-false}
use Rattle.std.specs.declared.option.Option.{Option}
use Rattle.std.specs.declared.option.Option.TheVariants.{Some}
use Rattle.terms.specs.Figures.{variables}
use Rattle.terms.specs.Term.{Term}
use Rattle.terms.specs.Sweep.{sweep}
use Rattle.terms.specs.Assignment.{Match}
use Rattle.terms.specs.Listing.{Line}
use Rattle.terms.specs.Refusal.{OccursIn}
use Rattle.terms.proofs.Table.{encode_one}
use Rattle.matching.specs.Lists.{Values, Lists}
use Rattle.matching.specs.Goals.{Sweeps}
use Rattle.matching.specs.Reducts.{reduct}
use Rattle.matching.proofs.Lists.{witness}
use Rattle.matching.proofs.Partial.{total_of, values_total, fill_total, restrict, entries_restrict, complete_restrict, fill_restrict}
use Rattle.matching.proofs.Reducts.{reduct_sweep}
use Rattle.records.specs.Tests.{Says}
use Rattle.records.specs.Checks.{Pattern, Recipe}
use Rattle.listing.specs.declared.Tally.{Tally}
use Rattle.listing.specs.Outcome.{Outcome, none_found, outcome}
use Rattle.listing.proofs.Stores.{stores_count}
use Rattle.reducts.specs.Reduced.{pattern_bytes, Reduces}
use Rattle.reducts.proofs.Reducts.{reduct_pattern, reduct_table}
use Rattle.search.specs.Collected.{Tallied, Collected}
use Rattle.fitting.specs.Fitting.{HasMatch}
use Rattle.fitting.specs.Steps.{Searchable}

record TotalMatch (p t : Term) : Type 0 where
  φ : ℕ → Term
  values : Values φ
  sweeps : Sweeps p t φ

module _ (p t : List ℕ) (a : Pattern p) (b : Recipe t) where
  abbrev x : Term
  x = a.tree

  abbrev y : Term
  y = b.tree

  total_match : TotalMatch x y → HasMatch p t
  total_match s = record {
    pattern_term = x;
    recipe_term = y;
    pattern_table = a.table;
    recipe_table = b.table;
    assignment = restrict variables s.φ;
    is_match = (
      entries_restrict variables s.φ s.values,
      complete_restrict variables x a.below s.φ,
      ap sweep (fill_restrict variables x a.below s.φ) ∙ s.sweeps,
    );
  }

  match_total : HasMatch p t → TotalMatch x y
  match_total h =
      let m : Match variables x y h.assignment = subst₂ (λ (u v : Term). Match variables u v h.assignment)
      (encode_one h.pattern_term x (sym h.pattern_table.0 ∙ a.table.0))
      (encode_one h.recipe_term y (sym h.recipe_table.0 ∙ b.table.0)) h.is_match in
      record {
        φ = total_of h.assignment;
        values = values_total variables h.assignment m.0;
        sweeps = ap sweep (sym (fill_total x h.assignment m.1)) ∙ m.2;
      }

  -- lines that list the matches
  line_match : (ls : List Line) → Lists variables (OccursIn p) (Sweeps x y) ls → 0 < length ls → HasMatch p t
  line_match [] l h = absurd (omega arith)
  line_match (k ∷ ls) l h =
      let w = witness (OccursIn p) k (l.assigns k (inl refl)) in
      total_match (record { φ = w.φ; values = w.values; sweeps = l.sound w.φ w.values k (inl refl) w.extends })

  match_line : (ls : List Line) → Lists variables (OccursIn p) (Sweeps x y) ls → HasMatch p t → 0 < length ls
  match_line [] l h = let s = match_total h in absurd (l.covers s.φ s.values s.sweeps).1
  match_line (k ∷ ls) l h = omega arith

  -- a search that stops at the first line
  module _ (m₀ q₀ m q : List ℕ) (n : Tally) (c : Collected p t 0 m₀ q₀ m q n) where
    tallied : Tallied p (Sweeps x y) 0 (outcome m₀ q₀ none_found) (outcome m q n)
    tallied = c.answer x y a.table.0 b.table.0

    pub found_match : Says (ltb 0 n.lines) (HasMatch p t)
    found_match = go (ltb 0 n.lines) refl
      where
        go : (r : Bool) → ltb 0 n.lines ≡ r → Says r (HasMatch p t)
        go true e = line_match tallied.lines tallied.lists (omega (arith, tallied.over (ltb-true 0 n.lines e)))
        go false e = λ h.
            let none : n.lines ≤ 0 = ltb-false 0 n.lines e in
            omega (
              arith,
              match_line tallied.lines tallied.lists h,
              ap (λ (o : Outcome). o.count) (tallied.exact none),
              stores_count (outcome m₀ q₀ none_found) tallied.lines,
            )

-- the reduct has the pattern's matches
module _ (p : List ℕ) (a : Pattern p) (before after : List ℕ) (r : Option ℕ) (n : ℕ) (w : Reduces p before r after) (e : r ≡ Some n)
    (h : length before ≡ pattern_bytes) where
  abbrev q : List ℕ
  q = take (n * 4 - 0) (drop 0 after)

  searched : Pattern q
  searched = let o = reduct_table (reduct a.tree) before after r n (w a.tree a.table.0) e h in
      reduct_pattern p q a o.bytes (omega (arith, o.fills, o.few))

  pub reduct_searchable : (t v : List ℕ) → Searchable p t v → Searchable q t v
  reduct_searchable t v s = record { pattern = searched; recipe = s.recipe; area = s.area }

  pub reduct_says : (t : List ℕ) → Recipe t → (b : Bool) → Says b (HasMatch q t) → Says b (HasMatch p t)
  unfolding searched
  reduct_says t y true m =
      let s = match_total q t searched y m in
      total_match p t a y
      (record { φ = s.φ; values = s.values; sweeps = sym (reduct_sweep s.φ s.values a.tree) ∙ s.sweeps })
  reduct_says t y false n = λ m.
      let s = match_total p t a y m in
      n (total_match q t searched y
      (record { φ = s.φ; values = s.values; sweeps = reduct_sweep s.φ s.values a.tree ∙ s.sweeps }))
