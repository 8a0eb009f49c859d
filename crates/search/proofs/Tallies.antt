-- How searches for parts of a predicate make up a search for the whole of it. The lines found one after the other are stored one after the
-- other, and a search that stops at the limit leans on lines that exist for what it has not searched. Assumes nothing.
use mathlib.Core.Path.{◌≡◌, refl, sym, ap, ◌∙◌}
use mathlib.Core.List.{List, [], ◌∷◌, ◌++◌}
use mathlib.Core.Logic.{◌⊎◌, ◌↔◌}
use Prim.Native.Nat.{ℕ, ◌<◌, ◌≤◌}
use native.Mathlib.Omega.{arith}
use lib.ListN.{length, length-append}
use Rattle.terms.specs.Figures.{variables}
use Rattle.terms.specs.Term.{Term}
use Rattle.terms.specs.Assignment.{Assigns}
use Rattle.terms.specs.Listing.{Line}
use Rattle.terms.specs.Refusal.{OccursIn}
use Rattle.matching.specs.Lists.{Values, Extends, Predicate}
use Rattle.matching.proofs.Lists.{lists_same, lists_none, lists_one, lists_or}
use Rattle.matching.proofs.Goals.{Listing}
use Rattle.listing.specs.Outcome.{Outcome, store, stores}
use Rattle.listing.proofs.Stores.{stores_append, store_count, stores_count}
use Rattle.search.specs.Collected.{Tallied}

module _ (P : List ℕ) (limit : ℕ) where
  pub tallied_same : (Q R : Predicate) (x y : Outcome) → ((φ : ℕ → Term) → Values φ → Q φ ↔ R φ) → Tallied P R limit x y
      → Tallied P Q limit x y
  tallied_same Q R x y e t = record {
    lines = t.lines;
    lists = lists_same variables (OccursIn P) Q R t.lines e t.lists;
    exact = t.exact;
    over = t.over;
  }

  -- no assignment: nothing changes
  pub tallied_none : (Q : Predicate) (x : Outcome) → x.count ≤ limit → ((φ : ℕ → Term) → Values φ → ¬ Q φ) → Tallied P Q limit x x
  tallied_none Q x h n = record { lines = []; lists = lists_none variables (OccursIn P) Q n; exact = λ _. refl; over = λ g. omega arith }

  -- one line
  pub tallied_one :
      (Q : Predicate) (x y : Outcome) (l : Line) → y ≡ store x l → length l ≡ variables → Assigns (OccursIn P) l
      → ((φ : ℕ → Term) → Values φ → Q φ ↔ Extends φ l) → Tallied P Q limit x y
  tallied_one Q x y l e n a s = record {
    lines = l ∷ [];
    lists = lists_one variables (OccursIn P) Q l n a s;
    exact = λ _. e;
    over = λ g. omega (arith, ap (λ (o : Outcome). o.count) e, store_count x l);
  }

  -- one search after another
  pub tallied_or :
      (Q R : Predicate) (x y z : Outcome) → ((φ : ℕ → Term) → Values φ → Q φ → R φ → ⊥) → y.count ≤ limit
      → Tallied P Q limit x y → Tallied P R limit y z → Tallied P (λ φ. Q φ ⊎ R φ) limit x z
  tallied_or Q R x y z apart h t u = record {
    lines = t.lines ++ u.lines;
    lists = lists_or variables (OccursIn P) Q R t.lines u.lines apart t.lists u.lists;
    exact = λ g. u.exact g ∙ ap (λ (o : Outcome). stores o u.lines) (t.exact h) ∙ sym (stores_append x t.lines u.lines);
    over = λ g. omega
        (arith, u.over g, ap (λ (o : Outcome). o.count) (t.exact h), stores_count x t.lines, length-append t.lines u.lines);
  }

  -- a search that stopped
  pub tallied_stop :
      (Q R : Predicate) (x y : Outcome) → ((φ : ℕ → Term) → Values φ → Q φ → R φ → ⊥) → limit < y.count
      → Tallied P Q limit x y → Listing variables (OccursIn P) R → Tallied P (λ φ. Q φ ⊎ R φ) limit x y
  tallied_stop Q R x y apart h t u = record {
    lines = t.lines ++ u.lines;
    lists = lists_or variables (OccursIn P) Q R t.lines u.lines apart t.lists u.lists;
    exact = λ g. absurd (omega arith);
    over = λ g. omega (arith, t.over g, length-append t.lines u.lines);
  }
