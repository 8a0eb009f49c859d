-- The reduct of a pattern is searched in its place: its full listing is the pattern's own. From the laws of the reduct in `matching`.
-- Assumes nothing.
use mathlib.Core.Path.{◌≡◌, sym, ◌∙◌, subst}
use mathlib.Core.List.{List}
use Prim.Native.Nat.{ℕ, ◌*◌, ◌≤◌}
use lib.ListN.{length}
use Rattle.std.specs.declared.result.Result.{Result}
use Rattle.std.specs.declared.result.Result.TheVariants.{Ok, Err}
use Rattle.refusals.specs.declared.Refusal.{Refusal}
use Rattle.terms.specs.Figures.{variables, pattern_records}
use Rattle.terms.specs.Term.{Term}
use Rattle.terms.specs.Table.{encode}
use Rattle.terms.specs.Listing.{Line, Full}
use Rattle.terms.proofs.Table.{encode_one}
use Rattle.matching.specs.Reducts.{reduct}
use Rattle.matching.proofs.Reducts.{reduct_full}
use Rattle.records.specs.Checks.{Pattern}
use Rattle.reducts.proofs.Reducts.{reduct_pattern}
use Rattle.enumeration.specs.Written.{ListingOf, Enumerated}
use Rattle.enumeration.specs.Steps.{ListTables}

module _ (p q : List ℕ) (a : Pattern p) (e : q ≡ encode (reduct a.tree)) where
  pub listable : length q ≤ 4 * pattern_records → (t l s w : List ℕ) → ListTables p t l s w → ListTables q t l s w
  listable h t l s w x = record {
    pattern_checked = reduct_pattern p q a e h;
    recipe_checked = x.recipe_checked;
    lines_most = x.lines_most;
    values_most = x.values_most;
    area = x.area;
  }

  listing_of : (t : List ℕ) (ls : List Line) → ListingOf q t ls → ListingOf p t ls
  listing_of t ls f = record {
    pattern_term = a.tree;
    recipe_term = f.recipe_term;
    pattern_table = a.table;
    recipe_table = f.recipe_table;
    full = reduct_full variables a.tree f.recipe_term a.below ls
        (subst (λ (u : Term). Full variables u f.recipe_term ls)
        (encode_one f.pattern_term (reduct a.tree) (sym f.pattern_table.0 ∙ e)) f.full);
  }

  pub enumerated : (t l s : List ℕ) (r : Result ℕ Refusal) (m n : List ℕ) → Enumerated q t l s r m n → Enumerated p t l s r m n
  unfolding Enumerated
  enumerated t l s (Ok k) m n x = record {
    lines = x.lines;
    listing_of = listing_of t x.lines x.listing_of;
    room = x.room;
    count = x.count;
    line_bytes = x.line_bytes;
    value_bytes = x.value_bytes;
  }
  enumerated t l s (Err c) m n x =
      (record { lines = x.0.lines; listing_of = listing_of t x.0.lines x.0.listing_of; cause = x.0.cause }, x.1, x.2)
