-- What check and rewrite are lent against what a listing speaks of: a table filled from a line and a value table is a pattern filled by an
-- assignment, and it sweeps to the recipe exactly if that assignment is a match. The entries that occur are the stored values.
-- Assumes nothing.
use mathlib.Core.Path.{◌≡◌, refl, sym, ap, ◌∙◌, subst}
use mathlib.Core.List.{List}
use mathlib.Core.Logic.{◌↔◌}
use Prim.Native.Nat.{ℕ}
use lib.Dec.{lit<}
use Rattle.terms.specs.Term.{Term, Value, Closed, Below}
use Rattle.terms.specs.Table.{encode}
use Rattle.terms.specs.Sweep.{sweep, fill}
use Rattle.terms.specs.Assignment.{Assignment, valuation, Entries, Complete, Match}
use Rattle.terms.specs.Refusal.{Filled, Matches}
use Rattle.terms.proofs.Occurs.{ChosenValues, chosen_values}
use Rattle.terms.proofs.Refusal.{filled_one}
use Rattle.terms.proofs.Sweep.{fill_same}
use Rattle.terms.proofs.Table.{encode_one}
use Rattle.matching.proofs.Partial.{restrict, entries_restrict, complete_restrict, fill_restrict}

module _ (n : ℕ) (p l s : List ℕ) (u : Term) (f : Filled p l s u) (b : Below n f.term) where
  -- a stored value for each variable that occurs
  abbrev Kept : ℕ → Term → Type 0
  Kept i v = (v ≡ f.φ i) × Value v

  chosen : ChosenValues Kept f.term
  chosen = chosen_values Kept f.term (λ i o. (f.φ i, (refl, (f.stored i o).value)))

  -- the assignment that the line and the value table are
  pub lent : Assignment
  lent = restrict n chosen.φ

  pub entries_lent : Entries n lent
  unfolding lent
  entries_lent = entries_restrict n chosen.φ (chosen.each Value (tt, tt, lit< tt) (λ i v k. k.1))

  pub complete_lent : Complete f.term lent
  unfolding lent
  complete_lent = complete_restrict n f.term b chosen.φ

  pub fill_lent : fill (valuation lent) f.term ≡ u
  unfolding lent
  fill_lent =
      fill_restrict n f.term b chosen.φ ∙ fill_same chosen.φ f.φ f.term (λ i o. (chosen.holds i o).0) ∙ sym f.is

  -- check's yes is a match
  pub matches_match : (t : Term) → Closed 0 t → Matches p l s (encode t) ↔ Match n f.term t lent
  matches_match t c = (to, from)
    where
      to : Matches p l s (encode t) → Match n f.term t lent
      to m = (
        entries_lent,
        complete_lent,
        ap sweep (fill_lent ∙ filled_one p l s u m.0 f m.1) ∙ sym (encode_one t (sweep m.0) m.2.0),
      )

      from : Match n f.term t lent → Matches p l s (encode t)
      from m =
          let e : sweep u ≡ t = sym (ap sweep fill_lent) ∙ m.2 in
          (u, f, (ap encode (sym e), subst (Closed 0) (sym e) c))
