-- A form that stands for a part is the first normal form of the right side, filled by line 0 of the rule's listing with the part: what
-- rewrite writes where it is lent that line, with `k0` for its open variables. It is closed and without variables, since the line's values
-- are. Assumes nothing.
--   FormMade p q t u    how the form u comes of the rule with the tables p and q, and of the part t
use mathlib.Core.Path.{◌≡◌, refl, subst}
use mathlib.Core.List.{List}
use mathlib.Core.Logic.{inl, inr}
use Prim.Native.Nat.{ℕ, ◌<◌}
use native.Mathlib.Omega.{arith}
use Rattle.terms.specs.Figures.{variables, most_sweeps}
use Rattle.terms.specs.Term.{Term, Closed, Below}
use Rattle.terms.specs.Sweep.{fill}
use Rattle.terms.specs.Normalization.{FirstNormal}
use Rattle.terms.specs.Layout.{Stored}
use Rattle.terms.specs.Refusal.{Passed, Filled, listing_rows}
use Rattle.terms.proofs.Occurs.{occurs_below}
use Rattle.terms.proofs.Refusal.{filled_one}
use Rattle.terms.proofs.Variables.{below_fill, closed_fill}
use Rattle.terms.proofs.Normalization.{first_normal_one, first_normal_closed_below}
use Rattle.rewriting.specs.Operations.{WrittenNormal}
use Rattle.attempts.specs.Pairs.{full_lines, full_records, ListedPair, line_zero, Usable, filling, sides_rows, form, Tried}
use Rattle.attempts.proofs.Matches.{line_values_lem}

pub record FormMade (p q : List ℕ) (t u : Term) : Type 0 where
  pub listed : ListedPair p q t
  pub room : Passed (listing_rows full_lines full_records listed.lines)
  pub usable : Usable listed.right listed.lines
  pub fits : Passed (sides_rows listed.left listed.right (filling (line_zero listed.lines)))
  pub first : FirstNormal most_sweeps 1 (fill (filling (line_zero listed.lines)) listed.right) u

module _ (p q : List ℕ) (t u : Term) where
  pub form_made : Tried p q t (form u) → FormMade p q t u
  form_made (x, inl (k, r, e)) = absurd (let z : ◌≡◌ {A = ℕ} 0 1 = cc in omega arith)
  form_made (x, inr (room, inl (n, e))) = absurd (let z : ◌≡◌ {A = ℕ} 0 1 = cc in omega arith)
  form_made (x, inr (room, inr (usable, inl (k, r, e)))) = absurd (let z : ◌≡◌ {A = ℕ} 0 1 = cc in omega arith)
  form_made (x, inr (room, inr (usable, inr (fits, (v, first, e))))) =
      let d : v ≡ u = cc in
      record {
        listed = x;
        room = room;
        usable = usable;
        fits = fits;
        first = subst (FirstNormal most_sweeps 1 (fill (filling (line_zero x.lines)) x.right)) d first;
      }

  pub form_closed_below : FormMade p q t u → Closed 0 u × Below 0 u
  form_closed_below x =
      let y = x.listed in
      let φ = filling (line_zero y.lines) in
      let v = line_values_lem p q t y x.usable.0 in
      first_normal_closed_below most_sweeps 1 (fill φ y.right) u x.first
      (closed_fill φ 0 y.right (λ i o. (v i).0) y.right_table.1) (below_fill φ y.right (λ i o. (v i).2))

  -- "what rewrite gives"
  pub form_rewritten : (x : FormMade p q t u) → Below variables x.listed.right → (l s : List ℕ)
      → ((i : ℕ) → i < variables → Stored l s i (filling (line_zero x.listed.lines) i)) → (o : List ℕ) (n : ℕ) (after : List ℕ)
      → (w : WrittenNormal q l s o n after) → w.form ≡ u
  form_rewritten x b l s g o n after w =
      let y = x.listed in
      let φ = filling (line_zero y.lines) in
      let f : Filled q l s (fill φ y.right) = record {
        term = y.right;
        table = y.right_table;
        φ = φ;
        stored = λ i h. g i (occurs_below variables i y.right b h);
        is = refl;
      } in
      let e = filled_one q l s w.term (fill φ y.right) w.filled f in
      first_normal_one most_sweeps 1 (fill φ y.right) w.form u
      (subst (λ (v : Term). FirstNormal most_sweeps 1 v w.form) e w.first) x.first
