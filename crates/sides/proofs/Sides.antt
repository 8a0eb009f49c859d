-- A side that is filled and swept: what its swept form is, that it is the recipe or not, and what sweeping it until normal comes to. A
-- table is filled in one way only, so what holds of one filled term holds of each. Assumes nothing.
use mathlib.Core.Path.{◌≡◌, refl, sym, ap, ◌∙◌, subst}
use mathlib.Core.Bool.{Bool, true, false}
use mathlib.Core.List.{List}
use mathlib.Core.Logic.{inl}
use Prim.Native.Nat.{ℕ, ◌*◌, ◌-◌, ◌≤◌}
use native.Mathlib.Omega.{arith}
use lib.ListN.{length, take, drop}
use lib.Seq.{length-sets}
use Rattle.std.specs.Option.{ok_or}
use Rattle.std.specs.declared.result.Result.{Result}
use Rattle.std.specs.declared.result.Result.TheVariants.{Ok, Err}
use Rattle.refusals.specs.declared.Refusal.{Refusal}
use Rattle.normalizing.specs.declared.NormalFault.{NormalFault}
use Rattle.std.specs.declared.option.Option.{Option}
use Rattle.std.specs.declared.option.Option.TheVariants.{Some, None}
use Rattle.terms.specs.Figures.{variables, swept_records, most_sweeps}
use Rattle.terms.specs.Term.{Term, size, Closed, Below}
use Rattle.terms.specs.Table.{encode, IsTable}
use Rattle.terms.specs.Sweep.{sweep, largest}
use Rattle.terms.specs.Refusal.{Refused, Passed, Filled, Matches, swept_form_rows}
use Rattle.terms.proofs.Occurs.{occurs_below}
use Rattle.terms.proofs.Refusal.{filled_one}
use Rattle.terms.proofs.Table.{encode_one}
use Rattle.terms.proofs.Variables.{below_fill, closed_fill, below_sweep, closed_sweep_below}
use Rattle.terms.proofs.Normalization.{sweep_long_first}
use Rattle.records.specs.Checks.{Recipe}
use Rattle.assignments.specs.declared.Entry.{Entry}
use Rattle.assignments.specs.Entries.{Read, Gives}
use Rattle.assignments.proofs.Entries.{stored_given}
use Rattle.copying.specs.Equality.{Same}
use Rattle.sweeping.specs.Swept.{Fillable, WritesSwept, WrittenForm, FormSwept}
use Rattle.sweeping.proofs.Sweeps.{swept_table, swept_long}
use Rattle.normalizing.specs.Normalized.{Begins, Normalizable, Normalized}
use Rattle.normalizing.proofs.Sweeps.{normalized_more}
use Rattle.refusals.specs.Judged.{FilledTables}
use Rattle.sides.specs.Sides.{SweptSide, Matched, NormalSide}

-- a form that is missing, as a refusal
pub or_refusal : (r : Option ℕ) (e d : Refusal) → Err e ≡ ok_or r d → (r ≡ None) × (e ≡ d)
or_refusal (Some n) e d q = grind arith
or_refusal None e d q = (refl, grind arith)

-- the entries of the line give the values that fill the pattern
module _ (p l s : List ℕ) (a : List Entry) (r : Read l a variables) (x : FilledTables p l s) where
  pub gives : (t : Term) (f : Filled p l s t) → Gives s a f.φ f.term
  gives t f i o =
      let e : f.term ≡ x.checked.tree = encode_one f.term x.checked.tree (sym f.table.0 ∙ x.checked.table.0) in
      stored_given l s a r i (occurs_below variables i x.checked.tree x.checked.below (rw e at o)) (f.φ i) (f.stored i o)

  pub fillable : Fillable p s a
  fillable =
      let f = x.filled in
      let e : f.term ≡ x.checked.tree = encode_one f.term x.checked.tree (sym f.table.0 ∙ x.checked.table.0) in
      record { tree = f.term; table = f.table; few = omega (arith, ap size e, x.checked.most); φ = f.φ; gives = gives x.term f }

  -- the sweep of the pattern is that of each filled term
  pub swept_side_of : (out : List ℕ) (q : Option ℕ) (after : List ℕ) → WritesSwept p s a out q after → SweptSide p l s out q after
  swept_side_of out q after w t f =
      subst (λ (u : Term). FormSwept u out q after) (sym f.is) (w f.term f.φ f.table.0 (gives t f))

-- the swept form of a side, in a table of 256 records
pub record SideForm (p l s : List ℕ) (n : ℕ) (after : List ℕ) : Type 0 where
  pub term : Term
  pub filled : Filled p l s term
  pub records : n ≡ size (sweep term)
  pub all : largest term ≤ swept_records
  pub few : n ≤ swept_records
  pub within : n * 4 ≤ length after
  pub bytes : take (n * 4 - 0) (drop 0 after) ≡ encode (sweep term)

module _ (p l s out : List ℕ) (r : Option ℕ) (after : List ℕ) (x : FilledTables p l s) (w : SweptSide p l s out r after) where
  pub swept_as : (n : ℕ) → length out ≡ 4 * swept_records → r ≡ Some n → SideForm p l s n after
  swept_as n h e =
      let q = swept_table x.term out after r n (w x.term x.filled) e h in
      record {
        term = x.term;
        filled = x.filled;
        records = q.records;
        all = q.all;
        few = q.few;
        within = q.within;
        bytes = q.bytes;
      }

  pub too_long : r ≡ None → Refused (swept_form_rows p l s) 12
  too_long e = inl ((x.term, x.filled, swept_long x.term out after r (w x.term x.filled) e), refl)

-- a side whose swept forms fit
module _ (p l s : List ℕ) (n : ℕ) (after : List ℕ) (x : SideForm p l s n after) where
  pub swept_passed : Passed (swept_form_rows p l s)
  swept_passed = (λ c. omega (arith, x.all, ap largest (filled_one p l s c.0 x.term c.1 x.filled), c.2), tt)

  pub matches : (r : List ℕ) → Recipe r → take (n * 4 - 0) (drop 0 after) ≡ r → Matches p l s r
  matches r y e =
      let b : r ≡ encode (sweep x.term) = sym e ∙ x.bytes in
      let u : y.tree ≡ sweep x.term = encode_one y.tree (sweep x.term) (sym y.table.0 ∙ b) in
      (x.term, x.filled, subst (IsTable r) u y.table)

  pub matches_not : (r : List ℕ) → ¬ (take (n * 4 - 0) (drop 0 after) ≡ r) → ¬ Matches p l s r
  matches_not r e m =
      e (x.bytes ∙ ap (λ t. encode (sweep t)) (sym (filled_one p l s m.0 x.term m.1 x.filled)) ∙ sym m.2.0)

-- whether it is the recipe
module _ (p l s out : List ℕ) (r : Option ℕ) (after : List ℕ) (x : FilledTables p l s) (w : SweptSide p l s out r after) where
  pub matched_long : (t : List ℕ) → r ≡ None → Matched p l s t (Err Refusal.SweptForm)
  unfolding Matched
  matched_long t e = too_long p l s out r after x w e

module _ (p l s : List ℕ) (n : ℕ) (after : List ℕ) (x : SideForm p l s n after) where
  pub matched_says : (t : List ℕ) → Recipe t → (c : Bool) → Same (take (n * 4 - 0) (drop 0 after)) t c → Matched p l s t (Ok c)
  unfolding Matched Same
  matched_says t y true q = (swept_passed p l s n after x, matches p l s n after x t y q)
  matched_says t y false q = (swept_passed p l s n after x, matches_not p l s n after x t q)

-- a filled side is a closed term without variables
pub filled_closed_below : (p l s : List ℕ) (t : Term) → Filled p l s t → Closed 0 t × Below 0 t
filled_closed_below p l s t f =
    rw f.is (
      closed_fill f.φ 0 f.term (λ i o. (f.stored i o).value.0) f.table.1,
      below_fill f.φ f.term (λ i o. (f.stored i o).value.2),
    )

-- sweeping it until normal
module _ (p l s out : List ℕ) (r : Option ℕ) (after : List ℕ) (x : FilledTables p l s) (w : SweptSide p l s out r after) where
  pub normal_long : (q : List ℕ) → r ≡ None → NormalSide p l s (Err NormalFault.TooLong) q
  unfolding Normalized
  normal_long q e t f =
      sweep_long_first 1 t (omega arith) (λ h. absurd (omega arith)) most_sweeps (omega arith) (swept_long t out after r (w t f) e)

  module _ (n : ℕ) (e : r ≡ Some n) (h : length after ≡ 4 * swept_records) where
    same_room : length out ≡ 4 * swept_records
    unfolding FormSwept WrittenForm
    same_room =
        let z : FormSwept x.term out (Some n) after =
        subst (λ (q : Option ℕ). FormSwept x.term out q after) e (w x.term x.filled) in
        omega (arith, h, ap length z.1.2, length-sets out 0 (encode (sweep x.term)))

    first_form : (y : SideForm p l s n after) → Begins after n (sweep y.term)
    first_form y = record { records = y.records; few = omega (arith, y.few); within = y.within; bytes = y.bytes }

    pub normal_start : Normalizable after n
    normal_start =
        let y = swept_as p l s out r after x w n same_room e in
        let b = filled_closed_below p l s y.term y.filled in
        record {
          tree = sweep y.term;
          begins = first_form y;
          room = omega (arith, h);
          closed = closed_sweep_below 0 y.term b.1 b.0;
          below = below_sweep 0 y.term b.1;
        }

    pub normal_rest : (a : Result ℕ NormalFault) (q : List ℕ) → ((t : Term) → Begins after n t → Normalized (most_sweeps - 1) 0 t a q)
        → NormalSide p l s a q
    normal_rest a q z t f =
        let y = swept_as p l s out r after x w n same_room e in
        subst (λ (u : Term). Normalized most_sweeps 1 u a q) (filled_one p l s y.term t y.filled f)
        (normalized_more 1 y.term (omega arith) (λ k. absurd (omega arith)) y.all (most_sweeps - 1) a q
        (z (sweep y.term) (first_form y)))
