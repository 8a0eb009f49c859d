-- A found line stored: written exactly if it fits both tables. By the two tests of `fits`, and entry by entry. Assumes nothing.
use mathlib.Core.Path.{◌≡◌, refl, sym, ap, ◌∙◌}
use mathlib.Core.Bool.{true, false}
use mathlib.Core.Option.{none, some}
use mathlib.Core.List.{List, [], ◌∷◌}
use Prim.Native.Nat.{ℕ, ◌+◌, ◌*◌, ◌≤◌, ◌<◌}
use native.Mathlib.Omega.{arith}
use borrow.Author.Tests.{le-leb, lt-leb}
use lib.Dec.{leb}
use lib.ListN.{length}
use Rattle.terms.specs.Figures.{variables, value_records}
use Rattle.terms.specs.Listing.{Line}
use Rattle.terms.specs.Layout.{line_value_records}
use Rattle.assignments.specs.declared.Entry.{Entry}
use Rattle.assignments.specs.declared.Entry.TheVariants.{Open, Assigned}
use Rattle.listing.specs.declared.Tally.{Tally}
use Rattle.assignments.specs.Held.{Holds}
use Rattle.listing.specs.Outcome.{Outcome, outcome, line_written, counted, store, Storable, LineStored}
use Rattle.listing.specs.Writers.{EntryStands, LineStands, entries_records, WriteLine, WroteLine}
use Rattle.listing.proofs.Writers.{total_line}

-- what the work area holds, without the bounds of its values
pub holds_stands : (s : List ℕ) (top : ℕ) (a : List Entry) (l : Line) → Holds s top a l → LineStands s a l
unfolding LineStands EntryStands
holds_stands s top [] [] h = tt
holds_stands s top [] (o ∷ l) h = absurd h
holds_stands s top (e ∷ a) [] h = absurd h
holds_stands s top (Open ∷ a) (none ∷ l) h = (tt, holds_stands s top a l h.1)
holds_stands s top (Open ∷ a) (some v ∷ l) h = absurd h.0
holds_stands s top (Assigned x ∷ a) (none ∷ l) h = absurd h.0
holds_stands s top (Assigned x ∷ a) (some v ∷ l) h = (record { part = h.0.part; count = h.0.count }, holds_stands s top a l h.1)

-- "value 1 to 160", one for each entry
pub holds_few : (s : List ℕ) (top : ℕ) (a : List Entry) (l : Line) → Holds s top a l → line_value_records l ≤ value_records * length a
holds_few s top [] [] h = omega arith
holds_few s top [] (o ∷ l) h = absurd h
holds_few s top (e ∷ a) [] h = absurd h
holds_few s top (Open ∷ a) (none ∷ l) h = omega (arith, holds_few s top a l h.1)
holds_few s top (Open ∷ a) (some v ∷ l) h = absurd h.0
holds_few s top (Assigned x ∷ a) (none ∷ l) h = absurd h.0
holds_few s top (Assigned x ∷ a) (some v ∷ l) h = omega (arith, h.0.most, holds_few s top a l h.1)

pub total_few : (s : List ℕ) (a : List Entry) (lines values : List ℕ) (done : Tally) → Storable s a lines values done
    → entries_records a ≤ value_records * length a
total_few s a lines values done x =
    omega (arith, total_line s a x.line (holds_stands s x.top a x.line x.holds), holds_few s x.top a x.line x.holds)

-- a line that doesn't fit, and one that does
module _ (o : Outcome) (l : Line) where
  pub store_lines_full : length o.lines < 4 * variables * (o.count + 1) → store o l ≡ counted o l
  unfolding store
  store_lines_full h = simp (lt-leb _ _ h)

  pub store_values_full : length o.values < 4 * (o.records + line_value_records l) → store o l ≡ counted o l
  unfolding store
  store_values_full h = go (leb (4 * variables * (o.count + 1)) (length o.lines)) refl
    where
      go : (b : _) → leb (4 * variables * (o.count + 1)) (length o.lines) ≡ b → store o l ≡ counted o l
      go true e = simp (e, lt-leb _ _ h)
      go false e = simp e

  pub store_fits : 4 * variables * (o.count + 1) ≤ length o.lines → 4 * (o.records + line_value_records l) ≤ length o.values
      → store o l ≡ line_written o l
  unfolding store
  store_fits h k = simp (le-leb _ _ h, le-leb _ _ k)

-- the three ways that a found line goes
module _ (s : List ℕ) (a : List Entry) (lines values : List ℕ) (done : Tally) (n : ℕ) (e : n ≡ done.records + entries_records a) where
  records_are : (top : ℕ) (l : Line) → Holds s top a l → n ≡ done.records + line_value_records l
  records_are top l h = e ∙ ap (done.records +◌) (total_line s a l (holds_stands s top a l h))

  pub found_lines_full : length lines < 4 * variables * (done.lines + 1)
      → LineStored s a lines values done lines values (record { lines = done.lines + 1; records = n })
  found_lines_full h = record {
    stored = λ top l x. ap (λ (k : ℕ). outcome lines values (record { lines = done.lines + 1; records = k })) (records_are top l x)
        ∙ sym (store_lines_full (outcome lines values done) l h);
  }

  pub found_values_full : length values < 4 * n
      → LineStored s a lines values done lines values (record { lines = done.lines + 1; records = n })
  found_values_full h = record {
    stored = λ top l x.
        let k = records_are top l x in
        ap (λ (k : ℕ). outcome lines values (record { lines = done.lines + 1; records = k })) k
        ∙ sym (store_values_full (outcome lines values done) l (omega arith));
  }

  pub found_written :
      (p w : List ℕ) (r : ℕ) → 4 * variables * (done.lines + 1) ≤ length lines → 4 * n ≤ length values
      → WroteLine s a lines (4 * variables * done.lines) values done.records p w r
      → LineStored s a lines values done p w (record { lines = done.lines + 1; records = r })
  found_written p w r h k y = record {
    stored = λ top l x.
        let m = holds_stands s top a l x in
        let q = records_are top l x in
        let b = y.bytes l m in
        let d = y.copied l m in
        let f = y.records l m in
        (λ i. record { lines = b i; values = d i; count = done.lines + 1; records = f i })
        ∙ sym (store_fits (outcome lines values done) l h (omega arith));
  }

  pub line_of : Storable s a lines values done → 4 * variables * (done.lines + 1) ≤ length lines → 4 * n ≤ length values
      → length a ≡ variables → WriteLine s a 0 lines (4 * variables * done.lines) values done.records
  line_of x h k m = record {
    line = x.line;
    stands = holds_stands s x.top a x.line x.holds;
    upto = omega arith;
    room = omega arith;
    values_room = omega (arith, records_are x.top x.line x.holds);
    values_most = x.values_most;
    entries = m;
  }
