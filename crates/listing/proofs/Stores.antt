-- Lines stored one after another: their number and their records, and the tables that they leave where all fit and where none does. By
-- induction on the lines, from what one line more leaves. Assumes nothing.
use mathlib.Core.Path.{◌≡◌, refl, sym, ap, ◌∙◌}
use mathlib.Core.Bool.{Bool, true, false, cond}
use mathlib.Core.List.{List, [], ◌∷◌, ◌++◌}
use mathlib.Core.Logic.{inl, inr}
use Prim.Native.Nat.{ℕ, ◌+◌, ◌*◌, ◌≤◌}
use native.Mathlib.Omega.{arith}
use lib.ListN.{length, drop, length-append}
use lib.Seq.{sets, sets-eq, length-sets, drop_at}
use Rattle.terms.specs.Figures.{variables}
use Rattle.terms.specs.Listing.{In, Line}
use Rattle.terms.specs.Layout.{line_value_records, line_bytes, line_values, line_table, values_records, value_table}
use Rattle.assignments.specs.declared.Entry.{Entry}
use Rattle.copying.proofs.Stores.{sets_then}
use Rattle.listing.specs.declared.Tally.{Tally}
use Rattle.listing.specs.Outcome.{line_records, Outcome, outcome, fits, line_written, counted, store, stores, Storable, LineStored}
use Rattle.listing.specs.Outcome.{none_found, Tables}
use Rattle.listing.proofs.Writers.{line_bytes_length, line_values_length}
use Rattle.listing.proofs.Storing.{holds_few, store_fits}

pub stores_append : (o : Outcome) (ls ms : List Line) → stores o (ls ++ ms) ≡ stores (stores o ls) ms
stores_append o [] ms = refl
stores_append o (l ∷ ls) ms = stores_append (store o l) ls ms

-- how many lines, and how many records; the tables keep their lengths
pub store_count : (o : Outcome) (l : Line) → (store o l).count ≡ o.count + 1
unfolding store
store_count o l = go (fits o l)
  where
    go : (b : Bool) → (cond b (line_written o l) (counted o l)).count ≡ o.count + 1
    go true = refl
    go false = refl

pub store_records : (o : Outcome) (l : Line) → (store o l).records ≡ o.records + line_value_records l
unfolding store
store_records o l = go (fits o l)
  where
    go : (b : Bool) → (cond b (line_written o l) (counted o l)).records ≡ o.records + line_value_records l
    go true = refl
    go false = refl

pub store_lengths : (o : Outcome) (l : Line)
    → (length (store o l).lines ≡ length o.lines) × (length (store o l).values ≡ length o.values)
unfolding store
store_lengths o l = go (fits o l)
  where
    go : (b : Bool) → (length (cond b (line_written o l) (counted o l)).lines ≡ length o.lines)
        × (length (cond b (line_written o l) (counted o l)).values ≡ length o.values)
    go true = (
      length-sets o.lines (4 * variables * o.count) (line_bytes o.records l),
      length-sets o.values (4 * o.records) (line_values l),
    )
    go false = (refl, refl)

pub stores_count : (o : Outcome) (ls : List Line) → (stores o ls).count ≡ o.count + length ls
stores_count o [] = omega arith
stores_count o (l ∷ ls) = omega (arith, stores_count (store o l) ls, store_count o l)

pub stores_records : (o : Outcome) (ls : List Line) → (stores o ls).records ≡ o.records + values_records ls
stores_records o [] = omega arith
stores_records o (l ∷ ls) = omega (arith, stores_records (store o l) ls, store_records o l)

pub stores_lengths : (o : Outcome) (ls : List Line)
    → (length (stores o ls).lines ≡ length o.lines) × (length (stores o ls).values ≡ length o.values)
stores_lengths o [] = (refl, refl)
stores_lengths o (l ∷ ls) =
    let h = store_lengths o l in
    let k = stores_lengths (store o l) ls in
    (k.0 ∙ h.0, k.1 ∙ h.1)

-- the lengths of the tables of lines that have an entry for each variable
abbrev pub Entire : List Line → Type 0
Entire ls = (l : Line) → In l ls → length l ≡ variables

pub line_table_length : (k : ℕ) (ls : List Line) → Entire ls → length (line_table k ls) ≡ 4 * variables * length ls
line_table_length k [] h = refl
line_table_length k (l ∷ ls) h =
    omega (
      arith,
      length-append (line_bytes k l) (line_table (k + line_value_records l) ls),
      line_bytes_length k l,
      h l (inl refl),
      line_table_length (k + line_value_records l) ls (λ m p. h m (inr p)),
    )

pub value_table_length : (ls : List Line) → length (value_table ls) ≡ 4 * values_records ls
value_table_length [] = refl
value_table_length (l ∷ ls) = omega (arith, length-append (line_values l) (value_table ls), line_values_length l, value_table_length ls)

-- lines that all fit
pub record AllFit (o : Outcome) (ls : List Line) : Type 0 where
  pub lines : (stores o ls).lines ≡ sets o.lines (4 * variables * o.count) (line_table o.records ls)
  pub values : (stores o ls).values ≡ sets o.values (4 * o.records) (value_table ls)

pub stores_written :
    (ls : List Line) (o : Outcome) → Entire ls → 4 * variables * (o.count + length ls) ≤ length o.lines
    → 4 * (o.records + values_records ls) ≤ length o.values → AllFit o ls
stores_written [] o e h k = record { lines = refl; values = refl }
stores_written (l ∷ ls) o e h k =
    let s : store o l ≡ line_written o l = store_fits o l (omega arith) (omega arith) in
    let n = length-sets o.lines (4 * variables * o.count) (line_bytes o.records l) in
    let m = length-sets o.values (4 * o.records) (line_values l) in
    let w = stores_written ls (line_written o l) (λ x p. e x (inr p)) (omega arith) (omega arith) in
    let i : 4 * variables * (o.count + 1) ≡ 4 * variables * o.count + length (line_bytes o.records l) =
    omega (arith, line_bytes_length o.records l, e l (inl refl)) in
    let j : 4 * (o.records + line_value_records l) ≡ 4 * o.records + length (line_values l) = omega (arith, line_values_length l) in
    record {
      lines = ap (λ (x : Outcome). (stores x ls).lines) s ∙ w.lines
          ∙ ap (λ (q : ℕ). sets (sets o.lines (4 * variables * o.count) (line_bytes o.records l)) q
          (line_table (o.records + line_value_records l) ls)) i
          ∙ sets_then (line_bytes o.records l) (line_table (o.records + line_value_records l) ls) o.lines (4 * variables * o.count);
      values = ap (λ (x : Outcome). (stores x ls).values) s ∙ w.values
          ∙ ap (λ (q : ℕ). sets (sets o.values (4 * o.records) (line_values l)) q (value_table ls)) j
          ∙ sets_then (line_values l) (value_table ls) o.values (4 * o.records);
    }

-- the tables after a search that wrote every line
pub record Begun (lines values : List ℕ) (ls : List Line) : Type 0 where
  pub lines_begin : (stores (outcome lines values none_found) ls).lines ≡ line_table 0 ls ++ drop (4 * variables * length ls) lines
  pub values_begin : (stores (outcome lines values none_found) ls).values ≡ value_table ls ++ drop (4 * values_records ls) values

pub stores_tables : (lines values : List ℕ) (ls : List Line) → Entire ls → 4 * variables * length ls ≤ length lines
    → 4 * values_records ls ≤ length values → Begun lines values ls
stores_tables lines values ls e h k =
    let w = stores_written ls (outcome lines values none_found) e (omega arith) (omega arith) in
    let n : 0 + length (line_table 0 ls) ≡ 4 * variables * length ls = omega (arith, line_table_length 0 ls e) in
    let m : 0 + length (value_table ls) ≡ 4 * values_records ls = omega (arith, value_table_length ls) in
    record {
      lines_begin = w.lines ∙ sets-eq (line_table 0 ls) lines 0 (omega arith) ∙ ap (λ (i : ℕ). line_table 0 ls ++ drop i lines) n;
      values_begin = w.values ∙ sets-eq (value_table ls) values 0 (omega arith) ∙ ap (λ (i : ℕ). value_table ls ++ drop i values) m;
    }

pub stores_begin :
    (lines values : List ℕ) (ls : List Line) → Entire ls → 4 * variables * length ls ≤ length lines → 4 * values_records ls ≤ length values
    → Tables (stores (outcome lines values none_found) ls).lines (stores (outcome lines values none_found) ls).values ls
stores_begin lines values ls e h k =
    let w = stores_tables lines values ls e h k in
    record {
      entries = e;
      lines_begin = begins (line_table 0 ls) _ _ (4 * variables * length ls) (line_table_length 0 ls e) w.lines_begin;
      values_begin = begins (value_table ls) _ _ (4 * values_records ls) (value_table_length ls) w.values_begin;
    }
  where
    begins : (xs q p : List ℕ) (n : ℕ) → length xs ≡ n → p ≡ xs ++ q → p ≡ xs ++ drop n p
    begins xs q p n i b = b ∙ ap (xs ++◌) (sym (ap (drop n) b ∙ drop_at xs q n i))

-- a tally after a found line: one line more, and still few enough records
pub found_tally :
    (s : List ℕ) (a : List Entry) (lines values : List ℕ) (done : Tally) (lines_after values_after : List ℕ) (r : Tally)
    → Storable s a lines values done → length a ≡ variables
    → LineStored s a lines values done lines_after values_after r → (r.lines ≡ done.lines + 1) × (r.records ≤ line_records * r.lines)
found_tally s a lines values done lines_after values_after r x n f =
    let e = f.stored x.top x.line x.holds in
    let c = ap (λ (o : Outcome). o.count) e ∙ store_count (outcome lines values done) x.line in
    let k = ap (λ (o : Outcome). o.records) e ∙ store_records (outcome lines values done) x.line in
    (c, omega (arith, c, k, x.records_few, holds_few s x.top a x.line x.holds))
