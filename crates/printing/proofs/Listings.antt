-- The tables of a listing can be printed. Each line stands in the table of lines with its values behind those of the lines before it, so
-- each assigned entry has its records in the value table. Assumes nothing.
use mathlib.Core.Path.{◌≡◌, refl, sym, ap, ◌∙◌, subst}
use mathlib.Core.Logic.{inl, inr}
use mathlib.Core.List.{List, [], ◌∷◌, ◌++◌, append_assoc, append-nil}
use Prim.Native.Nat.{ℕ, zero, suc, ◌+◌, ◌*◌, ◌≤◌, ◌<◌}
use native.Mathlib.Numerals.{add-one}
use native.Mathlib.Omega.{arith}
use lib.ListN.{length, take, drop, length-append}
use lib.Seq.{take_at, drop_at, drop-drop}
use Rattle.terms.specs.Figures.{variables, table_bytes}
use Rattle.terms.specs.Listing.{Line}
use Rattle.terms.specs.Layout.{line_value_records, values_records, line_bytes, line_values, line_table, value_table}
use Rattle.arranging.specs.Order.{Standing}
use Rattle.listing.specs.Outcome.{Laid}
use Rattle.arranging.proofs.Comparing.{laid_standing, next_standing, value_within}
use Rattle.listing.proofs.Stores.{Entire, line_table_length, value_table_length}
use Rattle.listing.proofs.Writers.{line_bytes_length, line_values_length}
use Rattle.printing.specs.Text.{SpansWithin, Printable}

-- the line i of a table of lines
pub record LineStandsAt (X D : List ℕ) : Type 0 where
  pub line : Line
  pub laid : Laid X D line

line_at : (X behind rest : List ℕ) (k i : ℕ) (ls : List Line) → Entire ls → i < length ls → drop (4 * k) X ≡ value_table ls ++ behind
    → 4 * (k + values_records ls) ≤ length X → LineStandsAt X (drop ((4 * variables) * i) (line_table k ls ++ rest))
line_at X behind rest k i [] e h d w = absurd (omega (arith, h))
line_at X behind rest k zero (l ∷ ls) e h d w = record {
  line = l;
  laid = record {
    first = k;
    rest = line_table (k + line_value_records l) ls ++ rest;
    behind = value_table ls ++ behind;
    line = append_assoc (line_bytes k l) (line_table (k + line_value_records l) ls) rest;
    stand = d ∙ append_assoc (line_values l) (value_table ls) behind;
    within = omega (arith, w);
    entries = e l (inl refl);
  };
}
line_at X behind rest k (suc i) (l ∷ ls) e h d w =
    let t = line_table (k + line_value_records l) ls ++ rest in
    let p : (4 * variables) * suc i ≡ 4 * variables + (4 * variables) * i = omega arith in
    let q : 4 * (k + line_value_records l) ≡ 4 * k + 4 * line_value_records l = omega arith in
    let n : length (line_bytes k l) ≡ 4 * variables = line_bytes_length k l ∙ ap (λ (j : ℕ). 4 * j) (e l (inl refl)) in
    let s : drop ((4 * variables) * suc i) (line_table k (l ∷ ls) ++ rest) ≡ drop ((4 * variables) * i) t =
    ap (λ (j : ℕ). drop j (line_table k (l ∷ ls) ++ rest)) p
    ∙ sym (drop-drop ((4 * variables) * i) (4 * variables) (line_table k (l ∷ ls) ++ rest))
    ∙ ap (drop ((4 * variables) * i))
    (ap (drop (4 * variables)) (append_assoc (line_bytes k l) (line_table (k + line_value_records l) ls) rest)
    ∙ drop_at (line_bytes k l) t (4 * variables) n) in
    let v : drop (4 * (k + line_value_records l)) X ≡ value_table ls ++ behind =
    ap (λ (j : ℕ). drop j X) q ∙ sym (drop-drop (4 * line_value_records l) (4 * k) X)
    ∙ ap (drop (4 * line_value_records l)) (d ∙ append_assoc (line_values l) (value_table ls) behind)
    ∙ drop_at (line_values l) (value_table ls ++ behind) (4 * line_value_records l) (line_values_length l) in
    subst (LineStandsAt X) (sym s)
    (line_at X behind rest (k + line_value_records l) i ls (λ m z. e m (inr z)) (omega (arith, h)) v (omega (arith, w)))

-- its entries
module _ (X D : List ℕ) (x : LineStandsAt X D) where
  laid_bytes : take (4 * variables) D ≡ line_bytes x.laid.first x.line
  laid_bytes =
      ap (take (4 * variables)) x.laid.line
      ∙ take_at (line_bytes x.laid.first x.line) x.laid.rest (4 * variables)
      (line_bytes_length x.laid.first x.line ∙ ap (λ (j : ℕ). 4 * j) x.laid.entries)

  laid_length : length (take (4 * variables) D) ≡ 4 * variables
  laid_length = ap length laid_bytes ∙ line_bytes_length x.laid.first x.line ∙ ap (λ (j : ℕ). 4 * j) x.laid.entries

  standing : Standing (take (4 * variables) D) 0 X x.line
  standing =
      laid_standing X (take (4 * variables) D) x.line
      (record {
        first = x.laid.first;
        rest = [];
        behind = x.laid.behind;
        line = laid_bytes ∙ sym (append-nil (line_bytes x.laid.first x.line));
        stand = x.laid.stand;
        within = x.laid.within;
        entries = x.laid.entries;
      })

  record From (v : ℕ) : Type 0 where
    pub entries : Line
    pub stand : Standing (take (4 * variables) D) v X entries

  next_from : (v : ℕ) (m : Line) → v < variables → Standing (take (4 * variables) D) v X m → From (suc v)
  next_from v [] h s = absurd (omega (arith, s.entries))
  next_from v (o ∷ m) h s = record {
    entries = m;
    stand = subst (λ (j : ℕ). Standing (take (4 * variables) D) j X m) (add-one v) (next_standing (take (4 * variables) D) v X o m s);
  }

  entries_from : (v : ℕ) → v < variables → From v
  entries_from zero h = record { entries = x.line; stand = standing }
  entries_from (suc v) h = let y = entries_from v (omega (arith, h)) in next_from v y.entries (omega (arith, h)) y.stand

  line_within : length X ≤ table_bytes → SpansWithin (take (4 * variables) D) X
  line_within f = record {
    whole = laid_length;
    few = f;
    each = λ v y h e. let z = entries_from v h in value_within (take (4 * variables) D) v X z.entries y h z.stand e;
  }

pub printable :
    (n : ℕ) (L X a b : List ℕ) (ls : List Line) → Entire ls → n ≡ length ls → L ≡ line_table 0 ls ++ a → X ≡ value_table ls ++ b
    → length L ≤ table_bytes → length X ≤ table_bytes → Printable n L X
printable n L X a b ls e c p q f g = record {
  enough = omega (arith, c, ap length p ∙ length-append (line_table 0 ls) a, line_table_length 0 ls e);
  most = f;
  each = λ i h.
      line_within X (drop ((4 * variables) * i) L) (subst (λ (l : List ℕ). LineStandsAt X (drop ((4 * variables) * i) l)) (sym p)
      (line_at X b a 0 i ls e (omega (arith, c, h)) q
      (omega (arith, ap length q ∙ length-append (value_table ls) b, value_table_length ls)))) g;
}
