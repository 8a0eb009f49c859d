-- Laying out the values of lines: the entries read from a line are its entries, and lines written anew one after another are their table.
-- By induction on the lines; the values are read from a copy, so that writing doesn't change them. Assumes nothing.
use mathlib.Core.Path.{◌≡◌, refl, sym, ap, ap₂, ◌∙◌, subst}
use mathlib.Core.Option.{Option, none, some}
use mathlib.Core.List.{List, [], ◌∷◌, ◌++◌, append_assoc, append-nil}
use mathlib.Core.Logic.{inl, inr}
use Prim.Native.Nat.{ℕ, ◌+◌, ◌-◌, ◌*◌, ◌≤◌, ◌<◌}
use native.Mathlib.Omega.{arith}
use lib.ListN.{length, get_or, take, drop, length-append, take-append-drop, drop_of_length-le}
use lib.Seq.{sets, sets-eq, drop-drop, drop_at, take_at, length-take-le}
use Rattle.terms.specs.Figures.{variables}
use Rattle.terms.specs.Term.{Term}
use Rattle.terms.specs.Table.{encode}
use Rattle.terms.specs.Listing.{Line}
use Rattle.terms.specs.Layout.{line_value_records, line_bytes, line_values, line_table, values_records, value_table}
use Rattle.records.proofs.Parts.{part}
use Rattle.assignments.specs.declared.Entry.{Entry}
use Rattle.assignments.specs.declared.Entry.TheVariants.{Open}
use Rattle.assignments.specs.Entries.{Read}
use Rattle.copying.proofs.Stores.{sets_then, stored}
use Rattle.listing.specs.Outcome.{Laid, Lines}
use Rattle.listing.specs.Writers.{EntryStands, LineStands, WriteLine, WroteLine}
use Rattle.arranging.specs.Laying.{LayLine, LaidLine, LayLines, LaidLines, LayOut, LaidOut}
use Rattle.arranging.specs.Order.{Standing}
use Rattle.listing.proofs.Writers.{line_bytes_length, line_values_length, entries_next}
use Rattle.arranging.proofs.Comparing.{entry_left_open, entry_assigned, next_standing, laid_standing, lines_length}
use Rattle.listing.proofs.Stores.{Entire, line_table_length, value_table_length}

-- the entries read from a line are its entries
module _ (L X : List ℕ) (a : List Entry) (n : length a ≡ variables) (r : Read L a variables) where
  entry_stands : (i : ℕ) → i < variables → (o : Option Term) (l : Line) → Standing L i X (o ∷ l) → EntryStands X (get_or a i Open) o
  unfolding EntryStands
  entry_stands i h none l s = subst (λ (e : Entry). EntryStands X e none) (sym (r i h ∙ entry_left_open L i X l s)) tt
  entry_stands i h (some v) l s =
      subst (λ (e : Entry). EntryStands X e (some v)) (sym (r i h ∙ entry_assigned L i X v l s))
      (record {
        part = part X (4 * s.first) v (line_values l ++ s.behind) (s.values ∙ append_assoc (encode v) (line_values l) s.behind);
        count = refl;
      })

  line_stands : (l : Line) (i : ℕ) → Standing L i X l → LineStands X (drop i a) l
  unfolding LineStands
  line_stands [] i s =
      let h : length a ≤ i = omega (arith, s.entries) in
      subst (λ (b : List Entry). LineStands X b []) (sym (drop_of_length-le a h)) tt
  line_stands (o ∷ l) i s =
      let h : i < variables = omega (arith, s.entries) in
      subst (λ (b : List Entry). LineStands X b (o ∷ l)) (sym (entries_next a i (omega arith)))
      (entry_stands i h o l s, line_stands l (i + 1) (next_standing L i X o l s))

-- a line read and written anew
module _ (s lines : List ℕ) (at : ℕ) (values : List ℕ) (first end : ℕ) (a : List Entry) (e : end ≡ at + 4 * variables)
    (n : length a ≡ variables) (r : Read (take (end - at) (drop at lines)) a variables) where
  laid_stands : (l : Line) → Laid s (drop at lines) l → LineStands s a l
  laid_stands l x =
      let m : length (line_bytes x.first l) ≡ end - at = omega (arith, line_bytes_length x.first l, x.entries) in
      let b : take (end - at) (drop at lines) ≡ line_bytes x.first l ++ [] =
      ap (take (end - at)) x.line ∙ take_at (line_bytes x.first l) x.rest (end - at) m
      ∙ sym (append-nil (line_bytes x.first l)) in
      line_stands (take (end - at) (drop at lines)) s a n r l 0
      (laid_standing s (take (end - at) (drop at lines)) l
      (record { first = x.first; rest = []; behind = x.behind; line = b; stand = x.stand; within = x.within; entries = x.entries }))

  pub lay_write : LayLine s lines at values first → WriteLine s a 0 lines at values first
  lay_write x = record {
    line = x.line;
    stands = laid_stands x.line x.laid;
    upto = omega arith;
    room = omega (arith, x.room);
    values_room = x.values_room;
    values_most = x.values_most;
    entries = n;
  }

  pub laid_line : (p w : List ℕ) (next : ℕ) → WroteLine s a lines at values first p w next → LaidLine s lines at values first p w next
  laid_line p w next y = record {
    records = λ l x. y.records l (laid_stands l x);
    bytes = λ l x. y.bytes l (laid_stands l x);
    copied = λ l x. y.copied l (laid_stands l x);
  }

-- bytes that begin with lines
abbrev pub BeginsWith : List ℕ → List ℕ → List Line → Type 0
BeginsWith s bytes [] = Unit {0}
BeginsWith s bytes (l ∷ ls) = (x : Laid s bytes l) × BeginsWith s x.rest ls

laid_longer : (s bytes more : List ℕ) (l : Line) → Laid s bytes l → Laid s (bytes ++ more) l
laid_longer s bytes more l x = record {
  first = x.first;
  rest = x.rest ++ more;
  behind = x.behind;
  line = ap (◌++ more) x.line ∙ append_assoc (line_bytes x.first l) x.rest more;
  stand = x.stand;
  within = x.within;
  entries = x.entries;
}

lines_begin : (s bytes more : List ℕ) (ls : List Line) → Lines s bytes ls → BeginsWith s (bytes ++ more) ls
unfolding laid_longer
lines_begin s bytes more [] h = tt
lines_begin s bytes more (l ∷ ls) h = (laid_longer s bytes more l h.0, lines_begin s h.0.rest more ls h.1)

pub lines_entire : (s bytes : List ℕ) (ls : List Line) → Lines s bytes ls → Entire ls
lines_entire s bytes (l ∷ ls) h m (inl p) = ap length p ∙ h.0.entries
lines_entire s bytes (l ∷ ls) h m (inr p) = lines_entire s h.0.rest ls h.1 m p
lines_entire s bytes [] h m x'' = elim x'' [ ]

pub lines_count : (s lines : List ℕ) (n : ℕ) (ls : List Line) → 4 * variables * n ≤ length lines
    → Lines s (take (4 * variables * n) lines) ls → n ≡ length ls
lines_count s lines n ls h x =
    omega (arith, lines_length s (take (4 * variables * n) lines) ls x, length-take-le (4 * variables * n) lines h)

-- the lines that are left to lay out after i of them
pub record Left (s lines values : List ℕ) (ms : List Line) (p w : List ℕ) (first i : ℕ) : Type 0 where
  pub rest : List Line
  pub begin : BeginsWith s (drop (4 * variables * i) p) rest
  pub upto : i + length rest ≡ length ms
  pub records : first + values_records rest ≡ values_records ms
  pub bytes : sets p (4 * variables * i) (line_table first rest) ≡ sets lines 0 (line_table 0 ms)
  pub copied : sets w (4 * first) (value_table rest) ≡ sets values 0 (value_table ms)

pub record Laying (s lines : List ℕ) (count : ℕ) (values p w : List ℕ) (first i : ℕ) : Type 0 where
  pub same_lines : length p ≡ length lines
  pub same_values : length w ≡ length values
  pub left : (ms : List Line) → Lines s (take (4 * variables * count) lines) ms → Left s lines values ms p w first i

pub laying_start : (s lines : List ℕ) (count : ℕ) (values : List ℕ) → Laying s lines count values lines values 0 0
laying_start s lines count values = record {
  same_lines = refl;
  same_values = refl;
  left = λ ms h. record {
    rest = ms;
    begin = subst (λ (x : List ℕ). BeginsWith s x ms) (take-append-drop (4 * variables * count) lines)
        (lines_begin s (take (4 * variables * count) lines) (drop (4 * variables * count) lines) ms h);
    upto = omega arith;
    records = omega arith;
    bytes = refl;
    copied = refl;
  };
}

-- the bytes behind a run of stores stay
behind_sets : (p xs q : List ℕ) (o m : ℕ) → q ≡ sets p o xs → m ≡ o + length xs → m ≤ length p → drop m q ≡ drop m p
behind_sets p xs q o m b j h =
    let n : length (take o p ++ xs) ≡ m = omega (arith, length-append (take o p) xs, length-take-le o p (omega arith)) in
    ap (drop m) (b ∙ sets-eq xs p o (omega arith)) ∙ drop_at (take o p ++ xs) (drop (o + length xs) p) m n
    ∙ ap (λ (k : ℕ). drop k p) (sym j)

-- the next of the lines that are left
pub record NextLine (s p : List ℕ) (i : ℕ) (rest : List Line) : Type 0 where
  pub line : Line
  pub others : List Line
  pub is : rest ≡ line ∷ others
  pub laid : Laid s (drop (4 * variables * i) p) line
  pub begin : BeginsWith s laid.rest others

next_line : (s p : List ℕ) (i : ℕ) (rest : List Line) → 1 ≤ length rest → BeginsWith s (drop (4 * variables * i) p) rest
    → NextLine s p i rest
next_line s p i [] h b = absurd (omega arith)
next_line s p i (l ∷ ls) h b = record { line = l; others = ls; is = refl; laid = b.0; begin = b.1 }

module _ (s lines : List ℕ) (count : ℕ) (values p w : List ℕ) (first i : ℕ) (x : LayLines s lines count values)
    (y : Laying s lines count values p w first i) (h : i < count) where
  left_next : (ms : List Line) → Lines s (take (4 * variables * count) lines) ms → (z : Left s lines values ms p w first i)
      → NextLine s p i z.rest
  left_next ms m z = next_line s p i z.rest (omega (arith, z.upto, lines_count s lines count ms x.room m)) z.begin

  pub lay_line : LayLine s p (4 * variables * i) w first
  lay_line =
      let z = y.left x.order x.laid in
      let k = left_next x.order x.laid z in
      record {
        line = k.line;
        laid = k.laid;
        room = omega (arith, x.room, y.same_lines);
        values_room = omega (arith, z.records, ap values_records k.is, x.values_room, y.same_values);
        values_most = omega (arith, x.values_most, y.same_values);
      }

  pub laying_more :
      (q v : List ℕ) (next : ℕ) → LaidLine s p (4 * variables * i) w first q v next → length q ≡ length p → length v ≡ length w
      → Laying s lines count values q v next (i + 1)
  laying_more q v next d e f = record {
    same_lines = e ∙ y.same_lines;
    same_values = f ∙ y.same_values;
    left = λ ms m. go ms m (y.left ms m);
  }
    where
      go : (ms : List Line) → Lines s (take (4 * variables * count) lines) ms → Left s lines values ms p w first i
          → Left s lines values ms q v next (i + 1)
      go ms m z =
          let k = left_next ms m z in
          let l = k.line in
          let o = k.others in
          let g = k.laid in
          let b = d.bytes l g in
          let c = d.copied l g in
          let r = d.records l g in
          let n = line_bytes_length first l in
          let u = line_bytes_length g.first l in
          let j : 4 * variables * (i + 1) ≡ 4 * variables * i + length (line_bytes first l) = omega (arith, n, g.entries) in
          let t : 4 * next ≡ 4 * first + length (line_values l) = omega (arith, r, line_values_length l) in
          let f : 4 * variables * (i + 1) ≡ 4 * variables * i + 4 * variables = omega arith in
          let a : drop (4 * variables * (i + 1)) p ≡ g.rest =
          ap (λ (k : ℕ). drop k p) f ∙ sym (drop-drop (4 * variables) (4 * variables * i) p) ∙ ap (drop (4 * variables)) g.line
          ∙ drop_at (line_bytes g.first l) g.rest (4 * variables) (omega (arith, u, g.entries)) in
          record {
            rest = o;
            begin = subst (λ (bytes : List ℕ). BeginsWith s bytes o) (sym (behind_sets p (line_bytes first l) q (4 * variables * i)
                (4 * variables * (i + 1)) b j (omega (arith, x.room, y.same_lines)) ∙ a)) k.begin;
            upto = omega (arith, z.upto, ap length k.is);
            records = omega (arith, z.records, r, ap values_records k.is);
            bytes = ap₂ (λ (y : List ℕ) (k : ℕ). sets y k (line_table next o)) b j ∙ ap (λ (k : ℕ). sets
                (sets p (4 * variables * i) (line_bytes first l)) (4 * variables * i + length (line_bytes first l)) (line_table k o)) r
                ∙ sets_then (line_bytes first l) (line_table (first + line_value_records l) o) p (4 * variables * i)
                ∙ ap (λ (ls : List Line). sets p (4 * variables * i) (line_table first ls)) (sym k.is) ∙ z.bytes;
            copied = ap₂ (λ (y : List ℕ) (k : ℕ). sets y k (value_table o)) c t ∙ sets_then (line_values l) (value_table o) w (4 * first)
                ∙ ap (λ (ls : List Line). sets w (4 * first) (value_table ls)) (sym k.is) ∙ z.copied;
          }

pub laying_done : (s lines : List ℕ) (count : ℕ) (values p w : List ℕ) (first i : ℕ) → LayLines s lines count values
    → Laying s lines count values p w first i → count ≤ i → LaidLines s lines count values p w
laying_done s lines count values p w first i x y h = record {
  bytes = λ ms m. (go ms m (y.left ms m)).0;
  copied = λ ms m. (go ms m (y.left ms m)).1;
}
  where
    none_left : (rest : List Line) → length rest ≡ 0 → rest ≡ []
    none_left [] e = refl
    none_left (l ∷ ls) e = absurd (omega arith)

    go : (ms : List Line) → Lines s (take (4 * variables * count) lines) ms → Left s lines values ms p w first i
        → (p ≡ sets lines 0 (line_table 0 ms)) × (w ≡ sets values 0 (value_table ms))
    go ms m z =
        let e = none_left z.rest (omega (arith, z.upto, lines_count s lines count ms x.room m)) in (
          ap (λ (ls : List Line). sets p (4 * variables * i) (line_table first ls)) (sym e) ∙ z.bytes,
          ap (λ (ls : List Line). sets w (4 * first) (value_table ls)) (sym e) ∙ z.copied,
        )

-- the values stand in the work area
module _ (lines : List ℕ) (count : ℕ) (values : List ℕ) (records : ℕ) (work copy : List ℕ) (x : LayOut lines count values records work)
    (n : ℕ) (e : n ≡ 4 * records) (c : copy ≡ sets work 0 (take (n - 0) (drop 0 values))) where
  values_copied : take (n - 0) (drop 0 copy) ≡ take (4 * records) values
  values_copied =
      let h : length (take (n - 0) values) ≡ n - 0 = length-take-le (n - 0) values (omega (arith, x.values_room)) in
      let z : n - 0 ≡ 4 * records = omega arith in
      stored work copy (take (n - 0) (drop 0 values)) n c (omega (arith, h)) (omega (arith, x.values_room, x.values_most, x.area))
      ∙ ap (λ (k : ℕ). take k values) z

  pub lay_lines : LayLines (take (n - 0) (drop 0 copy)) lines count values
  lay_lines = record {
    order = x.order;
    laid = rw values_copied x.laid;
    room = x.room;
    values_room = omega (arith, x.values_room, x.records_are);
    values_most = x.values_most;
  }

  pub laid_out : (p w : List ℕ) → LaidLines (take (n - 0) (drop 0 copy)) lines count values p w → LaidOut lines count values records p w
  laid_out p w y = record {
    bytes = λ ms m.
        let l = line_table_length 0 ms (lines_entire _ _ ms m) in
        let k = lines_count _ lines count ms x.room m in
        y.bytes ms (rw values_copied m) ∙ front (line_table 0 ms) lines (4 * variables * count) (omega arith) x.room;
    copied = λ ms m r. y.copied ms (rw values_copied m)
        ∙ front (value_table ms) values (4 * records) (omega (arith, value_table_length ms)) x.values_room;
  }
    where
      front : (xs l : List ℕ) (n : ℕ) → n ≡ length xs → n ≤ length l → sets l 0 xs ≡ xs ++ drop n l
      front xs l n e h = let i : 0 + length xs ≡ n = omega arith in sets-eq xs l 0 (omega arith) ∙ ap (λ (k : ℕ). xs ++ drop k l) i
