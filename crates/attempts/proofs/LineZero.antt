-- Line 0 of a listing, in the listing's tables: it stores the values that it assigns, and no others; with its open entries filled it
-- stores a value for each variable. By induction on the line. Assumes nothing.
use mathlib.Core.Path.{◌≡◌, refl, sym, ap, ap₂, ◌∙◌, subst}
use mathlib.Core.Bool.{Bool, true, false, cond}
use mathlib.Core.Option.{Option, none, some}
use mathlib.Core.List.{List, [], ◌∷◌, ◌++◌, append_assoc, append-nil}
use mathlib.Core.Logic.{inl}
use Prim.Native.Nat.{ℕ, zero, suc, ◌+◌, ◌*◌, ◌-◌, ◌/◌, ◌≤◌, ◌<◌}
use native.Mathlib.Omega.{arith}
use lib.Dec.{eqb}
use borrow.Author.Tests.{eq-eqb, ne_eqb}
use lib.ListN.{length, take, drop, length-take, length-drop, take-append-drop}
use lib.Seq.{sets, sets-eq, length-sets, drop_at, take-append-le, drop-append-le, get_or-take}
use Rattle.terms.specs.Figures.{variables, value_records}
use Rattle.terms.specs.Term.{Term, con, size, Occurs, Value}
use Rattle.terms.specs.Table.{record_bytes, encode}
use Rattle.terms.specs.Assignment.{entry, value_or}
use Rattle.terms.specs.Listing.{In, Line}
use Rattle.terms.specs.Layout.{line_value_records, line_bytes, line_values, line_table, value_table, word, word_at, Stored}
use Rattle.terms.proofs.Substitute.{size_pos}
use Rattle.matching.proofs.Lines.{Each, assigns_entry}
use Rattle.matching.proofs.Sizes.{value_fits}
use Rattle.listing.proofs.Writers.{line_values_length}
use Rattle.arranging.specs.Order.{Standing}
use Rattle.arranging.proofs.Comparing.{word_read, word_behind, value_bytes, next_standing}
use Rattle.attempts.specs.Pairs.{line_zero, filling}
use Rattle.attempts.specs.Steps.{FilledOpen, ListingTables}

-- what stands in the line L for variable m, with the value table X: nothing, or a value
record ValueStands (L X : List ℕ) (m : ℕ) (v : Term) : Type 0 where
  pub count : word_at L (4 * m + 2) ≡ size v
  pub bytes : take (4 * size v) (drop (4 * word_at L (4 * m)) X) ≡ encode v
  pub within : 4 * (word_at L (4 * m) + size v) ≤ length X

abbrev Stands : List ℕ → List ℕ → ℕ → Option Term → Type 0
Stands L X m none = word_at L (4 * m + 2) ≡ 0
Stands L X m (some v) = ValueStands L X m v

module _ (L X : List ℕ) where
  first_stands : (o : Option Term) (l : Line) (i : ℕ) → Standing L i X (o ∷ l) → Stands L X i o
  first_stands none l i s =
      word_read L (4 * i + 2) 0 _ (word_behind L (4 * i) 0 (word 0 (line_bytes s.first l ++ s.rest)) s.bytes)
  first_stands (some v) l i s =
      let r = line_bytes (s.first + size v) l ++ s.rest in
      let e : word_at L (4 * i) ≡ s.first = word_read L (4 * i) s.first (word (size v) r) s.bytes in
      record {
        count = word_read L (4 * i + 2) (size v) r (word_behind L (4 * i) s.first (word (size v) r) s.bytes);
        bytes = ap (λ (k : ℕ). take (4 * size v) (drop (4 * k) X)) e ∙ value_bytes L i X v l s;
        within = omega (arith, e, s.within);
      }

  entry_stands : (l : Line) (i : ℕ) → Standing L i X l → (j : ℕ) → j < length l → (m : ℕ) → m ≡ i + j → Stands L X m (entry l j)
  entry_stands [] i s j h m q = absurd (omega arith)
  entry_stands (o ∷ l) i s zero h m q = let e : m ≡ i = omega arith in rw e (first_stands o l i s)
  entry_stands (o ∷ l) i s (suc j) h m q = entry_stands l (i + 1) (next_standing L i X o l s) j (omega arith) m (omega arith)

-- sizes of a line's values
each_entry : (P : Term → Type 0) (l : Line) (i : ℕ) (v : Term) → Each P l → entry l i ≡ some v → P v
each_entry P [] i v h e = absurd (let z : ◌≡◌ {A = ℕ} 0 1 = cc in omega arith)
each_entry P (none ∷ l) zero v h e = absurd (let z : ◌≡◌ {A = ℕ} 0 1 = cc in omega arith)
each_entry P (some u ∷ l) zero v h e = let q : u ≡ v = cc in subst P q h.0
each_entry P (none ∷ l) (suc i) v h e = each_entry P l i v h.1 e
each_entry P (some u ∷ l) (suc i) v h e = each_entry P l i v h.1 e

each_few : (l : Line) → Each (λ v. size v ≤ value_records) l → line_value_records l ≤ value_records * length l
each_few [] h = omega arith
each_few (none ∷ l) h = omega (arith, each_few l h.1)
each_few (some v ∷ l) h = omega (arith, h.0, each_few l h.1)

-- words of a line that is cut out, and bytes before a place that is overwritten
word_cut : (l : List ℕ) (n k : ℕ) → k + 2 ≤ n → word_at (take (n - 0) (drop 0 l)) k ≡ word_at l k
word_cut l n k h = ap₂ (λ (x y : ℕ). x * 256 + y) (get_or-take (n - 0) l k 0 (omega arith)) (get_or-take (n - 0) l (k + 1) 0 (omega arith))

cut_same : (a c z : List ℕ) (k n : ℕ) → z ≡ a ++ c → k + n ≤ length a → take n (drop k z) ≡ take n (drop k a)
cut_same a c z k n e h =
    ap (λ (x : List ℕ). take n (drop k x)) e ∙ ap (take n) (drop-append-le k a c (omega arith))
    ∙ take-append-le n (drop k a) c (omega (arith, length-drop k a))

-- a listing that isn't empty
record First (ls : List Line) : Type 0 where
  pub rest : List Line
  pub is : ls ≡ line_zero ls ∷ rest

first_line : (ls : List Line) → 0 < length ls → First ls
first_line [] h = absurd (omega arith)
first_line (l ∷ ls) h = record { rest = ls; is = refl }

pub zero_in : (ls : List Line) → 0 < length ls → In (line_zero ls) ls
zero_in ls h = subst (In (line_zero ls)) (sym (first_line ls h).is) (inl refl)

module _ (p q : List ℕ) (t : Term) (n : ℕ) (lines values : List ℕ) (x : ListingTables p q t n lines values) (h : 0 < length x.ls) where
  abbrev l : Line
  l = line_zero x.ls

  f : First x.ls
  f = first_line x.ls h

  line_in : In l x.ls
  line_in = zero_in x.ls h

  line_length : length l ≡ variables
  line_length = x.full.entries l line_in

  line_fits : Each (λ v. size v ≤ value_records) l
  line_fits = value_fits x.left.tree t x.left.most x.few variables x.left.below x.normal x.ls x.full l line_in

  line_few : line_value_records l ≤ value_records * variables
  line_few = omega (arith, each_few l line_fits, line_length)

  -- in the values of the line alone
  standing : Standing lines 0 (line_values l) l
  standing = record {
    entries = omega (arith, line_length);
    whole = omega (arith, x.lines_length);
    first = 0;
    rest = line_table (0 + line_value_records l) f.rest ++ x.lines_behind;
    behind = [];
    bytes =
        x.line_bytes ∙ ap (λ (k : List Line). line_table 0 k ++ x.lines_behind) f.is ∙ append_assoc (line_bytes 0 l) _ x.lines_behind;
    values = sym (append-nil (line_values l));
    within = omega (arith, line_values_length l);
  }

  values_are : values ≡ line_values l ++ (value_table f.rest ++ x.values_behind)
  values_are =
      x.value_bytes ∙ ap (λ (k : List Line). value_table k ++ x.values_behind) f.is ∙ append_assoc (line_values l) _ x.values_behind

  stands : (i : ℕ) → i < variables → Stands lines (line_values l) i (entry l i)
  stands i g = entry_stands lines (line_values l) l 0 standing i (omega (arith, line_length)) i (omega arith)

  -- the values of the line stand in the first 1,280 records
  value_below : (i : ℕ) (v : Term) → ValueStands lines (line_values l) i v → word_at lines (4 * i) + size v ≤ value_records * variables
  value_below i v z = omega (arith, z.within, line_values_length l, line_few)

  -- and in any table that begins with these
  value_in : (i : ℕ) (v : Term) → ValueStands lines (line_values l) i v → (c z : List ℕ) → z ≡ line_values l ++ c
      → take (4 * size v) (drop (4 * word_at lines (4 * i)) z) ≡ encode v
  value_in i v s c z e = cut_same (line_values l) c z (4 * word_at lines (4 * i)) (4 * size v) e (omega (arith, s.within)) ∙ s.bytes

  line_most : (i : ℕ) (v : Term) → entry l i ≡ some v → size v ≤ value_records
  line_most i v e = each_entry (λ w. size w ≤ value_records) l i v line_fits e

  line_value : (i : ℕ) (v : Term) → entry l i ≡ some v → Value v
  line_value i v e = (assigns_entry (λ k. Occurs k x.left.tree) l i v (x.full.assigns l line_in) e).1

  abbrev line : List ℕ
  line = take (4 * variables - 0) (drop 0 lines)

  -- the line stores what it assigns, and nothing where it is open
  pub line_stored : (i : ℕ) → i < variables → (v : Term) → entry l i ≡ some v → Stored line values i v
  line_stored i g v e =
      let z = subst (Stands lines (line_values l) i) e (stands i g) in
      let a : word_at line (4 * i) ≡ word_at lines (4 * i) = word_cut lines (4 * variables) (4 * i) (omega arith) in
      let b : word_at line (4 * i + 2) ≡ size v = word_cut lines (4 * variables) (4 * i + 2) (omega arith) ∙ z.count in
      record {
        least = omega (arith, b, size_pos v);
        most = omega (arith, b, line_most i v e);
        within = omega (arith, a, b, value_below i v z, x.values_length);
        bytes = ap₂ (λ (c k : ℕ). take (4 * c) (drop (4 * k) values)) b a ∙ value_in i v z _ values values_are;
        value = line_value i v e;
      }

  pub line_assigns : (i : ℕ) → i < variables → (v : Term) → Stored line values i v → (w : Term) × (entry l i ≡ some w)
  line_assigns i g v s = go (entry l i) refl
    where
      go : (o : Option Term) → entry l i ≡ o → (w : Term) × (entry l i ≡ some w)
      go none e =
          let z = subst (Stands lines (line_values l) i) e (stands i g) in
          absurd (omega (arith, s.least, word_cut lines (4 * variables) (4 * i + 2) (omega arith), z))
      go (some w) e = (w, e)

  -- with the constant in the last record, and its entries filled
  module _ (last : ℕ) (e : last ≡ length values / 4 - 1) (after : List ℕ) (w : after ≡ sets values (4 * last) (record_bytes 3 0 []))
      (filled : List ℕ) (o : FilledOpen lines last filled variables) where
    after_is : after ≡ take (4 * last) values ++ (record_bytes 3 0 [] ++ drop (4 * last + 4) values)
    after_is =
        w ∙ sets-eq (record_bytes 3 0 []) values (4 * last) (omega (arith, x.values_length))
        ∙ append_assoc (take (4 * last) values) (record_bytes 3 0 []) (drop (4 * last + 4) values)

    after_length : length after ≡ length values
    after_length = ap length w ∙ length-sets values (4 * last) (record_bytes 3 0 [])

    abbrev line' : List ℕ
    line' = take (4 * variables - 0) (drop 0 filled)

    word_first : (i : ℕ) → i < variables → word_at line' (4 * i) ≡ word_at filled (4 * i)
    word_first i g = word_cut filled (4 * variables) (4 * i) (omega arith)

    word_count : (i : ℕ) → i < variables → word_at line' (4 * i + 2) ≡ word_at filled (4 * i + 2)
    word_count i g = word_cut filled (4 * variables) (4 * i + 2) (omega arith)

    open_stored : (i : ℕ) → i < variables → entry l i ≡ none → Stored line' after i (con 0)
    open_stored i g d =
        let z : word_at lines (4 * i + 2) ≡ 0 = subst (Stands lines (line_values l) i) d (stands i g) in
        let y : eqb (word_at lines (4 * i + 2)) 0 ≡ true = eq-eqb (word_at lines (4 * i + 2)) 0 z in
        let r : word_at line' (4 * i) ≡ last =
        word_first i g ∙ (o.filled i g).first ∙ ap (λ (c : Bool). cond c last (word_at lines (4 * i))) y in
        let c : word_at line' (4 * i + 2) ≡ 1 =
        word_count i g ∙ (o.filled i g).count ∙ ap (λ (c : Bool). cond c 1 (word_at lines (4 * i + 2))) y in
        record {
          least = omega (arith, c);
          most = omega (arith, c);
          within = omega (arith, r, c, x.values_length, after_length);
          bytes =
              ap₂ (λ (m k : ℕ). take (4 * m) (drop (4 * k) after)) c r ∙ ap (λ (y : List ℕ). take 4 (drop (4 * last) y)) after_is
              ∙ ap (take 4)
              (drop_at (take (4 * last) values) _ (4 * last) (omega (arith, length-take (4 * last) values, x.values_length)));
          value = (tt, tt, omega arith);
        }

    value_stored : (i : ℕ) → i < variables → (v : Term) → entry l i ≡ some v → Stored line' after i v
    value_stored i g v d =
        let z = subst (Stands lines (line_values l) i) d (stands i g) in
        let y : eqb (word_at lines (4 * i + 2)) 0 ≡ false =
        ne_eqb (word_at lines (4 * i + 2)) 0 (λ k. omega (arith, k, z.count, size_pos v)) in
        let r : word_at line' (4 * i) ≡ word_at lines (4 * i) =
        word_first i g ∙ (o.filled i g).first ∙ ap (λ (c : Bool). cond c last (word_at lines (4 * i))) y in
        let c : word_at line' (4 * i + 2) ≡ size v =
        word_count i g ∙ (o.filled i g).count ∙ ap (λ (c : Bool). cond c 1 (word_at lines (4 * i + 2))) y ∙ z.count in
        record {
          least = omega (arith, c, size_pos v);
          most = omega (arith, c, line_most i v d);
          within = omega (arith, r, c, value_below i v z, x.values_length, after_length);
          bytes =
              ap₂ (λ (m k : ℕ). take (4 * m) (drop (4 * k) after)) c r
              ∙ cut_same (take (4 * last) values) _ after (4 * word_at lines (4 * i)) (4 * size v) after_is
              (omega (arith, value_below i v z, length-take (4 * last) values, x.values_length))
              ∙ sym (cut_same (take (4 * last) values) (drop (4 * last) values) values (4 * word_at lines (4 * i)) (4 * size v)
              (sym (take-append-drop (4 * last) values))
              (omega (arith, value_below i v z, length-take (4 * last) values, x.values_length)))
              ∙ value_in i v z _ values values_are;
          value = line_value i v d;
        }

    pub filled_stored : (i : ℕ) → i < variables → Stored line' after i (filling l i)
    filled_stored i g = go (entry l i) refl
      where
        go : (d : Option Term) → entry l i ≡ d → Stored line' after i (filling l i)
        go none d = subst (λ (k : Option Term). Stored line' after i (value_or (con 0) k)) (sym d) (open_stored i g d)
        go (some v) d = subst (λ (k : Option Term). Stored line' after i (value_or (con 0) k)) (sym d) (value_stored i g v d)
