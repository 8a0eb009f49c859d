-- Two lines compared entry by entry, and two tables byte by byte. The order is lexicographic three times over, so that each step looks at
-- the first place where the two differ; the order of the bytes of values is the order of their records. Assumes nothing.
use mathlib.Core.Path.{◌≡◌, refl, sym, ap, ap₂, ◌∙◌, subst}
use mathlib.Core.Bool.{Bool, true, false}
use mathlib.Core.Option.{Option, none, some}
use mathlib.Core.List.{List, [], ◌∷◌, ◌++◌, append_assoc}
use mathlib.Core.Logic.{inl, inr, ⊎_elim}
use Prim.Native.Nat.{ℕ, ◌+◌, ◌*◌, ◌≤◌, ◌<◌}
use native.Mathlib.Omega.{arith}
use native.Mathlib.Nat.{div-add-mod'}
use lib.ListN.{length, get_or, take, drop, length-append}
use lib.Seq.{get_or-drop, drop-drop, drop_at, take_at}
use Rattle.terms.specs.Figures.{variables}
use Rattle.terms.specs.Term.{Term, size}
use Rattle.terms.specs.Table.{encode}
use Rattle.terms.specs.Listing.{Line, Lexicographic, Before, Less}
use Rattle.terms.specs.Layout.{word, word_at, line_bytes, line_values}
use Rattle.terms.proofs.Table.{encode_length, encode_one, order_bytes}
use Rattle.terms.proofs.Order.{before_open, less_irrefl, less_trans}
use Rattle.terms.proofs.Substitute.{size_pos}
use Rattle.records.specs.Tests.{Says}
use Rattle.assignments.specs.declared.Span.{Span}
use Rattle.assignments.specs.declared.Entry.{Entry}
use Rattle.assignments.specs.declared.Entry.TheVariants.{Open, Assigned}
use Rattle.assignments.specs.Entries.{entry_at}
use Rattle.assignments.proofs.Entries.{open_at, assigned_at, open_span, span_inj}
use Rattle.std.specs.declared.cmp.Ordering.{Ordering}
use Rattle.std.specs.Ordering.{MatchOrdering, ordering_then, nat_cmp}
use Rattle.std.specs.Cmp.Lexicographic.{slice_cmp}
use Rattle.std.proofs.lemmas.Cmp.{ranked}
use Rattle.arranging.specs.Order.{ComparesAs, open_against, Standing, LinesComparable, EntriesCompared, TwoLines, Ordered}
use Rattle.listing.specs.Outcome.{Laid, Lines}
use Rattle.listing.proofs.Writers.{line_bytes_length}

-- the first byte that differs decides
then_compared : (x y : ℕ) (a b : List ℕ) (r o : Ordering) → MatchOrdering r (x < y) (x ≡ y) (y < x) → ComparesAs (Lexicographic ◌<◌) a b o
    → ComparesAs (Lexicographic ◌<◌) (x ∷ a) (y ∷ b) (ordering_then r o)
unfolding ComparesAs
then_compared x y a b Ordering.Less o m h = inl m
then_compared x y a b Ordering.Equal Ordering.Less m h = inr (m, h)
then_compared x y a b Ordering.Equal Ordering.Equal m h = ap₂ ◌∷◌ m h
then_compared x y a b Ordering.Equal Ordering.Greater m h = inr (sym m, h)
then_compared x y a b Ordering.Greater o m h = inl m

compared : (a b : List ℕ) → ComparesAs (Lexicographic ◌<◌) a b (slice_cmp nat_cmp a b)
unfolding ComparesAs
compared [] [] = refl
compared [] (y ∷ b) = tt
compared (x ∷ a) [] = tt
compared (x ∷ a) (y ∷ b) = then_compared x y a b (nat_cmp x y) (slice_cmp nat_cmp a b) (ranked x y _ refl) (compared a b)

pub bytes_compared : (a b : List ℕ) (c : Ordering) → c ≡ slice_cmp nat_cmp a b → ComparesAs (Lexicographic ◌<◌) a b c
bytes_compared a b c e = subst (ComparesAs (Lexicographic ◌<◌) a b) (sym e) (compared a b)

-- a 16-bit number that stands in a table
module _ (l : List ℕ) (at n : ℕ) (rest : List ℕ) (e : drop at l ≡ word n rest) where
  pub word_read : word_at l at ≡ n
  word_read =
      ap₂ (λ (i j : ℕ). i * 256 + j) (ap (λ (k : ℕ). get_or l k 0) (omega arith) ∙ sym (get_or-drop at l 0 0)) (sym (get_or-drop at l 1 0))
      ∙ ap (λ (x : List ℕ). get_or x 0 0 * 256 + get_or x 1 0) e ∙ div-add-mod' n 256

  pub word_behind : drop (at + 2) l ≡ rest
  word_behind = sym (drop-drop 2 at l) ∙ ap (drop 2) e

-- the first of the entries that stand in a line
module _ (L : List ℕ) (i : ℕ) (X : List ℕ) where
  pub entry_left_open : (l : Line) → Standing L i X (none ∷ l) → entry_at L i ≡ Open
  entry_left_open l s =
      let e = word_behind L (4 * i) 0 (word 0 (line_bytes s.first l ++ s.rest)) s.bytes in
      sym (open_at L i 0 (sym (word_read L (4 * i + 2) 0 (line_bytes s.first l ++ s.rest) e)) refl)

  pub entry_assigned : (v : Term) (l : Line) (s : Standing L i X (some v ∷ l))
      → entry_at L i ≡ Assigned (record { first = s.first; count = size v })
  entry_assigned v l s =
      let r = line_bytes (s.first + size v) l ++ s.rest in
      let e = word_behind L (4 * i) s.first (word (size v) r) s.bytes in
      sym (assigned_at L i (size v) s.first (sym (word_read L (4 * i + 2) (size v) r e)) (λ z. omega (arith, size_pos v))
      (sym (word_read L (4 * i) s.first (word (size v) r) s.bytes)))

  pub value_bytes : (v : Term) (l : Line) (s : Standing L i X (some v ∷ l)) → take (4 * size v) (drop (4 * s.first) X) ≡ encode v
  value_bytes v l s =
      ap (take (4 * size v)) (s.values ∙ append_assoc (encode v) (line_values l) s.behind)
      ∙ take_at (encode v) (line_values l ++ s.behind) (4 * size v) (encode_length v)

  pub next_standing : (o : Option Term) (l : Line) → Standing L i X (o ∷ l) → Standing L (i + 1) X l
  next_standing none l s =
      let p : 4 * (i + 1) ≡ 4 * i + 4 = omega arith in
      record {
        entries = omega (arith, s.entries);
        whole = s.whole;
        first = s.first;
        rest = s.rest;
        behind = s.behind;
        bytes = ap (λ (k : ℕ). drop k L) p ∙ sym (drop-drop 4 (4 * i) L) ∙ ap (drop 4) s.bytes;
        values = s.values;
        within = s.within;
      }
  next_standing (some v) l s =
      let p : 4 * (i + 1) ≡ 4 * i + 4 = omega arith in
      let q : 4 * (s.first + size v) ≡ 4 * s.first + 4 * size v = omega arith in
      record {
        entries = omega (arith, s.entries);
        whole = s.whole;
        first = s.first + size v;
        rest = s.rest;
        behind = s.behind;
        bytes = ap (λ (k : ℕ). drop k L) p ∙ sym (drop-drop 4 (4 * i) L) ∙ ap (drop 4) s.bytes;
        values =
            ap (λ (k : ℕ). drop k X) q ∙ sym (drop-drop (4 * size v) (4 * s.first) X)
            ∙ ap (drop (4 * size v)) (s.values ∙ append_assoc (encode v) (line_values l) s.behind)
            ∙ drop_at (encode v) (line_values l ++ s.behind) (4 * size v) (encode_length v);
        within = omega (arith, s.within);
      }

  -- an entry is read as what it is
  not_assigned : (o : Option Term) (l : Line) → Standing L i X (o ∷ l) → entry_at L i ≡ Open → o ≡ none
  not_assigned none l s e = refl
  not_assigned (some v) l s e = absurd (open_span (sym e ∙ entry_assigned v l s))

  record ReadAs (o : Option Term) (x : Span) : Type 0 where
    pub value : Term
    pub is : o ≡ some value
    pub bytes : take (4 * x.count) (drop (4 * x.first) X) ≡ encode value
    pub within : 4 * (x.first + x.count) ≤ length X

  read_as : (o : Option Term) (l : Line) (x : Span) → Standing L i X (o ∷ l) → entry_at L i ≡ Assigned x → ReadAs o x
  read_as none l x s e = absurd (open_span (sym (entry_left_open l s) ∙ e))
  read_as (some v) l x s e =
      let q = span_inj _ x (sym (entry_assigned v l s) ∙ e) in
      subst (ReadAs (some v)) q (record { value = v; is = refl; bytes = value_bytes v l s; within = omega (arith, s.within) })

  pub value_within : (l : Line) (x : Span) → i < variables → Standing L i X l → entry_at L i ≡ Assigned x
      → 4 * (x.first + x.count) ≤ length X
  value_within [] x h s e = absurd (omega (arith, s.entries))
  value_within (o ∷ l) x h s e = (read_as o l x s e).within

-- entries compared
module _ (A B : List ℕ) (i : ℕ) (X : List ℕ) where
  both_open : entry_at A i ≡ Open → entry_at B i ≡ Open → EntriesCompared A B i X Ordering.Equal
  unfolding ComparesAs
  both_open e f = record { exact = λ o q l m s t. not_assigned A i X o l s e ∙ sym (not_assigned B i X q m t f) }

  open_earlier : (y : Span) → entry_at A i ≡ Open → entry_at B i ≡ Assigned y → EntriesCompared A B i X Ordering.Less
  unfolding ComparesAs
  open_earlier y e f = record {
    exact = λ o q l m s t.
        let w = read_as B i X q m y t f in
        rw (not_assigned A i X o l s e, w.is) (before_open w.value);
  }

  pub open_against_lem : (y : Entry) (c : Ordering) → entry_at A i ≡ Open → y ≡ entry_at B i → c ≡ open_against y
      → EntriesCompared A B i X c
  open_against_lem Open c e f k = rw k (both_open e (sym f))
  open_against_lem (Assigned y) c e f k = rw k (open_earlier y e (sym f))

  pub open_later : (x : Span) → entry_at A i ≡ Assigned x → entry_at B i ≡ Open → EntriesCompared A B i X Ordering.Greater
  unfolding ComparesAs
  open_later x e f = record {
    exact = λ o q l m s t.
        let v = read_as A i X o l x s e in
        rw (not_assigned B i X q m t f, v.is) (before_open v.value);
  }

  order_values : (v w : Term) (c : Ordering) → ComparesAs (Lexicographic ◌<◌) (encode v) (encode w) c
      → ComparesAs Before (some v) (some w) c
  unfolding ComparesAs
  order_values v w Ordering.Less h = inr (refl, (order_bytes v w).1 h)
  order_values v w Ordering.Equal h = ap some (encode_one v w h)
  order_values v w Ordering.Greater h = inr (refl, (order_bytes w v).1 h)

  pub by_values :
      (x y : Span) → entry_at A i ≡ Assigned x → entry_at B i ≡ Assigned y → (p q : List ℕ) → p ≡ take (4 * x.count) (drop (4 * x.first) X)
      → q ≡ take (4 * y.count) (drop (4 * y.first) X) → (c : Ordering) → ComparesAs (Lexicographic ◌<◌) p q c
      → EntriesCompared A B i X c
  by_values x y e f p q g k c h = record {
    exact = λ o r l m s t.
        let v = read_as A i X o l x s e in
        let w = read_as B i X r m y t f in
        let z : ComparesAs (Lexicographic ◌<◌) (encode v.value) (encode w.value) c = rw (g ∙ v.bytes, k ∙ w.bytes) at h in
        rw (v.is, w.is) (order_values v.value w.value c z);
  }

-- whether the entries from variable i on in A come before those in B
pub record LinesCompared (A B : List ℕ) (i : ℕ) (X : List ℕ) (r : Bool) : Type 0 where
  pub exact : (l m : Line) → Standing A i X l → Standing B i X m → Says r (Less l m)

-- lines compared, from variable i on
module _ (A B : List ℕ) (i : ℕ) (X : List ℕ) where
  module _ (h : i < variables) where
    -- both lines have an entry for variable i
    by_entries :
        (P : Line → Line → Type 0)
        → ((o q : Option Term) (l m : Line) → Standing A i X (o ∷ l) → Standing B i X (q ∷ m) → P (o ∷ l) (q ∷ m))
        → (l m : Line) → Standing A i X l → Standing B i X m → P l m
    by_entries P f [] m s t = absurd (omega (arith, s.entries))
    by_entries P f (o ∷ l) [] s t = absurd (omega (arith, t.entries))
    by_entries P f (o ∷ l) (q ∷ m) s t = f o q l m s t

    line_earlier : (c : Ordering) → c ≡ Ordering.Less → EntriesCompared A B i X c → LinesCompared A B i X true
    unfolding ComparesAs
    line_earlier c e x =
        let y : EntriesCompared A B i X Ordering.Less = rw e at x in
        record { exact = by_entries Less (λ o q l m s t. inl (y.exact o q l m s t)) }

    line_later : (c : Ordering) → c ≡ Ordering.Greater → EntriesCompared A B i X c → LinesCompared A B i X false
    unfolding ComparesAs
    line_later c e x =
        let y : EntriesCompared A B i X Ordering.Greater = rw e at x in
        record {
          exact = by_entries (λ l m. ¬ Less l m)
              (λ o q l m s t k. less_irrefl (o ∷ l) (less_trans (o ∷ l) (q ∷ m) (o ∷ l) k (inl (y.exact o q l m s t))));
        }

    says_next : (o q : Option Term) (l m : Line) (r : Bool) → o ≡ q → Says r (Less l m) → Says r (Less (o ∷ l) (q ∷ m))
    says_next o q l m true e k = inr (e, k)
    says_next o q l m false e k = ⊎_elim (λ (z : Before o q). less_irrefl (o ∷ []) (inl (subst (Before o) (sym e) z))) (λ z. k z.1)

    line_next : (c : Ordering) (r : Bool) → c ≡ Ordering.Equal → EntriesCompared A B i X c → LinesCompared A B (i + 1) X r
        → LinesCompared A B i X r
    unfolding ComparesAs
    line_next c r e x k =
        let y : EntriesCompared A B i X Ordering.Equal = rw e at x in
        record {
          exact = by_entries (λ l m. Says r (Less l m))
              (λ o q l m s t. says_next o q l m r (y.exact o q l m s t)
              (k.exact l m (next_standing A i X o l s) (next_standing B i X q m t)));
        }

    comparable_next : LinesComparable A B i X → LinesComparable A B (i + 1) X
    comparable_next x = go x.one x.two x.left x.right
      where
        go : (l m : Line) → Standing A i X l → Standing B i X m → LinesComparable A B (i + 1) X
        go = by_entries (λ l m. LinesComparable A B (i + 1) X) (λ o q l m s t. record {
          one = l;
          two = m;
          left = next_standing A i X o l s;
          right = next_standing B i X q m t;
          most = omega arith;
          left_whole = x.left_whole;
          right_whole = x.right_whole;
        })

-- the bytes of lines
module _ (X A : List ℕ) (l : Line) (x : Laid X A l) where
  pub laid_length : length A ≡ 4 * variables + length x.rest
  laid_length =
      omega (arith, ap length x.line, length-append (line_bytes x.first l) x.rest, line_bytes_length x.first l, x.entries)

  pub laid_first : take (4 * variables) A ≡ line_bytes x.first l
  laid_first = ap (take (4 * variables)) x.line
      ∙ take_at (line_bytes x.first l) x.rest (4 * variables) (omega (arith, line_bytes_length x.first l, x.entries))

  pub laid_rest : drop (4 * variables) A ≡ x.rest
  laid_rest = ap (drop (4 * variables)) x.line
      ∙ drop_at (line_bytes x.first l) x.rest (4 * variables) (omega (arith, line_bytes_length x.first l, x.entries))

  pub laid_standing : Standing A 0 X l
  laid_standing = record {
    entries = omega (arith, x.entries);
    whole = omega (arith, laid_length);
    first = x.first;
    rest = x.rest;
    behind = x.behind;
    bytes = x.line;
    values = x.stand;
    within = x.within;
  }

pub lines_length : (X A : List ℕ) (ls : List Line) → Lines X A ls → length A ≡ 4 * variables * length ls
lines_length X A [] e = ap length e
lines_length X A (l ∷ ls) (x, r) = omega (arith, laid_length X A l x, lines_length X x.rest ls r)

-- the first of two lists of lines
module _ (A B X : List ℕ) where
  begin_comparable : TwoLines A B X → LinesComparable A B 0 X
  begin_comparable x =
      let p = laid_standing X A x.one x.left in
      let q = laid_standing X B x.two x.right in
      record { one = x.one; two = x.two; left = p; right = q; most = omega arith; left_whole = p.whole; right_whole = q.whole }

  compared_ordered : (r : Bool) → LinesCompared A B 0 X r → Ordered A B X r
  compared_ordered r h = record { exact = λ l m x y. h.exact l m (laid_standing X A l x) (laid_standing X B m y) }

  -- the entries before variable i are the same, so that the others decide
  pub record Undecided (i : ℕ) : Type 0 where
    pub comparable : LinesComparable A B i X
    pub decides : (r : Bool) → LinesCompared A B i X r → Ordered A B X r

  pub undecided_start : TwoLines A B X → Undecided 0
  undecided_start x = record { comparable = begin_comparable x; decides = compared_ordered }

  module _ (i : ℕ) (x : Undecided i) where
    module _ (h : i < variables) (c : Ordering) (y : EntriesCompared A B i X c) where
      pub decided_earlier : c ≡ Ordering.Less → Ordered A B X true
      decided_earlier e = x.decides true (line_earlier A B i X h c e y)

      pub decided_later : c ≡ Ordering.Greater → Ordered A B X false
      decided_later e = x.decides false (line_later A B i X h c e y)

      pub undecided_next : c ≡ Ordering.Equal → Undecided (i + 1)
      undecided_next e = record {
        comparable = comparable_next A B i X h x.comparable;
        decides = λ r z. x.decides r (line_next A B i X h c r e y z);
      }

  pub begin : (ls ms : List Line) → Lines X A ls → Lines X B ms → ¬ (length A ≡ 0) → ¬ (length B ≡ 0) → TwoLines A B X
  begin [] ms x y h g = absurd (h (ap length x))
  begin (l ∷ ls) [] x y h g = absurd (g (ap length y))
  begin (l ∷ ls) (m ∷ ms) x y h g = record { one = l; two = m; left = x.0; right = y.0 }
