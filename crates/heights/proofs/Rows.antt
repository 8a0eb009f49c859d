-- The row of terms that stand behind a record of a table, one behind another, and their heights. A record's term stands in the row at its
-- place; in the row behind it stand its parts instead. Assumes nothing.
use mathlib.Core.Path.{◌≡◌, refl, sym, ap, ap₂, ◌∙◌, subst}
use mathlib.Core.List.{List, [], ◌∷◌, ◌++◌, append_assoc, append-nil}
use Prim.Native.Nat.{ℕ, zero, suc, ◌+◌, ◌-◌, ◌*◌, ◌/◌, ◌≤◌, ◌<◌, max}
use native.Mathlib.Omega.{arith}
use lib.ListN.{length, get_or, take, drop, set, length-append, length-drop, length-set, drop_of_length-le, get_or-eq_default}
use lib.Seq.{sets, get_or-set_same, set_comm, set_split, drop-drop, drop_at, get_or-drop, length-take-le}
use Rattle.terms.specs.Figures.{value_records}
use Rattle.terms.specs.Term.{Term, app, lam, loc, con, var}
use Rattle.terms.specs.Table.{encode}
use Rattle.terms.proofs.Table.{kind, encode_length}
use Rattle.records.specs.Record.{parts, number_at}
use Rattle.records.specs.Parts.{Part}
use Rattle.records.proofs.Parts.{children, tables, tables_append, encode_first, part, part_one, kind_at, number_at_lem, at_start}
use Rattle.records.proofs.Parts.{application, abstraction}
use Rattle.heights.specs.Heights.{height, heights, HeightSource, part_heights, RowBehind, HeightOf}
use Rattle.heights.proofs.Heights.{height_application, height_abstraction}

-- the parts' heights are as many as a first record of its kind has parts
part_heights_length : (t : Term) → length (part_heights t) ≡ parts (kind t)
part_heights_length (app f a) = refl
part_heights_length (lam b) = refl
part_heights_length (loc n) = refl
part_heights_length (con n) = refl
part_heights_length (var n) = refl

-- where the row begins, by the kind of the record before it
pub first_application : (b first : ℕ) → b ≡ 0 → first + 1 ≡ first + parts b - 1
first_application b first e = omega (arith, ap parts e)

pub first_abstraction : (b first : ℕ) → b ≡ 1 → first ≡ first + parts b - 1
first_abstraction b first e = omega (arith, ap parts e)

pub first_other : (s : List ℕ) (at first : ℕ) (t : Term) → Part s at t → ¬ (get_or s at 0 ≡ 0) → ¬ (get_or s at 0 ≡ 1)
    → first - 1 ≡ first + parts (get_or s at 0) - 1
first_other s at first (app f a) x m n = absurd (m (kind_at s at (app f a) x))
first_other s at first (lam b) x m n = absurd (n (kind_at s at (lam b) x))
first_other s at first (loc k) x m n = omega (arith, ap parts (kind_at s at (loc k) x))
first_other s at first (con k) x m n = omega (arith, ap parts (kind_at s at (con k) x))
first_other s at first (var k) x m n = omega (arith, ap parts (kind_at s at (var k) x))

-- the height of a term, by its first record
module _ (l : List ℕ) (at : ℕ) where
  pub local_height : (n : ℕ) → get_or l at 0 ≡ 2 → n ≡ number_at l at → HeightOf l at (n + 1)
  local_height n k e (app f a) x = absurd (omega (arith, kind_at l at (app f a) x))
  local_height n k e (lam b) x = absurd (omega (arith, kind_at l at (lam b) x))
  local_height n k e (loc m) x = omega (arith, number_at_lem l at (loc m) x)
  local_height n k e (con m) x = absurd (omega (arith, kind_at l at (con m) x))
  local_height n k e (var m) x = absurd (omega (arith, kind_at l at (var m) x))

  pub other_height : ¬ (get_or l at 0 ≡ 0) → ¬ (get_or l at 0 ≡ 1) → ¬ (get_or l at 0 ≡ 2) → HeightOf l at 0
  other_height m n o (app f a) x = absurd (m (kind_at l at (app f a) x))
  other_height m n o (lam b) x = absurd (n (kind_at l at (lam b) x))
  other_height m n o (loc k) x = absurd (o (kind_at l at (loc k) x))
  other_height m n o (con k) x = refl
  other_height m n o (var k) x = refl

-- the height of a term, by its first record and by what the row behind that begins with
module _ (s : List ℕ) (at next : ℕ) (row : List ℕ) (first : ℕ) (x : RowBehind s at next row first) where
  row_room : (n : ℕ) → n ≡ parts (get_or s at 0) → first + n ≤ length row
  row_room n e =
      omega (arith, x.room, part_heights_length x.tree, ap parts (kind_at s at x.tree x.part))

  height_of : (h : ℕ) → h ≡ height x.tree → HeightOf s at h
  height_of h e t y = e ∙ ap height (part_one s at x.tree t x.part y)

  -- what the row begins with, by its index there
  begins : (t : Term) → x.tree ≡ t → (i j : ℕ) → first + i ≡ j → get_or row j 0 ≡ get_or (part_heights t ++ x.rest) i 0
  begins t p i j e = ap (λ (k : ℕ). get_or row k 0) (sym e) ∙ sym (get_or-drop first row i 0) ∙ ap (λ (l : List ℕ). get_or l i 0) x.begins
      ∙ ap (λ (u : Term). get_or (part_heights u ++ x.rest) i 0) p

  pub application_height : get_or s at 0 ≡ 0 → (h : ℕ) → h ≡ max next (get_or row (first + 1) 0) → HeightOf s at h
  application_height k h e =
      let v = application s at x.tree x.part k in
      height_of h (e ∙ ap₂ max (x.front ∙ begins _ v.is 0 first (omega arith)) (begins _ v.is 1 (first + 1) refl)
      ∙ sym (ap height v.is ∙ height_application v.f v.a))

  pub abstraction_height : get_or s at 0 ≡ 1 → (h : ℕ) → h ≡ next - 1 → HeightOf s at h
  abstraction_height k h e =
      let v = abstraction s at x.tree x.part k in
      height_of h (e ∙ ap (◌- 1) (x.front ∙ begins _ v.is 0 first (omega arith)) ∙ sym (ap height v.is ∙ height_abstraction v.b))

-- the row that stands from record i of a term's table on
abbrev opened : List Term → List Term
opened [] = []
opened (t ∷ ts) = children t ++ ts

abbrev pub row_at : Term → ℕ → List Term
row_at t zero = t ∷ []
row_at t (suc i) = opened (row_at t i)

-- the height of each term of a row, and the heights of all their parts
abbrev pub each : List Term → List ℕ
each [] = []
each (t ∷ ts) = height t ∷ each ts

abbrev pub all : List Term → List ℕ
all [] = []
all (t ∷ ts) = heights t ++ all ts

each_opened : (t : Term) (ts : List Term) → each (children t ++ ts) ≡ part_heights t ++ each ts
each_opened (app f a) ts = refl
each_opened (lam b) ts = refl
each_opened (loc n) ts = refl
each_opened (con n) ts = refl
each_opened (var n) ts = refl

all_opened : (t : Term) (ts : List Term) → heights t ++ all ts ≡ height t ∷ all (children t ++ ts)
all_opened (app f a) ts = ap (height (app f a) ∷◌) (append_assoc (heights f) (heights a) (all ts))
all_opened (lam b) ts = refl
all_opened (loc n) ts = refl
all_opened (con n) ts = refl
all_opened (var n) ts = refl

tables_opened : (ts : List Term) → tables (opened ts) ≡ drop 4 (tables ts)
tables_opened [] = refl
tables_opened (t ∷ ts) = tables_append (children t) ts ∙ ap (λ (l : List ℕ). drop 4 (l ++ tables ts)) (sym (encode_first t))

row_tables : (t : Term) (i : ℕ) → tables (row_at t i) ≡ drop (4 * i) (encode t)
row_tables t zero = append-nil (encode t)
row_tables t (suc i) =
    let e : 4 * i + 4 ≡ 4 * suc i = omega arith in
    tables_opened (row_at t i) ∙ ap (drop 4) (row_tables t i) ∙ drop-drop 4 (4 * i) (encode t)
    ∙ ap (λ (k : ℕ). drop k (encode t)) e

-- the heights of a row: each is above that of the whole by at most the number of records before
abbrev Low : ℕ → List Term → Type 0
Low n [] = Unit {0}
Low n (t ∷ ts) = (height t ≤ n) × Low n ts

low_more : (n : ℕ) (ts : List Term) → Low n ts → Low (suc n) ts
low_more n [] x = tt
low_more n (t ∷ ts) x = (omega (arith, x.0), low_more n ts x.1)

low_opened : (n : ℕ) (ts : List Term) → Low n ts → Low (suc n) (opened ts)
low_opened n [] x = tt
low_opened n (app f a ∷ ts) x =
    let h = height_application f a in
    (omega (arith, x.0), (omega (arith, x.0), low_more n ts x.1))
low_opened n (lam b ∷ ts) x = (omega (arith, x.0, height_abstraction b), low_more n ts x.1)
low_opened n (loc m ∷ ts) x = low_more n ts x.1
low_opened n (con m ∷ ts) x = low_more n ts x.1
low_opened n (var m ∷ ts) x = low_more n ts x.1

row_low : (t : Term) (i : ℕ) → Low (height t + i) (row_at t i)
row_low t zero = (omega arith, tt)
row_low t (suc i) = subst (λ (n : ℕ). Low n (row_at t (suc i))) (omega arith) (low_opened (height t + i) (row_at t i) (row_low t i))

-- a term stands at each record of a table, and none behind the last
module _ (s : List ℕ) (t : Term) (e : s ≡ encode t) (i : ℕ) where
  record First : Type 0 where
    term : Term
    rest : List Term
    row : row_at t i ≡ term ∷ rest
    stands : Part s (4 * i) term
    low : height term ≤ height t + i

  row_bytes : drop (4 * i) s ≡ tables (row_at t i)
  row_bytes = ap (drop (4 * i)) e ∙ sym (row_tables t i)

  row_first : 4 * i < length s → First
  row_first h = go (row_at t i) refl
    where
      go : (ts : List Term) → row_at t i ≡ ts → First
      go [] r = absurd (omega (arith, ap length (row_bytes ∙ ap tables r), length-drop (4 * i) s))
      go (u ∷ us) r = record {
        term = u;
        rest = us;
        row = r;
        stands = part s (4 * i) u (tables us) (row_bytes ∙ ap tables r);
        low = (subst (Low (height t + i)) r (row_low t i)).0;
      }

  row_last : length s ≤ 4 * i → row_at t i ≡ []
  row_last h = go (row_at t i) refl
    where
      go : (ts : List Term) → row_at t i ≡ ts → row_at t i ≡ []
      go [] r = r
      go (u ∷ us) r =
          let p = part s (4 * i) u (tables us) (row_bytes ∙ ap tables r) in
          absurd (omega (arith, p.some, p.within))

-- the heights of the terms from record i on are written, and of the row there each is kept from index first on, where next stands
pub record Passed (s l : List ℕ) (i next first : ℕ) (w o : List ℕ) : Type 0 where
  pub source : HeightSource s
  pub within : 4 * i ≤ length s
  pub left : i ≤ first
  pub room : length w ≡ value_records
  pub top : first ≤ value_records
  pub row : drop first w ≡ each (row_at source.tree i)
  pub front : next ≡ get_or w first 0
  pub written : o ≡ sets l i (all (row_at source.tree i))

-- a height put before others that are written
set_before : (vs l : List ℕ) (i j h : ℕ) → i < j → set (sets l j vs) i h ≡ sets (set l i h) j vs
set_before [] l i j h p = refl
set_before (v ∷ vs) l i j h p =
    set_before vs (set l j v) i (suc j) h (omega arith)
    ∙ ap (λ (m : List ℕ). sets m (suc j) vs) (set_comm l j i v h (λ e. omega arith))

drop_set : (l : List ℕ) (i h : ℕ) → i < length l → drop i (set l i h) ≡ h ∷ drop (suc i) l
drop_set l i h p =
    ap (drop i) (set_split l i h p) ∙ drop_at (take i l) (h ∷ drop (suc i) l) i (length-take-le i l (omega arith))

pub passed_start : (s l w : List ℕ) (i next first : ℕ) → HeightSource s → i ≡ length s / 4 → next ≡ 0 → first ≡ value_records
    → length w ≡ value_records → Passed s l i next first w l
passed_start s l w i next first x e z f g =
    let n = encode_length x.tree in
    let m = ap length x.table in
    let r : row_at x.tree i ≡ [] = row_last s x.tree x.table i (omega arith) in
    record {
      source = x;
      within = omega arith;
      left = omega (arith, x.few);
      room = g;
      top = omega arith;
      row = drop_of_length-le w {i = first} (omega arith) ∙ ap each (sym r);
      front = z ∙ sym (get_or-eq_default w 0 (omega arith));
      written = ap (λ (ts : List Term). sets l i (all ts)) (sym r);
    }

module _ (s l : List ℕ) (i next first : ℕ) (w o : List ℕ) (x : Passed s l i next first w o) where
  pub passed_all : i ≤ 0 → (t : Term) → s ≡ encode t → o ≡ sets l 0 (heights t)
  passed_all z t e =
      let n : i ≡ 0 = omega arith in
      let q : x.source.tree ≡ t =
      part_one s 0 _ t (at_start s _ x.source.table) (at_start s t e) in
      x.written ∙ ap₂ (λ (k : ℕ) (u : Term). sets l k (all (row_at u k))) n q ∙ ap (sets l 0) (append-nil (heights t))

  -- one record further to the front
  module _ (p : 0 < i) where
    behind_first : (u : First s x.source.tree x.source.table (i - 1))
        → drop first w ≡ part_heights u.term ++ each u.rest
    behind_first u =
        let e : i ≡ suc (i - 1) = omega arith in
        x.row ∙ ap (λ (k : ℕ). each (row_at x.source.tree k)) e ∙ ap (λ (ts : List Term). each (opened ts)) u.row
        ∙ each_opened u.term u.rest

    pub passed_behind : RowBehind s (4 * (i - 1)) next w first
    passed_behind =
        let u = row_first s x.source.tree x.source.table (i - 1) (omega (arith, x.within)) in
        record {
          tree = u.term;
          part = u.stands;
          least = omega (arith, x.within);
          low = omega (arith, u.low, x.source.low, ap length x.source.table, encode_length x.source.tree);
          rest = each u.rest;
          begins = behind_first u;
          room = omega (
            arith,
            x.top,
            x.room,
            ap length (behind_first u),
            length-append (part_heights u.term) (each u.rest),
            length-drop first w,
          );
          front = x.front;
          before = omega (arith, x.left);
        }

    pub passed_room : (f : ℕ) → f ≡ first + parts (get_or s (4 * (i - 1)) 0) - 1 → f < value_records
    passed_room f e =
        omega (arith, e, row_room s (4 * (i - 1)) next w first passed_behind (parts (get_or s (4 * (i - 1)) 0)) refl, x.room, x.left)

    abbrev n : ℕ
    n = parts (get_or s (4 * (i - 1)) 0)

    stepped : (h : ℕ) → HeightOf s (4 * (i - 1)) h → Passed s l (i - 1) h (first + n - 1) (set w (first + n - 1) h) (set o (i - 1) h)
    stepped h y =
        let u = row_first s x.source.tree x.source.table (i - 1) (omega (arith, x.within)) in
        let j : i ≡ suc (i - 1) = omega arith in
        let b = behind_first u in
        let g : h ≡ height u.term = y u.term u.stands in
        let m : length (part_heights u.term) ≡ n =
        part_heights_length u.term ∙ ap parts (sym (kind_at s (4 * (i - 1)) u.term u.stands)) in
        let r = passed_room (first + n - 1) refl in
        let f : suc (first + n - 1) ≡ first + n = omega (arith, x.left) in
        record {
          source = x.source;
          within = omega (arith, x.within);
          left = omega (arith, x.left);
          room = length-set w (first + n - 1) h ∙ x.room;
          top = omega arith;
          row = drop_set w (first + n - 1) h (omega (arith, x.room)) ∙ ap₂ ◌∷◌ g (ap (λ (k : ℕ). drop k w) f ∙ sym (drop-drop n first w)
              ∙ ap (drop n) b ∙ drop_at (part_heights u.term) (each u.rest) n m) ∙ ap each (sym u.row);
          front = sym (get_or-set_same w (first + n - 1) h 0 (omega (arith, x.room)));
          written = ap (λ (k : List ℕ). set k (i - 1) h) (x.written
              ∙ ap (λ (k : ℕ). sets l k (all (row_at x.source.tree k))) j
              ∙ ap (λ (ts : List Term). sets l (suc (i - 1)) (all (opened ts))) u.row)
              ∙ set_before (all (children u.term ++ u.rest)) l (i - 1) (suc (i - 1)) h (omega arith)
              ∙ ap (sets l (i - 1)) (ap (◌∷ all (children u.term ++ u.rest)) g ∙ sym (all_opened u.term u.rest)
              ∙ ap all (sym u.row));
        }

    pub passed_step : (h f : ℕ) → HeightOf s (4 * (i - 1)) h → f ≡ first + parts (get_or s (4 * (i - 1)) 0) - 1
        → Passed s l (i - 1) h f (set w f h) (set o (i - 1) h)
    passed_step h f y e = subst (λ (k : ℕ). Passed s l (i - 1) h k (set w k h) (set o (i - 1) h)) (sym e) (stepped h y)
