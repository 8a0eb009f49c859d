-- Arranging a listing: the tables of lines are lines whose values stand together, and once such lines are in order, laying out their values
-- makes their tables. By induction on the lines, and from what sorting and laying out leave. Assumes nothing.
use mathlib.Core.Path.{◌≡◌, refl, sym, ap, ◌∙◌, subst}
use mathlib.Core.List.{List, [], ◌∷◌, ◌++◌}
use mathlib.Core.Logic.{inl, inr}
use Prim.Native.Nat.{ℕ, ◌+◌, ◌-◌, ◌*◌, ◌≤◌}
use native.Mathlib.Omega.{arith}
use lib.ListN.{length, take, drop, length-append, length-drop}
use lib.Seq.{drop-drop, drop_at, take_at, length-take-le}
use Rattle.terms.specs.Figures.{variables}
use Rattle.terms.specs.Listing.{Line}
use Rattle.terms.specs.Layout.{line_value_records, line_values, line_table, values_records, value_table}
use Rattle.terms.specs.Members.{Distinct}
use Rattle.listing.specs.Outcome.{Lines, Tables}
use Rattle.arranging.specs.Arranged.{Sorted, Arranges, Arranged}
use Rattle.arranging.specs.Laying.{LayOut, LaidOut}
use Rattle.arranging.specs.Order.{Sorts, InOrder}
use Rattle.listing.proofs.Writers.{line_values_length}
use Rattle.listing.proofs.Stores.{Entire, line_table_length, value_table_length}
use Rattle.arranging.proofs.Comparing.{lines_length}

-- a line table is lines whose values stand together
table_lines : (values : List ℕ) (k : ℕ) (ls : List Line) → Entire ls → drop (4 * k) values ≡ value_table ls
    → 4 * (k + values_records ls) ≤ length values → Lines values (line_table k ls) ls
table_lines values k [] e d h = refl
table_lines values k (l ∷ ls) e d h =
    let j : 4 * k + 4 * line_value_records l ≡ 4 * (k + line_value_records l) = omega arith in (
      record {
        first = k;
        rest = line_table (k + line_value_records l) ls;
        behind = value_table ls;
        line = refl;
        stand = d;
        within = omega arith;
        entries = e l (inl refl);
      },
      table_lines values (k + line_value_records l) ls (λ m p. e m (inr p))
          (ap (λ (i : ℕ). drop i values) (sym j) ∙ sym (drop-drop (4 * line_value_records l) (4 * k) values)
          ∙ ap (drop (4 * line_value_records l)) d
          ∙ drop_at (line_values l) (value_table ls) (4 * line_value_records l) (line_values_length l))
          (omega arith),
    )

-- the first bytes of the tables
module _ (lines values : List ℕ) (count records : ℕ) (ls : List Line) (t : Tables lines values ls) (c : count ≡ length ls)
    (r : records ≡ values_records ls) where
  lines_first : take (4 * variables * count) lines ≡ line_table 0 ls
  lines_first =
      let n = line_table_length 0 ls t.entries in
      ap (take (4 * variables * count)) t.lines_begin
      ∙ take_at (line_table 0 ls) (drop (4 * variables * length ls) lines) (4 * variables * count) (omega arith)

  values_first : take (4 * records) values ≡ value_table ls
  values_first =
      let n = value_table_length ls in
      ap (take (4 * records)) t.values_begin ∙ take_at (value_table ls) (drop (4 * values_records ls) values) (4 * records) (omega arith)

  pub lines_room : 4 * variables * count ≤ length lines
  lines_room =
      omega (
        arith,
        ap length t.lines_begin ∙ length-append (line_table 0 ls) (drop (4 * variables * length ls) lines),
        line_table_length 0 ls t.entries,
        length-drop (4 * variables * length ls) lines,
      )

  pub values_room : 4 * records ≤ length values
  values_room =
      omega (
        arith,
        ap length t.values_begin ∙ length-append (value_table ls) (drop (4 * values_records ls) values),
        value_table_length ls,
        length-drop (4 * values_records ls) values,
      )

  pub tables_lines : Lines (take (4 * records) values) (take (4 * variables * count) lines) ls
  tables_lines =
      let n : 4 * (0 + values_records ls) ≤ length (take (4 * records) values) =
      omega (arith, length-take-le (4 * records) values values_room) in
      subst (λ (y : List ℕ). Lines (take (4 * records) values) y ls) (sym lines_first)
      (table_lines (take (4 * records) values) 0 ls t.entries values_first n)

-- sorting the first bytes, and laying out
module _ (lines values : List ℕ) (count records : ℕ) (work : List ℕ) (x : Arranges lines values count records work) where
  pub arranges_rooms : (4 * variables * count ≤ length lines) × (4 * records ≤ length values)
  arranges_rooms = (
    lines_room lines values count records x.found x.tables x.lines_are x.records_are,
    values_room lines values count records x.found x.tables x.lines_are x.records_are,
  )

  module _ (m n : ℕ) (e : m ≡ 4 * variables * count) (f : n ≡ 4 * records) where
    lines_taken : take (m - 0) lines ≡ take (4 * variables * count) lines
    lines_taken = let z : m - 0 ≡ 4 * variables * count = omega arith in ap (λ (k : ℕ). take k lines) z

    values_taken : take (n - 0) values ≡ take (4 * records) values
    values_taken = let z : n - 0 ≡ 4 * records = omega arith in ap (λ (k : ℕ). take k values) z

    listed : (ls : List Line) → Tables lines values ls → count ≡ length ls → records ≡ values_records ls
        → Lines (take (n - 0) values) (take (m - 0) lines) ls
    listed ls t c r = rw (lines_taken, values_taken) (tables_lines lines values count records ls t c r)

    pub sort_needs : Sorts (take (m - 0) lines) (take (n - 0) values) work
    sort_needs =
        let l = listed x.found x.tables x.lines_are x.records_are in
        let k = length-take-le (m - 0) lines (omega (arith, arranges_rooms.0)) in
        record {
          some = x.found;
          lines = l;
          whole = lines_length (take (n - 0) values) (take (m - 0) lines) x.found l;
          distinct = x.distinct;
          room = omega (arith, k, arranges_rooms.0, x.lines_most, x.area);
        }

    -- after sorting: the lines in order, and the bytes behind them as they were
    module _ (sorted post : List ℕ) (l : length sorted ≡ length (take (m - 0) lines)) (p : post ≡ drop (m - 0) lines)
        (y : InOrder (take (m - 0) lines) (take (n - 0) values) sorted) where
      long : length sorted ≡ 4 * variables * count
      long = omega (arith, l, length-take-le (m - 0) lines (omega (arith, arranges_rooms.0)))

      in_order : (ls : List Line) → Tables lines values ls → Distinct ls → count ≡ length ls → records ≡ values_records ls
          → (ms : List Line) × Sorted ls ms × Lines (take (4 * records) values) (take (4 * variables * count) (sorted ++ post)) ms
      in_order ls t d c r =
          let z = y.sorted ls (listed ls t c r) d in
          (z.0, z.1, rw (take_at sorted post (4 * variables * count) long) (rw values_taken at z.2))

      pub lay_needs : (area : List ℕ) → length area ≡ length work → LayOut (sorted ++ post) count values records area
      lay_needs area a =
          let z = in_order x.found x.tables x.distinct x.lines_are x.records_are in
          record {
            order = z.0;
            laid = z.2;
            records_are = x.records_are ∙ sym z.1.records;
            room = omega (arith, length-append sorted post, long);
            values_room = arranges_rooms.1;
            values_most = x.values_most;
            area = a ∙ x.area;
          }

      pub arranged : (q w : List ℕ) → LaidOut (sorted ++ post) count values records q w → Arranged lines values count records q w
      arranged q w o = record {
        arranged = λ ls t d c r.
            let z = in_order ls t d c r in
            let j : m - 0 ≡ 4 * variables * length ls = omega arith in
            let b : drop (4 * variables * count) (sorted ++ post) ≡ drop (4 * variables * length ls) lines =
            drop_at sorted post (4 * variables * count) long ∙ p ∙ ap (λ (k : ℕ). drop k lines) j in
            record {
              order = z.0;
              sorted = z.1;
              lines_begin = o.bytes z.0 z.2 ∙ ap (line_table 0 z.0 ++◌) b;
              values_begin = o.copied z.0 z.2 (r ∙ sym z.1.records) ∙ ap (λ (k : ℕ). value_table z.0 ++ drop (4 * k) values) r;
            };
      }
