-- A search decides whether the full listing has room, and what it has written becomes that listing once it is in order. Lines that list the
-- matches are those of the one full listing in some order, so that their number and their records are its own. Assumes nothing.
use mathlib.Core.Path.{◌≡◌, refl, sym, ap, ap₂, ◌∙◌, subst, subst₂}
use mathlib.Core.List.{List, ◌++◌}
use mathlib.Core.Logic.{inl, inr}
use Prim.Native.Nat.{ℕ, ◌+◌, ◌-◌, ◌*◌, ◌≤◌, ◌<◌}
use native.Mathlib.Omega.{arith}
use lib.ListN.{length, take, drop}
use lib.Seq.{sets, sets-eq, drop_at, take_at}
use Rattle.std.specs.declared.result.Result.{Result}
use Rattle.std.specs.declared.result.Result.TheVariants.{Ok, Err}
use Rattle.terms.specs.Figures.{variables}
use Rattle.terms.specs.Term.{Term, Occurs}
use Rattle.terms.specs.Listing.{In, Line, Full}
use Rattle.terms.specs.Layout.{line_value_records, line_table, values_records, value_table}
use Rattle.terms.specs.Refusal.{Passed, OccursIn, listing_rows}
use Rattle.terms.specs.Members.{Distinct}
use Rattle.terms.proofs.Table.{encode_one}
use Rattle.terms.proofs.Order.{sort, rising_same, found_total}
use Rattle.matching.specs.Lists.{Predicate, Lists}
use Rattle.matching.specs.Goals.{Sweeps}
use Rattle.matching.proofs.Lists.{lists_more}
use Rattle.matching.proofs.Unique.{lists_members, lists_length}
use Rattle.matching.proofs.Partial.{lists_full}
use Rattle.matching.proofs.Listing.{full_sort}
use Rattle.records.specs.Checks.{Pattern, Recipe}
use Rattle.listing.specs.declared.Tally.{Tally}
use Rattle.listing.specs.Outcome.{Outcome, none_found, outcome, Tables}
use Rattle.arranging.specs.Arranged.{InLineOrder, Arranges, Arranged}
use Rattle.listing.proofs.Stores.{stores_count, stores_records, stores_lengths, stores_begin, line_table_length, value_table_length}
use Rattle.search.specs.Collected.{Tallied, Collected}
use Rattle.refusals.specs.declared.Refusal.{Refusal}
use Rattle.refusals.specs.Judged.{number}
use Rattle.enumeration.specs.Written.{lent_lines, lent_records, ListingOf, WrittenLines, NoRoom, Enumerated}
use Rattle.enumeration.specs.Steps.{ListTables, Copyable, Copied, CopiedIf}

-- a full listing of p and t fits the tables l and s
pub record Room (p t l s : List ℕ) : Type 0 where
  pub lines : List Line
  pub listing_of : ListingOf p t lines
  pub fits : Passed (listing_rows (lent_lines l) (lent_records s) lines)

-- lines that are found, none twice, have no more records than all
found_records : (ls ms : List Line) → Distinct ls → ((x : Line) → In x ls → In x ms) → values_records ls ≤ values_records ms
found_records = found_total line_value_records values_records refl (λ l ls. refl)

lists_records : (n : ℕ) (S : ℕ → Type 0) (Q : Predicate) (ls ms : List Line) → Lists n S Q ls → Lists n S Q ms
    → values_records ls ≡ values_records ms
lists_records n S Q ls ms x y =
    omega (
      arith,
      found_records ls ms x.distinct (lists_members n S Q ls ms x y),
      found_records ms ls y.distinct (lists_members n S Q ms ls y x),
    )

module _ (p t : List ℕ) (a : Pattern p) (b : Recipe t) where
  abbrev x : Term
  x = a.tree

  abbrev y : Term
  y = b.tree

  abbrev Listing : List Line → Type 0
  Listing ls = Lists variables (λ i. Occurs i x) (Sweeps x y) ls

  lists_occurs : (ls : List Line) → Lists variables (OccursIn p) (Sweeps x y) ls → Listing ls
  lists_occurs ls h =
      lists_more variables (λ i. Occurs i x) (OccursIn p) (Sweeps x y) ls
      (λ i o. subst (Occurs i) (encode_one o.0 x (sym o.1.0 ∙ a.table.0)) o.2) h

  listing_of : (ls : List Line) → Full variables x y ls → ListingOf p t ls
  listing_of ls f = record { pattern_term = x; recipe_term = y; pattern_table = a.table; recipe_table = b.table; full = f }

  full_of : (ls : List Line) → ListingOf p t ls → Full variables x y ls
  full_of ls f =
      subst₂ (λ (u v : Term). Full variables u v ls)
      (encode_one f.pattern_term x (sym f.pattern_table.0 ∙ a.table.0))
      (encode_one f.recipe_term y (sym f.recipe_table.0 ∙ b.table.0)) f.full

  lists_of : (ls : List Line) → ListingOf p t ls → Listing ls
  lists_of ls f = lists_full variables x y a.below ls (full_of ls f)

  -- a search with any tables, whose limit is at most the lines that are lent
  module _ (m₀ q₀ : List ℕ) (limit : ℕ) (m q : List ℕ) (n : Tally) (c : Collected p t limit m₀ q₀ m q n) where
    tallied : Tallied p (Sweeps x y) limit (outcome m₀ q₀ none_found) (outcome m q n)
    tallied = c.answer x y a.table.0 b.table.0

    abbrev found : List Line
    found = tallied.lines

    listed : Listing found
    listed = lists_occurs found tallied.lists

    abbrev order : List Line
    order = sort found

    ordered : ListingOf p t order
    ordered = listing_of order (full_sort variables x y a.below found listed)

    order_length : length order ≡ length found
    order_length = lists_length variables (λ i. Occurs i x) (Sweeps x y) order found (lists_of order ordered) listed

    order_records : values_records order ≡ values_records found
    order_records = lists_records variables (λ i. Occurs i x) (Sweeps x y) order found (lists_of order ordered) listed

    pub no_lines : (l s : List ℕ) → limit ≡ lent_lines l → limit < n.lines → Enumerated p t l s (Err Refusal.LineRoom) l s
    unfolding Enumerated
    no_lines l s e h =
        (record { lines = order; listing_of = ordered; cause = inl (omega (arith, tallied.over h, order_length), refl) }, refl, refl)

    module _ (h : n.lines ≤ limit) where
      lines_are : n.lines ≡ length found
      lines_are = omega (arith, ap (λ (o : Outcome). o.count) (tallied.exact h), stores_count (outcome m₀ q₀ none_found) found)

      records_are : n.records ≡ values_records found
      records_are = omega (arith, ap (λ (o : Outcome). o.records) (tallied.exact h), stores_records (outcome m₀ q₀ none_found) found)

      module _ (l s : List ℕ) (e : limit ≤ lent_lines l) where
        suffice : ¬ (lent_lines l < length order)
        suffice k = omega (arith, lines_are, order_length)

        no_records : lent_records s < n.records → Enumerated p t l s (Err Refusal.ValueRoom) l s
        unfolding Enumerated
        no_records k = (
          record { lines = order; listing_of = ordered; cause = inr (suffice, inl (omega (arith, records_are, order_records), refl)) },
          refl,
          refl,
        )

        fits_room : n.records ≤ lent_records s → Room p t l s
        fits_room k = record { lines = order; listing_of = ordered; fits = (suffice, (λ j. omega (arith, records_are, order_records), tt)) }

      -- what it has written, where all lines fit
      module _ (i : 4 * variables * n.lines ≤ length m₀) (j : 4 * n.records ≤ length q₀) where
        tables : Tables m q found
        tables =
            subst (λ (o : Outcome). Tables o.lines o.values found) (sym (tallied.exact h))
            (stores_begin m₀ q₀ found listed.entries (omega (arith, lines_are)) (omega (arith, records_are)))

        lengths : (length m ≡ length m₀) × (length q ≡ length q₀)
        lengths =
            let n = stores_lengths (outcome m₀ q₀ none_found) found in (
              ap (λ (o : Outcome). length o.lines) (tallied.exact h) ∙ n.0,
              ap (λ (o : Outcome). length o.values) (tallied.exact h) ∙ n.1,
            )

        pub copyable : (l s w : List ℕ) → 4 * variables * n.lines ≤ length l → 4 * n.records ≤ length s → ListTables p t l s w
            → Copyable n m q l s w
        copyable l s w u v z = record {
          found = found;
          tables = tables;
          distinct = listed.distinct;
          lines_are = lines_are;
          records_are = records_are;
          from = (omega (arith, lengths.0), omega (arith, lengths.1));
          room = (u, v);
          most = (z.lines_most, z.values_most);
          area = z.area;
        }

      -- the lines in order are the full listing
      module _ (l s : List ℕ) (r : Room p t l s) where
        whole : Listing r.lines
        whole = lists_of r.lines r.listing_of

        same_length : length found ≡ length r.lines
        same_length = lists_length variables (λ i. Occurs i x) (Sweeps x y) found r.lines listed whole

        same_records : values_records found ≡ values_records r.lines
        same_records = lists_records variables (λ i. Occurs i x) (Sweeps x y) found r.lines listed whole

        written_in_order : (m' q' : List ℕ) → InLineOrder l s found m' q' → WrittenLines p t l s n.lines m' q'
        written_in_order m' q' o =
            let f = full_of r.lines r.listing_of in
            let i : o.order ≡ r.lines = rising_same o.order r.lines o.sorted.rising f.rising
            (λ u j. lists_members variables (λ i. Occurs i x) (Sweeps x y) found r.lines listed whole u ((o.sorted.members u).0 j))
            (λ u j. (o.sorted.members u).1 (lists_members variables (λ i. Occurs i x) (Sweeps x y) r.lines found whole listed u j)) in
            let g : 4 * variables * length found ≡ length (line_table 0 r.lines) =
            omega (arith, line_table_length 0 r.lines f.entries, same_length) in
            let k : 4 * values_records found ≡ length (value_table r.lines) = omega (arith, value_table_length r.lines, same_records) in
            record {
              lines = r.lines;
              listing_of = r.listing_of;
              room = r.fits;
              count = lines_are ∙ same_length;
              line_bytes = o.lines_begin ∙ ap₂ ◌++◌ (ap (line_table 0) i) (ap (λ (j : ℕ). drop j l) g);
              value_bytes = o.values_begin ∙ ap₂ ◌++◌ (ap value_table i) (ap (λ (j : ℕ). drop j s) k);
            }

        written_copied :
            4 * variables * n.lines ≤ length m₀ → 4 * n.records ≤ length q₀ → (k : ℕ) → k ≡ n.lines → (m' q' : List ℕ)
            → Copied n m q l s m' q' → WrittenLines p t l s k m' q'
        written_copied i j k e m' q' z =
            subst (λ (k : ℕ). WrittenLines p t l s k m' q') (sym e)
            (written_in_order m' q' (z.copied found (tables i j) listed.distinct lines_are records_are))

      -- the lines are copied, or their values have no room
      pub answered :
          (l s : List ℕ) → limit ≤ lent_lines l → 4 * variables * n.lines ≤ length m₀
          → (n.records ≤ lent_records s → 4 * n.records ≤ length q₀)
          → (a : Result ℕ Refusal) (m' q' : List ℕ) → CopiedIf n m q l s a m' q' → Enumerated p t l s a m' q'
      unfolding CopiedIf Enumerated
      answered l s e i j (Ok k) m' q' z = written_copied l s (fits_room l s e z.1) i (j z.1) k z.0 m' q' z.2
      answered l s e i j (Err c) m' q' z =
          (subst (λ (d : Refusal). NoRoom p t l s (number d)) (sym z.0) (no_records l s e z.1).0, z.2, z.3)

-- copying the tables of lines
module _ (n : Tally) (m q l s w : List ℕ) (x : Copyable n m q l s w) (i j : ℕ) (f : i ≡ 4 * variables * n.lines) (g : j ≡ 4 * n.records)
    (l₁ s₁ : List ℕ) (c : l₁ ≡ sets l 0 (take (i - 0) (drop 0 m))) (d : s₁ ≡ sets s 0 (take (j - 0) (drop 0 q))) where
  -- a table that begins with some bytes, copied to the start of another
  copied_table :
      (xs table before after : List ℕ) (i k : ℕ) → length xs ≡ k → i ≡ k → k ≤ length before → table ≡ xs ++ drop k table
      → after ≡ sets before 0 (take (i - 0) (drop 0 table)) → after ≡ xs ++ drop k before
  copied_table xs table before after i k n e h t c =
      let a : take (i - 0) (drop 0 table) ≡ xs = ap (take (i - 0)) t ∙ take_at xs (drop k table) (i - 0) (omega arith) in
      let z : 0 + length xs ≡ k = omega arith in
      c ∙ ap (sets before 0) a ∙ sets-eq xs before 0 (omega arith) ∙ ap (λ (h : ℕ). xs ++ drop h before) z

  begins : (xs before after : List ℕ) (k : ℕ) → length xs ≡ k → after ≡ xs ++ drop k before → drop k after ≡ drop k before
  begins xs before after k n e = ap (drop k) e ∙ drop_at xs (drop k before) k n

  module _ (ls : List Line) (t : Tables m q ls) (lines_are : n.lines ≡ length ls) (records_are : n.records ≡ values_records ls) where
    abbrev line_count : ℕ
    line_count = 4 * variables * length ls

    abbrev value_count : ℕ
    value_count = 4 * values_records ls

    lines_copied : l₁ ≡ line_table 0 ls ++ drop line_count l
    lines_copied = copied_table (line_table 0 ls) m l l₁ i line_count (line_table_length 0 ls t.entries) (omega arith)
        (omega (arith, x.room.0)) t.lines_begin c

    values_copied : s₁ ≡ value_table ls ++ drop value_count s
    values_copied = copied_table (value_table ls) q s s₁ j value_count (value_table_length ls) (omega arith)
        (omega (arith, x.room.1)) t.values_begin d

    lines_behind : drop line_count l₁ ≡ drop line_count l
    lines_behind = begins (line_table 0 ls) l l₁ line_count (line_table_length 0 ls t.entries) lines_copied

    values_behind : drop value_count s₁ ≡ drop value_count s
    values_behind = begins (value_table ls) s s₁ value_count (value_table_length ls) values_copied

    copied_tables : Tables l₁ s₁ ls
    copied_tables = record {
      entries = t.entries;
      lines_begin = lines_copied ∙ ap (line_table 0 ls ++◌) (sym lines_behind);
      values_begin = values_copied ∙ ap (value_table ls ++◌) (sym values_behind);
    }

    copied_order : (l' s' : List ℕ) → Distinct ls → Arranged l₁ s₁ n.lines n.records l' s' → InLineOrder l s ls l' s'
    copied_order l' s' h z =
        let o = z.arranged ls copied_tables h lines_are records_are in
        record {
          order = o.order;
          sorted = o.sorted;
          lines_begin = o.lines_begin ∙ ap (line_table 0 o.order ++◌) lines_behind;
          values_begin = o.values_begin ∙ ap (value_table o.order ++◌) values_behind;
        }

  pub copy_arranges : length l₁ ≡ length l → length s₁ ≡ length s → Arranges l₁ s₁ n.lines n.records w
  copy_arranges e h = record {
    found = x.found;
    tables = copied_tables x.found x.tables x.lines_are x.records_are;
    distinct = x.distinct;
    lines_are = x.lines_are;
    records_are = x.records_are;
    lines_most = omega (arith, x.most.0);
    values_most = omega (arith, x.most.1);
    area = x.area;
  }

  copied : (l' s' : List ℕ) → Arranged l₁ s₁ n.lines n.records l' s' → Copied n m q l s l' s'
  copied l' s' z = record { copied = λ ls t h a b. copied_order ls t a b l' s' h z }

  pub copied_lines :
      n.records ≤ lent_records s → (l' s' : List ℕ) → Arranged l₁ s₁ n.lines n.records l' s'
      → CopiedIf n m q l s (Ok n.lines) l' s'
  unfolding CopiedIf
  copied_lines h l' s' z = (refl, h, copied l' s' z)

pub copied_none : (n : Tally) (m q l s : List ℕ) → lent_records s < n.records
    → CopiedIf n m q l s (Err Refusal.ValueRoom) l s
unfolding CopiedIf
copied_none n m q l s h = (refl, h, refl, refl)

-- a search uses the work area, and keeps its length
pub listable_kept : (p t l s w : List ℕ) → ListTables p t l s w → (v : List ℕ) → length v ≡ length w → ListTables p t l s v
listable_kept p t l s w x v e = record {
  pattern_checked = x.pattern_checked;
  recipe_checked = x.recipe_checked;
  lines_most = x.lines_most;
  values_most = x.values_most;
  area = e ∙ x.area;
}
