-- A pair by its listing: passed over if there is no line, or line 0 leaves a variable of the right side open; else what comes of the sides
-- comes of the pair. Assumes nothing.
use mathlib.Core.Path.{◌≡◌, refl, sym, ap, ◌∙◌, subst, subst₂}
use mathlib.Core.Bool.{Bool, true, false}
use mathlib.Core.List.{List, []}
use mathlib.Core.Logic.{inl, inr}
use Prim.Native.Nat.{ℕ, ◌*◌, ◌-◌, ◌/◌, ◌<◌}
use native.Mathlib.Omega.{arith}
use lib.ListN.{length, take, drop, length-take}
use lib.Seq.{sets}
use Rattle.std.specs.declared.option.Option.{Option}
use Rattle.std.specs.declared.option.Option.TheVariants.{None}
use Rattle.std.specs.Prelude.{⊤, is_ok}
use Rattle.std.specs.declared.result.Result.{Result}
use Rattle.std.specs.declared.result.Result.TheVariants.{Ok, Err}
use Rattle.terms.specs.Figures.{variables}
use Rattle.terms.specs.Term.{Term, size, Normal}
use Rattle.terms.specs.Table.{record_bytes, encode}
use Rattle.terms.specs.Sweep.{fill}
use Rattle.terms.specs.Listing.{Line, Full}
use Rattle.terms.specs.Layout.{line_table, value_table, Stored}
use Rattle.terms.specs.Refusal.{Refused, Passed, OccursIn, assignment_rows, listing_rows}
use Rattle.terms.proofs.Occurs.{occurs_below}
use Rattle.terms.proofs.Table.{encode_one}
use Rattle.records.specs.Tests.{Says}
use Rattle.records.specs.Checks.{Pattern}
use Rattle.refusals.specs.declared.Refusal.{Refusal}
use Rattle.refusals.specs.Judged.{number, Judged, FilledTables}
use Rattle.enumeration.specs.Written.{lent_lines, lent_records, ListingOf, WrittenLines, Enumerated}
use Rattle.fitting.specs.Steps.{Excluded}
use Rattle.attempts.specs.Pairs.{full_lines, full_records, ListedPair, line_zero, Usable, filling, next, stop, PairRewritten, Tried}
use Rattle.attempts.specs.Steps.{PairAnswers, PairAnswered, FilledOpen, SidesFilled, SidesRewritten, ListingTables}
use Rattle.attempts.specs.Steps.{UsableTold, LineUsed, PairTables}
use Rattle.attempts.proofs.LineZero.{line_stored, line_assigns, filled_stored}

module _ (p q : List ℕ) (t : Term) (n : ℕ) (lines values : List ℕ) (x : ListingTables p q t n lines values) where
  abbrev l : Line
  l = line_zero x.ls

  abbrev listed : ListedPair p q t
  listed = record {
    left = x.left.tree;
    right = x.right.tree;
    left_table = x.left.table;
    right_table = x.right.table;
    lines = x.ls;
    full = x.full;
  }

  passed_over : ¬ Usable x.right.tree x.ls → (f : List ℕ) → PairAnswered (Tried p q t) (Ok None) f
  unfolding PairAnswers
  passed_over h f = record { outcome = next; holds = (listed, inr (x.room, inl (h, refl))); answers = refl }

  pub passed_unusable : (b : Bool) → UsableTold q n lines values b → b ≡ false → (f : List ℕ)
      → PairAnswered (Tried p q t) (Ok None) f
  passed_unusable b u e f = passed_over (subst (λ (c : Bool). Says c (Usable x.right.tree x.ls)) e (u p t x)) f

  pub usable_some : (b : Bool) → UsableTold q n lines values b → b ≡ true → 0 < n
  usable_some b u e = omega (arith, (subst (λ (c : Bool). Says c (Usable x.right.tree x.ls)) e (u p t x)).0, x.count)

  pub used_listing : (b : Bool) → UsableTold q n lines values b → b ≡ true → (a : Result (Option ℕ) Refusal) (f : List ℕ)
      → LineUsed p q n lines values a f
      → PairAnswered (Tried p q t) a f
  used_listing b u e a f w =
      let y = w t x in
      record {
        outcome = y.outcome;
        holds = (listed, inr (x.room, inr (subst (λ (c : Bool). Says c (Usable x.right.tree x.ls)) e (u p t x), y.holds)));
        answers = y.answers;
      }

  module _ (h : 0 < length x.ls) where
    -- with the constant in the last record, and its entries filled
    module _ (last : ℕ) (e : last ≡ length values / 4 - 1) (after : List ℕ) (w : after ≡ sets values (4 * last) (record_bytes 3 0 []))
        (filled : List ℕ) (o : FilledOpen lines last filled variables) where
      abbrev line' : List ℕ
      line' = take (4 * variables - 0) (drop 0 filled)

      stored : (i : ℕ) → i < variables → Stored line' after i (filling l i)
      stored i g = filled_stored p q t n lines values x h last e after w filled o i g

      filled_tables : (r : List ℕ) → Pattern r → FilledTables r line' after
      filled_tables r y = record {
        checked = y;
        line = omega (arith, length-take (4 * variables - 0) filled, o.length_is, x.lines_length);
        term = fill (filling l) y.tree;
        filled = record {
          term = y.tree;
          table = y.table;
          φ = filling l;
          stored = λ i b. stored i (occurs_below variables i y.tree y.below b);
          is = refl;
        };
      }

      pub both_filled : SidesFilled p q line' after
      both_filled = (filled_tables p x.left, filled_tables q x.right)

      pub used_line : (a : Result (Option ℕ) Refusal) (f : List ℕ) → SidesRewritten p q line' after a f
          → PairAnswered (PairRewritten x.left.tree x.right.tree (filling l)) a f
      used_line a f r =
          r x.left.tree x.right.tree (filling l) x.left.table x.right.table
          (λ i b. stored i (occurs_below variables i x.left.tree x.left.below b))
          (λ i b. stored i (occurs_below variables i x.right.tree x.right.below b))

-- whether line 0 can be used
module _ (q : List ℕ) (n : ℕ) (lines values : List ℕ) where
  abbrev line : List ℕ
  line = take (4 * variables - 0) (drop 0 lines)

  module _ (h : ¬ (n ≡ 0)) where
    pub open_unusable : (c : Refusal) → Judged (assignment_rows (OccursIn q) line values) (FilledTables q line values) (Err c)
        → UsableTold q n lines values false
    unfolding Judged
    open_unusable c j p t x u = go j
      where
        go : Refused (assignment_rows (OccursIn q) line values) (number c) → ⊥
        go (inl ((i, o, none), k)) =
            let d : o.0 ≡ x.right.tree = encode_one o.0 x.right.tree (sym o.1.0 ∙ x.right.table.0) in
            let b = rw d at o.2 in
            let w = u.1 i b in
            let h = occurs_below variables i x.right.tree x.right.below b in
            none w.0 (line_stored p q t n lines values x u.0 i h w.0 w.1)
        go (inr (k, m)) = m

    pub given_usable : Judged (assignment_rows (OccursIn q) line values) (FilledTables q line values) (Ok tt) → UsableTold q n lines values true
    unfolding Judged
    given_usable j p t x =
        let y = j.1.filled in
        let d : x.right.tree ≡ y.term = encode_one x.right.tree y.term (sym x.right.table.0 ∙ y.table.0) in
        let g : 0 < length x.ls = omega (arith, x.count) in (
          g,
          λ i o. line_assigns p q t n lines values x g i (occurs_below variables i x.right.tree x.right.below o) (y.φ i)
              (y.stored i (rw d at o)),
        )

    pub told_usable : (v : Result ⊤ Refusal) → Judged (assignment_rows (OccursIn q) line values) (FilledTables q line values) v
        → UsableTold q n lines values (is_ok v)
    told_usable (Ok tt) j = given_usable j
    told_usable (Err c) j = open_unusable c j

-- a rule whose head excludes a match
module _ (p q r lines values work : List ℕ) (x : PairTables p q r lines values work) (t : Term) (e : r ≡ encode t) where
  pub passed_excluded : (b : Bool) → Excluded p r b → b ≡ true → (f : List ℕ) → PairAnswered (Tried p q t) (Ok None) f
  unfolding PairAnswers Excluded
  passed_excluded b y d f =
      let z : t ≡ x.part.tree = encode_one t x.part.tree (sym e ∙ x.part.table.0) in
      record {
        outcome = next;
        holds = (
          record {
            left = x.left.tree;
            right = x.right.tree;
            left_table = x.left.table;
            right_table = x.right.table;
            lines = [];
            full = subst (Excluded p r) d y x.left.tree t x.left.table (rw z x.part.table);
          },
          inr ((λ h. omega arith, (λ h. omega arith, tt)), inl ((λ u. omega (arith, u.0)), refl)),
        );
        answers = refl;
      }

  -- the listing that was made, or that has no room
  module _ (a : Result ℕ Refusal) (lines' values' : List ℕ) (w : Enumerated p r lines values a lines' values') where
    same : t ≡ x.part.tree
    same = encode_one t x.part.tree (sym e ∙ x.part.table.0)

    full_of : (ls : List Line) → ListingOf p r ls → Full variables x.left.tree t ls
    full_of ls f =
        subst₂ (λ (u v : Term). Full variables u v ls)
        (encode_one f.pattern_term x.left.tree (sym f.pattern_table.0 ∙ x.left.table.0))
        (encode_one f.recipe_term t (sym f.recipe_table.0 ∙ e)) f.full

    lines_full : lent_lines lines ≡ full_lines
    lines_full = ap (λ (k : ℕ). k / (4 * variables)) x.lines_length

    records_full : lent_records values ≡ full_records
    records_full = ap (λ (k : ℕ). k / 4) x.values_length

    pub listing_tables : (n : ℕ) → a ≡ Ok n → length lines' ≡ length lines → length values' ≡ length values
        → ListingTables p q t n lines' values'
    unfolding Enumerated
    listing_tables n f g h =
        let k : WrittenLines p r lines values n lines' values' =
        subst (λ (b : Result ℕ Refusal). Enumerated p r lines values b lines' values') f w in
        record {
          left = x.left;
          right = x.right;
          normal = subst Normal (sym same) x.part.normal;
          few = omega (arith, ap size same, x.part.most);
          ls = k.lines;
          full = full_of k.lines k.listing_of;
          room = subst₂ (λ (i j : ℕ). Passed (listing_rows i j k.lines)) lines_full records_full k.room;
          count = k.count;
          lines_behind = drop (length (line_table 0 k.lines)) lines;
          values_behind = drop (length (value_table k.lines)) values;
          line_bytes = k.line_bytes;
          value_bytes = k.value_bytes;
          lines_length = g ∙ x.lines_length;
          values_length = h ∙ x.values_length;
        }

    pub listing_refused : (c : Refusal) → a ≡ Err c → (f : List ℕ) → PairAnswered (Tried p q t) (Err c) f
    unfolding PairAnswers Enumerated
    listing_refused c d f =
        let k = (subst (λ (b : Result ℕ Refusal). Enumerated p r lines values b lines' values') d w).0 in
        record {
          outcome = stop (number c);
          holds = (
            record {
              left = x.left.tree;
              right = x.right.tree;
              left_table = x.left.table;
              right_table = x.right.table;
              lines = k.lines;
              full = full_of k.lines k.listing_of;
            },
            inl (number c, subst₂ (λ (i j : ℕ). Refused (listing_rows i j k.lines) (number c)) lines_full records_full k.cause, refl),
          );
          answers = refl;
        }
