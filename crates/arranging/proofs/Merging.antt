-- Lines merged. The line that is written comes before all that are left, so that merging the others behind it leaves all of them in order.
-- Assumes nothing.
use mathlib.Core.Path.{◌≡◌, refl, sym, ap, ◌∙◌, subst, subst₂}
use mathlib.Core.Bool.{Bool, true, false}
use mathlib.Core.List.{List, [], ◌∷◌, ◌++◌}
use mathlib.Core.Logic.{◌⊎◌, inl, inr, ⊎_elim, ◌↔◌}
use Prim.Native.Nat.{ℕ, suc, ◌+◌, ◌-◌, ◌*◌, ◌≤◌, ◌<◌}
use native.Mathlib.Omega.{arith}
use lib.ListN.{length, take, drop, length-append, length-drop}
use lib.Seq.{sets, drop-drop}
use Rattle.terms.specs.Figures.{variables}
use Rattle.terms.specs.Listing.{In, Line, Less, Rising}
use Rattle.terms.specs.Layout.{line_bytes, line_value_records, values_records}
use Rattle.terms.proofs.Members.{in_left, in_right, in_append}
use Rattle.terms.proofs.Order.{Compared, lt, eq, gt, less_trans, order}
use Rattle.copying.proofs.Stores.{written_then}
use Rattle.records.proofs.Parts.{rest_part}
use Rattle.listing.specs.Outcome.{Laid, Lines}
use Rattle.arranging.specs.Arranged.{Sorted}
use Rattle.arranging.specs.Order.{TwoLines, Ordered, Disjoint, Leads, Either, LeadsNext, Merging, NextChosen, MergedLine, SortedRun}
use Rattle.arranging.specs.Order.{Merged}
use Rattle.listing.proofs.Writers.{line_bytes_length}
use Rattle.arranging.proofs.Comparing.{laid_length, laid_first, laid_rest, lines_length, begin}

-- one line more
record Plus (l : Line) (rest all : List Line) : Type 0 where
  pub members : (x : Line) → In x all ↔ ((x ≡ l) ⊎ In x rest)
  pub count : length all ≡ suc (length rest)
  pub records : values_records all ≡ line_value_records l + values_records rest

pub records_append : (ls ms : List Line) → values_records (ls ++ ms) ≡ values_records ls + values_records ms
records_append [] ms = omega arith
records_append (l ∷ ls) ms = omega (arith, records_append ls ms)

plus_first : (l : Line) (rest : List Line) → Plus l rest (l ∷ rest)
plus_first l rest = record { members = λ x. (λ h. h, λ h. h); count = refl; records = refl }

plus_second : (m : Line) (ls ms : List Line) → Plus m (ls ++ ms) (ls ++ m ∷ ms)
plus_second m ls ms = record {
  members = λ x. (
    λ h. ⊎_elim (λ p. inr (in_left x ls ms p)) (λ p. ⊎_elim inl (λ q. inr (in_right x ls ms q)) p) (in_append x ls (m ∷ ms) h),
    λ h. ⊎_elim (λ p. in_right x ls (m ∷ ms) (inl p))
        (λ p. ⊎_elim (in_left x ls (m ∷ ms)) (λ q. in_right x ls (m ∷ ms) (inr q)) (in_append x ls ms p)) h,
  );
  count = omega (arith, length-append ls ms, length-append ls (m ∷ ms));
  records = omega (arith, records_append ls ms, records_append ls (m ∷ ms));
}

sorted_more : (l : Line) (rest all ms : List Line) → Plus l rest all → ((x : Line) → In x rest → Less l x) → Sorted rest ms
    → Sorted all (l ∷ ms)
sorted_more l rest all ms p f s = record {
  rising = (λ x q. f x ((s.members x).0 q), s.rising);
  members = λ x. (
    λ q. ⊎_elim (λ z. (p.members x).1 (inl z)) (λ z. (p.members x).1 (inr ((s.members x).0 z))) q,
    λ q. ⊎_elim inl (λ z. inr ((s.members x).1 z)) ((p.members x).0 q),
  );
  count = ap suc s.count ∙ sym p.count;
  records = ap (line_value_records l +◌) s.records ∙ sym p.records;
}

pub sorted_self : (ls : List Line) → Rising ls → Sorted ls ls
sorted_self ls u = record { rising = u; members = λ x. (λ h. h, λ h. h); count = refl; records = refl }

-- the first of two lists in order, the one of them that is earlier
module _ (l m : Line) (ls ms : List Line) (u : Rising (l ∷ ls)) (v : Rising (m ∷ ms)) where
  first_least : Less l m → (x : Line) → In x (ls ++ m ∷ ms) → Less l x
  first_least h x p =
      ⊎_elim (u.0 x) (λ q. ⊎_elim (λ e. subst (Less l) (sym e) h) (λ z. less_trans l m x h (v.0 x z)) q) (in_append x ls (m ∷ ms) p)

not_less : (l m : Line) → ¬ Less l m → ¬ (l ≡ m) → Less m l
not_less l m h g = go (order l m)
  where
    go : Compared Less l m → Less m l
    go (lt p) = absurd (h p)
    go (eq p) = absurd (g p)
    go (gt p) = p

-- a line written, and then the others
module _ (X A out p after : List ℕ) (o n k : ℕ) (l : Line) (x : Laid X A l) (rest all : List Line) where
  joined_more :
      Plus l rest all → ((y : Line) → In y rest → Less l y) → p ≡ sets out o (take (4 * variables) A) → k ≡ 4 * variables + n
      → SortedRun X rest n p (o + 4 * variables) after → SortedRun X all k out o after
  joined_more s f e q j =
      let b = line_bytes x.first l in
      let h : length b ≡ 4 * variables = omega (arith, line_bytes_length x.first l, x.entries) in
      record {
        order = l ∷ j.order;
        sorted = sorted_more l rest all j.order s f j.sorted;
        bytes = b ++ j.bytes;
        lines = (
          record {
            first = x.first;
            rest = j.bytes;
            behind = x.behind;
            line = refl;
            stand = x.stand;
            within = x.within;
            entries = x.entries;
          },
          j.lines,
        );
        long = omega (arith, length-append b j.bytes, j.long);
        written = written_then b j.bytes out p after o (o + 4 * variables) (e ∙ ap (sets out o) (laid_first X A l x))
            j.written (omega arith);
      }

-- the line that comes next
module _ (A B X : List ℕ) where
  next_left : ¬ (length A ≡ 0) → length B ≡ 0 → LeadsNext A B X true
  next_left h g = record { exact = go }
    where
      go : (ls ms : List Line) → Lines X A ls → Lines X B ms → Rising ls → Rising ms → Disjoint ls ms → Leads ls ms
      go [] ms x y u v d = absurd (h (ap length x))
      go (l ∷ ls) [] x y u v d = λ z p. ⊎_elim (u.0 z) absurd (in_append z ls [] p)
      go (l ∷ ls) (m ∷ ms) x y u v d = absurd (omega (arith, lines_length X B (m ∷ ms) y))

  next_right : length A ≡ 0 → ¬ (length B ≡ 0) → LeadsNext A B X false
  next_right h g = record { exact = go }
    where
      go : (ls ms : List Line) → Lines X A ls → Lines X B ms → Rising ls → Rising ms → Disjoint ls ms → Leads ms ls
      go ls [] x y u v d = absurd (g (ap length y))
      go [] (m ∷ ms) x y u v d = λ z p. ⊎_elim (v.0 z) absurd (in_append z ms [] p)
      go (l ∷ ls) (m ∷ ms) x y u v d = absurd (omega (arith, lines_length X A (l ∷ ls) x))

  next_earlier : ¬ (length A ≡ 0) → ¬ (length B ≡ 0) → (r : Bool) → Ordered A B X r → LeadsNext A B X r
  next_earlier h g r c = record { exact = λ ls ms x y u v d. go r c ls ms x y u v d }
    where
      go :
          (r : Bool) → Ordered A B X r → (ls ms : List Line) → Lines X A ls → Lines X B ms → Rising ls → Rising ms → Disjoint ls ms
          → Either r (Leads ls ms) (Leads ms ls)
      go r c [] ms x y u v d = absurd (h (ap length x))
      go r c (l ∷ ls) [] x y u v d = absurd (g (ap length y))
      go true c (l ∷ ls) (m ∷ ms) x y u v d = first_least l m ls ms u v (c.exact l m x.0 y.0)
      go false c (l ∷ ls) (m ∷ ms) x y u v d =
          first_least m l ms ls v u (not_less l m (c.exact l m x.0 y.0) (λ i. d l (inl refl) (inl i)))

-- one line merged
module _ (A B X out : List ℕ) (o : ℕ) where
  merged_none : length A ≡ 0 → length B ≡ 0 → Merged A B X out o out
  merged_none h g = record { joined = go }
    where
      go : (ls ms : List Line) → Lines X A ls → Lines X B ms → Rising ls → Rising ms → Disjoint ls ms
          → SortedRun X (ls ++ ms) (length A + length B) out o out
      go [] [] x y u v d = record { order = []; sorted = sorted_self [] tt; bytes = []; lines = refl; long = omega arith; written = refl }
      go [] (m ∷ ms) x y u v d = absurd (omega (arith, lines_length X B (m ∷ ms) y))
      go (l ∷ ls) ms x y u v d = absurd (omega (arith, lines_length X A (l ∷ ls) x))

  module _ (p after : List ℕ) where
    merged_left :
        LeadsNext A B X true → p ≡ sets out o (take (4 * variables) A) → Merged (drop (4 * variables) A) B X p (o + 4 * variables) after
        → Merged A B X out o after
    merged_left c e q = record { joined = λ ls ms x y u v d. go ls ms x y u v d (c.exact ls ms x y u v d) }
      where
        go :
            (ls ms : List Line) → Lines X A ls → Lines X B ms → Rising ls → Rising ms → Disjoint ls ms → Leads ls ms
            → SortedRun X (ls ++ ms) (length A + length B) out o after
        go [] ms x y u v d f = absurd f
        go (l ∷ ls) ms (x, s) y u v d f =
            let w = laid_rest X A l x in
            joined_more X A out p after o _ (length A + length B) l x (ls ++ ms) (l ∷ ls ++ ms) (plus_first l (ls ++ ms)) f e
            (omega (arith, laid_length X A l x, ap length w)) (q.joined ls ms (rw w s) y u.1 v (λ t i j. d t (inr i) j))

    merged_right :
        LeadsNext A B X false → p ≡ sets out o (take (4 * variables) B) → Merged A (drop (4 * variables) B) X p (o + 4 * variables) after
        → Merged A B X out o after
    merged_right c e q = record { joined = λ ls ms x y u v d. go ls ms x y u v d (c.exact ls ms x y u v d) }
      where
        go :
            (ls ms : List Line) → Lines X A ls → Lines X B ms → Rising ls → Rising ms → Disjoint ls ms → Leads ms ls
            → SortedRun X (ls ++ ms) (length A + length B) out o after
        go ls [] x y u v d f = absurd f
        go ls (m ∷ ms) x (y, s) u v d f =
            let w = laid_rest X B m y in
            joined_more X B out p after o _ (length A + length B) m y (ls ++ ms) (ls ++ m ∷ ms) (plus_second m ls ms)
            (λ z i. f z (⊎_elim (in_right z ms ls) (in_left z ms ls) (in_append z ls ms i))) e
            (omega (arith, laid_length X B m y, ap length w))
            (q.joined ls ms x (rw w s) u v.1 (λ t i j. d t i (inr j)))

-- the lines that are left
module _ (A B X : List ℕ) (i j : ℕ) (x : Merging A i B j X) where
  pub merging_begin : ¬ (i ≡ length A) → ¬ (j ≡ length B) → TwoLines (take (length A - i) (drop i A)) (take (length B - j) (drop j B)) X
  merging_begin h g =
      rw (rest_part A i, rest_part B j)
      (begin (drop i A) (drop j B) X x.one x.two x.left x.right (λ z. h (omega (arith, x.left_whole, length-drop i A)))
      (λ z. g (omega (arith, x.right_whole, length-drop j B))))

  pub chosen_right : i + j < length A + length B → i ≡ length A → NextChosen A i B j X false
  chosen_right h e = record {
    next = next_right (drop i A) (drop j B) X (omega (arith, length-drop i A)) (λ z. omega (arith, length-drop j B));
    some = omega arith;
  }

  pub chosen_left : ¬ (i ≡ length A) → j ≡ length B → NextChosen A i B j X true
  chosen_left h e = record {
    next = next_left (drop i A) (drop j B) X (λ z. h (omega (arith, x.left_whole, length-drop i A))) (omega (arith, length-drop j B));
    some = omega (arith, x.left_whole);
  }

  pub chosen_earlier :
      ¬ (i ≡ length A) → ¬ (j ≡ length B) → (r : Bool) → Ordered (take (length A - i) (drop i A)) (take (length B - j) (drop j B)) X r
      → NextChosen A i B j X r
  chosen_earlier h g r c =
      let k : Ordered (drop i A) (drop j B) X r = rw (rest_part A i, rest_part B j) at c in
      record {
        next =
            next_earlier (drop i A) (drop j B) X (λ z. h (omega (arith, x.left_whole, length-drop i A)))
            (λ z. g (omega (arith, x.right_whole, length-drop j B))) r k;
        some = either r;
      }
    where
      either : (r : Bool) → Either r (i < length A) (j < length B)
      either true = omega (arith, x.left_whole)
      either false = omega (arith, x.right_whole)

  module _ (r : Bool) (c : NextChosen A i B j X r) where
    pub left_some : r ≡ true → i < length A
    left_some e = subst (λ z. Either z (i < length A) (j < length B)) e c.some

    pub right_some : r ≡ false → j < length B
    right_some e = subst (λ z. Either z (i < length A) (j < length B)) e c.some

    module _ (out p : List ℕ) where
      pub merged_line_left : r ≡ true → p ≡ sets out (i + j) (take (i + 4 * variables - i) (drop i A))
          → MergedLine A i B j X out p (i + 4 * variables) j
      merged_line_left e f =
          let n : LeadsNext (drop i A) (drop j B) X true = subst (λ z. LeadsNext (drop i A) (drop j B) X z) e c.next in
          let k : i + 4 * variables - i ≡ 4 * variables = omega arith in
          let m : i + j + 4 * variables ≡ i + 4 * variables + j = omega arith in
          let w : drop (4 * variables) (drop i A) ≡ drop (i + 4 * variables) A = drop-drop (4 * variables) i A in
          let g : p ≡ sets out (i + j) (take (4 * variables) (drop i A)) = f ∙ ap (λ (z : ℕ). sets out (i + j) (take z (drop i A))) k in
          record {
            merging = go x.one x.left x.left_whole;
            further = omega arith;
            merged = λ final q.
                merged_left (drop i A) (drop j B) X out (i + j) p final n g
                (subst₂ (λ (y : List ℕ) (z : ℕ). Merged y (drop j B) X p z final) (sym w) (sym m) q);
          }
        where
          go : (ls : List Line) → Lines X (drop i A) ls → length A ≡ i + 4 * variables * length ls → Merging A (i + 4 * variables) B j X
          go [] y h = absurd (omega (arith, left_some e))
          go (l ∷ ls) (y, s) h = record {
            one = ls;
            two = x.two;
            left = subst (λ (z : List ℕ). Lines X z ls) (sym (laid_rest X (drop i A) l y) ∙ drop-drop (4 * variables) i A) s;
            right = x.right;
            left_whole = omega arith;
            right_whole = x.right_whole;
          }

      pub merged_line_right : r ≡ false → p ≡ sets out (i + j) (take (j + 4 * variables - j) (drop j B))
          → MergedLine A i B j X out p i (j + 4 * variables)
      merged_line_right e f =
          let n : LeadsNext (drop i A) (drop j B) X false = subst (λ z. LeadsNext (drop i A) (drop j B) X z) e c.next in
          let k : j + 4 * variables - j ≡ 4 * variables = omega arith in
          let m : i + j + 4 * variables ≡ i + (j + 4 * variables) = omega arith in
          let w : drop (4 * variables) (drop j B) ≡ drop (j + 4 * variables) B = drop-drop (4 * variables) j B in
          let g : p ≡ sets out (i + j) (take (4 * variables) (drop j B)) = f ∙ ap (λ (z : ℕ). sets out (i + j) (take z (drop j B))) k in
          record {
            merging = go x.two x.right x.right_whole;
            further = omega arith;
            merged = λ final q.
                merged_right (drop i A) (drop j B) X out (i + j) p final n g
                (subst₂ (λ (y : List ℕ) (z : ℕ). Merged (drop i A) y X p z final) (sym w) (sym m) q);
          }
        where
          go : (ms : List Line) → Lines X (drop j B) ms → length B ≡ j + 4 * variables * length ms → Merging A i B (j + 4 * variables) X
          go [] y h = absurd (omega (arith, right_some e))
          go (m ∷ ms) (y, s) h = record {
            one = x.one;
            two = ms;
            left = x.left;
            right = subst (λ (z : List ℕ). Lines X z ms) (sym (laid_rest X (drop j B) m y) ∙ drop-drop (4 * variables) j B) s;
            left_whole = x.left_whole;
            right_whole = omega arith;
          }

-- merging line by line: what is left to merge, and that merging it merges the whole
pub record MergingOn (A B X out : List ℕ) (i j : ℕ) (now : List ℕ) : Type 0 where
  pub merging : Merging A i B j X
  pub long : length now ≡ length out
  pub merged : (final : List ℕ) → Merged (drop i A) (drop j B) X now (i + j) final → Merged A B X out 0 final

module _ (A B X out : List ℕ) where
  pub merging_end : (i j : ℕ) (now : List ℕ) → MergingOn A B X out i j now → length A + length B ≤ i + j → Merged A B X out 0 now
  merging_end i j now g h =
      let x = g.merging in
      g.merged now
      (merged_none (drop i A) (drop j B) X now (i + j) (omega (arith, x.left_whole, x.right_whole, length-drop i A))
      (omega (arith, x.left_whole, x.right_whole, length-drop j B)))
