-- Lines sorted by halves. Lines in order are made of both halves in order, which have the same members; the parts of the table are changed
-- one after the other and then merged. Assumes nothing.
use mathlib.Core.Path.{◌≡◌, refl, sym, ap, ap₂, ◌∙◌, subst, subst₂}
use mathlib.Core.List.{List, [], ◌∷◌, ◌++◌, append-nil}
use mathlib.Core.Logic.{inl, inr, ⊎_elim}
use Prim.Native.Nat.{ℕ, zero, suc, ◌+◌, ◌-◌, ◌*◌, ◌≤◌}
use native.Mathlib.Omega.{arith}
use lib.ListN.{length, take, drop, length-append, length-take, length-drop, take-append-drop, drop_of_length-le}
use lib.Seq.{sets, sets-eq, length-take-le, take_at, drop_at, take-append-add, drop-append-add}
use Rattle.terms.specs.Figures.{variables}
use Rattle.terms.specs.Listing.{In, Line, Rising}
use Rattle.terms.specs.Layout.{line_bytes}
use Rattle.terms.specs.Members.{Distinct}
use Rattle.terms.proofs.Members.{in_left, in_right, in_append}
use Rattle.copying.proofs.Stores.{stored}
use Rattle.records.proofs.Parts.{rest_part}
use Rattle.listing.specs.Outcome.{Lines}
use Rattle.arranging.specs.Arranged.{Sorted}
use Rattle.arranging.specs.Order.{Disjoint, Merges, Merged, Halves, Sorts, InOrder}
use Rattle.listing.proofs.Writers.{line_bytes_length}
use Rattle.arranging.proofs.Comparing.{lines_length}
use Rattle.arranging.proofs.Merging.{records_append, sorted_self}

-- a table in two parts, and the parts one behind the other
first_part : (L : List ℕ) (h : ℕ) → take (h - 0) (drop 0 L) ≡ take h L
first_part L h = let e : h - 0 ≡ h = omega arith in ap (λ (k : ℕ). take k L) e

pub first_length : (L : List ℕ) (h : ℕ) → h ≤ length L → length (take (h - 0) (drop 0 L)) ≡ h
first_length L h g = ap length (first_part L h) ∙ length-take-le h L g

-- bytes copied over a table, and over the whole of one
copied_over : (out x b after : List ℕ) → after ≡ sets out 0 x → x ≡ b → after ≡ sets out 0 b
copied_over out x b after e f = e ∙ ap (sets out 0) f

whole_written : (out b after : List ℕ) → after ≡ sets out 0 b → length b ≡ length out → after ≡ b
whole_written out b after e n =
    let z : length out ≤ 0 + length b = omega arith in
    e ∙ sets-eq b out 0 (omega arith) ∙ ap (b ++◌) (drop_of_length-le out z) ∙ append-nil b

-- both halves merged, and copied back
module _ (L X work : List ℕ) (h : ℕ) where
  pub merged_back :
      (p after : List ℕ) → h ≤ length L → length L ≤ length work
      → Merged (take (h - 0) (drop 0 L)) (take (length L - h) (drop h L)) X work 0 p
      → after ≡ sets L 0 (take (length L - 0) (drop 0 p)) → Merged (take h L) (drop h L) X L 0 after
  merged_back p after g w x e =
      let y : Merged (take h L) (drop h L) X work 0 p = rw (first_part L h, rest_part L h) at x in
      record {
        joined = λ ls ms a c u v d.
            let j = y.joined ls ms a c u v d in
            let n : length L ≡ length j.bytes = omega (arith, j.long, length-take h L, length-drop h L) in
            record {
              order = j.order;
              sorted = j.sorted;
              bytes = j.bytes;
              lines = j.lines;
              long = j.long;
              written =
                  copied_over L (take (length L - 0) (drop 0 p)) j.bytes after e (stored work p j.bytes (length L) j.written n w);
            };
      }

-- lines in two parts
lines_split : (X : List ℕ) (j : ℕ) (L : List ℕ) (ls : List Line) → Lines X L ls → j ≤ length ls
    → Lines X (take (4 * variables * j) L) (take j ls) × Lines X (drop (4 * variables * j) L) (drop j ls)
lines_split X zero L ls x h = (refl, x)
lines_split X (suc j) L [] x h = absurd (omega arith)
lines_split X (suc j) L (l ∷ ls) (x, s) h =
    let b = line_bytes x.first l in
    let r = lines_split X j x.rest ls s (omega arith) in
    let m : 4 * variables * suc j ≡ length b + 4 * variables * j = omega (arith, line_bytes_length x.first l, x.entries) in
    let e : take (4 * variables * suc j) L ≡ b ++ take (4 * variables * j) x.rest =
    ap (λ (k : ℕ). take k L) m ∙ ap (take (length b + 4 * variables * j)) x.line ∙ take-append-add b x.rest (4 * variables * j) in
    let f : drop (4 * variables * suc j) L ≡ drop (4 * variables * j) x.rest =
    ap (λ (k : ℕ). drop k L) m ∙ ap (drop (length b + 4 * variables * j)) x.line ∙ drop-append-add b x.rest (4 * variables * j) in (
      (
        record {
          first = x.first;
          rest = take (4 * variables * j) x.rest;
          behind = x.behind;
          line = e;
          stand = x.stand;
          within = x.within;
          entries = x.entries;
        },
        r.0,
      ),
      subst (λ (z : List ℕ). Lines X z (drop j ls)) (sym f) r.1,
    )

distinct_left : (ls ms : List Line) → Distinct (ls ++ ms) → Distinct ls
distinct_left [] ms d = tt
distinct_left (l ∷ ls) ms d = (λ p. d.0 (in_left l ls ms p), distinct_left ls ms d.1)

distinct_right : (ls ms : List Line) → Distinct (ls ++ ms) → Distinct ms
distinct_right [] ms d = d
distinct_right (l ∷ ls) ms d = distinct_right ls ms d.1

distinct_apart : (ls ms : List Line) → Distinct (ls ++ ms) → Disjoint ls ms
distinct_apart (l ∷ ls) ms d x (inl p) q = d.0 (in_right l ls ms (subst (λ y. In y ms) p q))
distinct_apart (l ∷ ls) ms d x (inr p) q = distinct_apart ls ms d.1 x p q
distinct_apart [] ms d x x4 q = elim x4 [ ]

-- a listing in two halves
record Halved (X L : List ℕ) (h : ℕ) (ls : List Line) : Type 0 where
  pub one : List Line
  pub two : List Line
  pub is : one ++ two ≡ ls
  pub left : Lines X (take h L) one
  pub right : Lines X (drop h L) two
  pub one_distinct : Distinct one
  pub two_distinct : Distinct two
  pub apart : Disjoint one two

halved : (X L : List ℕ) (j h : ℕ) (ls : List Line) → h ≡ j * (4 * variables) → h ≤ length L → Lines X L ls → Distinct ls → Halved X L h ls
halved X L j h ls e g x d =
    let s = lines_split X j L ls x (omega (arith, lines_length X L ls x)) in
    let m : 4 * variables * j ≡ h = omega arith in
    let f = take-append-drop j ls in
    let c = subst Distinct (sym f) d in
    record {
      one = take j ls;
      two = drop j ls;
      is = f;
      left = rw m at s.0;
      right = rw m at s.1;
      one_distinct = distinct_left (take j ls) (drop j ls) c;
      two_distinct = distinct_right (take j ls) (drop j ls) c;
      apart = distinct_apart (take j ls) (drop j ls) c;
    }

-- both halves in order, and then the whole
sorted_halves : (ls ms os ps ns : List Line) → Sorted ls os → Sorted ms ps → Sorted (os ++ ps) ns → Sorted (ls ++ ms) ns
sorted_halves ls ms os ps ns a b s = record {
  rising = s.rising;
  members = λ x. (
    λ q. ⊎_elim (λ z. in_left x ls ms ((a.members x).0 z)) (λ z. in_right x ls ms ((b.members x).0 z))
        (in_append x os ps ((s.members x).0 q)),
    λ q. (s.members x).1
        (⊎_elim (λ z. in_left x os ps ((a.members x).1 z)) (λ z. in_right x os ps ((b.members x).1 z)) (in_append x ls ms q)),
  );
  count = omega (arith, s.count, a.count, b.count, length-append os ps, length-append ls ms);
  records = omega (arith, s.records, a.records, b.records, records_append os ps, records_append ls ms);
}

sorted_apart : (ls ms os ps : List Line) → Sorted ls os → Sorted ms ps → Disjoint ls ms → Disjoint os ps
sorted_apart ls ms os ps a b d x p q = d x ((a.members x).0 p) ((b.members x).0 q)

pub short_sorted : (L X : List ℕ) → length L ≤ 4 * variables → InOrder L X L
short_sorted L X h = record { sorted = λ ls x d. (ls, sorted_self ls (go ls x), x) }
  where
    go : (ls : List Line) → Lines X L ls → Rising ls
    go [] x = tt
    go (l ∷ []) x = (λ m p. absurd p, tt)
    go (l ∷ m ∷ ls) x = absurd (omega (arith, lines_length X L (l ∷ m ∷ ls) x))

whole_sorted :
    (L X P Q out after : List ℕ) (j h : ℕ) → h ≡ j * (4 * variables) → h ≤ length L → length out ≡ length P + length Q
    → InOrder (take h L) X P → InOrder (drop h L) X Q
    → Merged P Q X out 0 after → InOrder L X after
whole_sorted L X P Q out after j h e g n a b m = record {
  sorted = λ ls x d.
      let s = halved X L j h ls e g x d in
      let p = a.sorted s.one s.left s.one_distinct in
      let q = b.sorted s.two s.right s.two_distinct in
      let o = m.joined p.0 q.0 p.2 q.2 p.1.rising q.1.rising
      (sorted_apart s.one s.two p.0 q.0 p.1 q.1 s.apart) in
      let w : length o.bytes ≡ length out = omega (arith, o.long) in
      let f : after ≡ o.bytes = whole_written out o.bytes after o.written w in (
        o.order,
        subst (λ z. Sorted z o.order) s.is (sorted_halves s.one s.two p.0 q.0 o.order p.1 q.1 o.sorted),
        subst (λ (z : List ℕ). Lines X z o.order) (sym f) o.lines,
      );
}

-- a table whose two parts are changed in turn: the parts as they are lent, and the whole afterwards
module _ (L P : List ℕ) (h : ℕ) (e : length P ≡ length (take (h - 0) (drop 0 L))) (g : h ≤ length L) where
  abbrev first_changed : List ℕ
  first_changed = P ++ drop (h - 0) (drop 0 L)

  changed_length : length P ≡ h
  changed_length = e ∙ first_length L h g

  second_lent : take (length L - h) (drop h first_changed) ≡ drop h L
  second_lent =
      let z : h - 0 ≡ h = omega arith in
      ap (take (length L - h)) (drop_at P (drop (h - 0) (drop 0 L)) h changed_length ∙ ap (λ (k : ℕ). drop k L) z) ∙ rest_part L h

  pub second_length : length (take (length L - h) (drop h first_changed)) ≡ length L - h
  second_length = ap length second_lent ∙ length-drop h L

  module _ (Q : List ℕ) (f : length Q ≡ length (take (length L - h) (drop h first_changed))) where
    abbrev both_changed : List ℕ
    both_changed = take h first_changed ++ (Q ++ drop (length L - h) (drop h first_changed))

    both_are : both_changed ≡ P ++ Q
    both_are =
        let z : h - 0 ≡ h = omega arith in
        let d : drop h first_changed ≡ drop h L = drop_at P (drop (h - 0) (drop 0 L)) h changed_length ∙ ap (λ (k : ℕ). drop k L) z in
        let k : length (drop h L) ≤ length L - h = omega (arith, length-drop h L) in
        ap₂ (λ (x y : List ℕ). x ++ (Q ++ drop (length L - h) y)) (take_at P (drop (h - 0) (drop 0 L)) h changed_length) d
        ∙ ap (λ (y : List ℕ). P ++ (Q ++ y)) (drop_of_length-le (drop h L) k) ∙ ap (P ++◌) (append-nil Q)

    first_is : take h both_changed ≡ P
    first_is = ap (take h) both_are ∙ take_at P Q h changed_length

    second_is : drop h both_changed ≡ Q
    second_is = ap (drop h) both_are ∙ drop_at P Q h changed_length

    both_length : length both_changed ≡ length P + length Q
    both_length = ap length both_are ∙ length-append P Q

-- sorting by halves
module _ (L X work : List ℕ) (j h : ℕ) (s : Sorts L X work) (e : h ≡ j * (4 * variables)) (g : h ≤ length L) where
  in_halves : Halved X L h s.some
  in_halves = halved X L j h s.some e g s.lines s.distinct

  pub sorts_first : Sorts (take (h - 0) (drop 0 L)) X work
  sorts_first =
      let x = in_halves in
      rw (first_part L h)
      (record {
        some = x.one;
        lines = x.left;
        whole = lines_length X (take h L) x.one x.left;
        distinct = x.one_distinct;
        room = omega (arith, s.room, length-take h L);
      })

  module _ (P : List ℕ) (p : length P ≡ length (take (h - 0) (drop 0 L))) where
    pub sorts_second : (w : List ℕ) → length w ≡ length work → Sorts (take (length L - h) (drop h (first_changed L P h p g))) X w
    sorts_second w k =
        let x = in_halves in
        rw (second_lent L P h p g)
        (record {
          some = x.two;
          lines = x.right;
          whole = lines_length X (drop h L) x.two x.right;
          distinct = x.two_distinct;
          room = omega (arith, s.room, length-drop h L);
        })

    module _ (a : InOrder (take (h - 0) (drop 0 L)) X P) (Q : List ℕ)
        (q : length Q ≡ length (take (length L - h) (drop h (first_changed L P h p g))))
        (b : InOrder (take (length L - h) (drop h (first_changed L P h p g))) X Q) where
      first_order : InOrder (take h L) X P
      first_order = rw (first_part L h) at a

      second_order : InOrder (drop h L) X Q
      second_order = rw (second_lent L P h p g) at b

      whole_length : length P + length Q ≡ length L
      whole_length = omega (arith, first_length L h g, second_length L P h p g)

      pub halves_of : (w : List ℕ) → length w ≡ length work → Halves (both_changed L P h p g Q q) X w h
      halves_of w k =
          let x = in_halves in
          let y = first_order.sorted x.one x.left x.one_distinct in
          let z = second_order.sorted x.two x.right x.two_distinct in
          let n = both_length L P h p g Q q in
          record {
            merges = rw (first_is L P h p g Q q, second_is L P h p g Q q)
                (record {
                  merging = record {
                    one = y.0;
                    two = z.0;
                    left = y.2;
                    right = z.2;
                    left_whole = omega (arith, lines_length X P y.0 y.2);
                    right_whole = omega (arith, lines_length X Q z.0 z.2);
                  };
                  room = omega (arith, s.room, whole_length);
                });
            within = omega (arith, n, whole_length);
            room = omega (arith, n, whole_length, s.room);
          }

      pub sorted_back :
          (after : List ℕ)
          → Merged (take h (both_changed L P h p g Q q)) (drop h (both_changed L P h p g Q q)) X (both_changed L P h p g Q q) 0 after
          → InOrder L X after
      sorted_back after m =
          whole_sorted L X P Q (both_changed L P h p g Q q) after j h e g (both_length L P h p g Q q) first_order second_order
          (subst₂ (λ (x y : List ℕ). Merged x y X (both_changed L P h p g Q q) 0 after) (first_is L P h p g Q q)
          (second_is L P h p g Q q) m)
