-- The depths of a part's records, written one behind another: what writing those of its parts needs, and what was written for a term when
-- its parts' depths were. By the term's kind, which its first record shows; an argument's depths stand behind the head's. Assumes nothing.
use mathlib.Core.Path.{◌≡◌, sym, ap, ◌∙◌}
use mathlib.Core.List.{List}
use mathlib.Core.Logic.{inl, inr, ⊎_elim}
use Prim.Native.Nat.{ℕ, suc, ◌+◌, ◌/◌, ◌≤◌, ◌<◌}
use native.Mathlib.Omega.{arith}
use native.Mathlib.Numerals.{add-one}
use lib.ListN.{length, get_or, set}
use lib.Seq.{get_or-set_same, get_or-set_other}
use Rattle.terms.specs.Term.{Term, app, lam, size}
use Rattle.matching.specs.Occurrences.{part_at}
use Rattle.records.specs.Parts.{slice, Part, Whole, Ends}
use Rattle.records.proofs.Parts.{whole, leaf_size}
use Rattle.records.proofs.Slices.{part_slice}
use Rattle.shifting.proofs.Slices.{application_slices, abstraction_slices, slices_argument, slices_app, slices_lam, slices_leaf}
use Rattle.abstractions.specs.Occurrences.{DepthOf, DepthSource, WroteDepths}
use Rattle.abstractions.proofs.Occurrences.{index_app, index_lam, index_leaf}

depth_source : (s : List ℕ) (d room o : ℕ) (t : Term) → Part s 0 t → o + size t ≤ room → d + size t ≤ 256 → DepthSource s d room o
depth_source s d room o t p e n = record {
  tree = t;
  part = p;
  enough = e;
  shallow = n;
  least = omega (arith, p.some, p.within);
  first = omega (arith, p.some);
  fits = omega (arith, p.some);
}

module _ (s : List ℕ) (d o : ℕ) where
  -- what the parts need, and the room, as the length of what a writer left
  module _ (room rest : ℕ) (same_room : rest ≡ room) (x : DepthSource s d room o) where
    pub depths_whole : Whole s 0
    depths_whole = whole s 0 x.tree x.part

    pub depths_head : get_or s 0 0 ≡ 0 → DepthSource (slice s 4) d rest (o + 1)
    depths_head z =
        let v = application_slices s x.tree x.part z in
        let n = ap size v.is in
        depth_source (slice s 4) d rest (o + 1) v.f v.head (omega (arith, x.enough)) (omega (arith, x.shallow))

    pub depths_argument : (h : ℕ) → get_or s 0 0 ≡ 0 → Ends (slice s 4) 0 h → DepthSource (slice s (4 + h)) d rest (o + (4 + h) / 4)
    depths_argument h z e =
        let v = application_slices s x.tree x.part z in
        let n = ap size v.is in
        let m = e.exact v.f v.head in
        depth_source (slice s (4 + h)) d rest (o + (4 + h) / 4) v.a (slices_argument s h x.tree e v) (omega (arith, x.enough))
        (omega (arith, x.shallow))

    pub depths_body : get_or s 0 0 ≡ 1 → DepthSource (slice s 4) (d + 1) rest (o + 1)
    depths_body z =
        let v = abstraction_slices s x.tree x.part z in
        let n = ap size v.is in
        depth_source (slice s 4) (d + 1) rest (o + 1) v.b v.body (omega (arith, x.enough)) (omega (arith, x.shallow))

  -- what was written
  module _ (out : List ℕ) (room : o < length out) where
    own : get_or (set out o d) o 0 ≡ d
    own = get_or-set_same out o d 0 room

    other : (i : ℕ) → ¬ (i ≡ o) → get_or (set out o d) i 0 ≡ get_or out i 0
    other i n = get_or-set_other out o i d 0 n

    abbrev At : List ℕ → ℕ → ℕ × Term → Type 0
    At after i q = get_or after (o + i) 0 ≡ q.0

    at_index : (after : List ℕ) (i j k : ℕ) → i ≡ j → get_or after j 0 ≡ k → get_or after i 0 ≡ k
    at_index after i j k e p = ap (λ (n : ℕ). get_or after n 0) e ∙ p

    pub depths_application : (q after : List ℕ) (h r : ℕ) → get_or s 0 0 ≡ 0 → WroteDepths (slice s 4) d (set out o d) (o + 1) q h
        → WroteDepths (slice s (4 + h)) d q (o + (4 + h) / 4) after r → WroteDepths s d out o after (4 + h + r)
    depths_application q after h r z x y = record {
      ends = slices_app s h r z x.ends y.ends;
      depths = λ t p j i.
          let v = application_slices s t p z in
          let w = slices_argument s h t x.ends v in
          let m = x.ends.exact v.f v.head in
          let n : j < size (app v.f v.a) = omega (arith, ap size v.is) in
          index_app (At after) d v.f v.a
          (at_index after (o + 0) o d (omega arith)
          (y.others v.a w o (inl (omega arith)) ∙ x.others v.f v.head o (inl (omega arith)) ∙ own))
          (λ k u. y.others v.a w (o + suc k) (inl (omega arith))
          ∙ at_index q (o + suc k) (o + 1 + k) (part_at d v.f k).0 (omega arith) (x.depths v.f v.head k u))
          (λ k u. at_index after (o + suc (size v.f + k)) (o + (4 + h) / 4 + k) (part_at d v.a k).0 (omega arith)
          (y.depths v.a w k u))
          j n
          ∙ ap (λ (u : Term). (part_at d u j).0) (sym v.is);
      others = λ t p i c.
          let v = application_slices s t p z in
          let w = slices_argument s h t x.ends v in
          let m = x.ends.exact v.f v.head in
          let n = ap size v.is in
          y.others v.a w i (⊎_elim (λ u. inl (omega arith)) (λ u. inr (omega arith)) c)
          ∙ x.others v.f v.head i (⊎_elim (λ u. inl (omega arith)) (λ u. inr (omega arith)) c)
          ∙ other i (⊎_elim (λ u e. omega arith) (λ u e. omega arith) c);
    }

    pub depths_abstraction : (after : List ℕ) (r : ℕ) → get_or s 0 0 ≡ 1 → WroteDepths (slice s 4) (d + 1) (set out o d) (o + 1) after r
        → WroteDepths s d out o after (4 + r)
    depths_abstraction after r z x = record {
      ends = slices_lam s r z x.ends;
      depths = λ t p j i.
          let v = abstraction_slices s t p z in
          let n : j < size (lam v.b) = omega (arith, ap size v.is) in
          index_lam (At after) d v.b (at_index after (o + 0) o d (omega arith) (x.others v.b v.body o (inl (omega arith)) ∙ own))
          (λ k u.
          at_index after (o + suc k) (o + 1 + k) (part_at (suc d) v.b k).0 (omega arith)
          (x.depths v.b v.body k u ∙ ap (λ (e : ℕ). (part_at e v.b k).0) (add-one d)))
          j n
          ∙ ap (λ (u : Term). (part_at d u j).0) (sym v.is);
      others = λ t p i c.
          let v = abstraction_slices s t p z in
          let n = ap size v.is in
          x.others v.b v.body i (⊎_elim (λ u. inl (omega arith)) (λ u. inr (omega arith)) c)
          ∙ other i (⊎_elim (λ u e. omega arith) (λ u e. omega arith) c);
    }

    pub depths_leaf : Whole s 0 → ¬ (get_or s 0 0 ≡ 0) → ¬ (get_or s 0 0 ≡ 1) → WroteDepths s d out o (set out o d) 4
    depths_leaf x n m = record {
      ends = slices_leaf s n m x;
      depths = λ t p j i.
          let k = leaf_size s 0 t p n m in
          index_leaf (At (set out o d)) d t (at_index (set out o d) (o + 0) o d (omega arith) own) j (omega arith);
      others = λ t p i c. let k = leaf_size s 0 t p n m in other i (⊎_elim (λ u e. omega arith) (λ u e. omega arith) c);
    }

-- a part of a table, handed on as a slice: what writing its depths needs, and what a caller reads
pub depths_at : (l : List ℕ) (at d room o : ℕ) (t : Term) → Part l at t → o + size t ≤ room → d + size t ≤ 256
    → DepthSource (slice l at) d room o
depths_at l at d room o t p e n = depth_source (slice l at) d room o t (part_slice l at t p) e n

pub depth_written : (l : List ℕ) (at : ℕ) (out after : List ℕ) (r : ℕ) → WroteDepths (slice l at) 0 out 0 after r → (j : ℕ)
    → DepthOf l at j (get_or after j 0)
depth_written l at out after r x j t p h = ap (λ (i : ℕ). get_or after i 0) (omega arith) ∙ x.depths t (part_slice l at t p) j h
