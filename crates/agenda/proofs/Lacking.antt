-- Locals that a target has and a part of the pattern lacks, found by the marks of the target's locals. A local that is marked is one that
-- the target uses, since no mark was there before. Assumes nothing.
use mathlib.Core.Path.{◌≡◌, refl, sym, ◌∙◌, subst}
use mathlib.Core.Bool.{Bool, true, false, cond}
use mathlib.Core.List.{List}
use Prim.Native.Nat.{ℕ, zero, suc, ◌*◌, ◌<◌, ◌≤◌}
use native.Mathlib.Omega.{arith}
use lib.ListN.{length, get_or, replicate, length-replicate}
use Rattle.std.specs.Prelude.{is_some}
use Rattle.std.specs.declared.option.Option.{Option}
use Rattle.std.specs.declared.option.Option.TheVariants.{Some, None}
use Rattle.std.specs.Bool.{MatchBool}
use Rattle.terms.specs.Figures.{pattern_records, numbers}
use Rattle.terms.specs.Term.{Term, size, uses, Closed}
use Rattle.terms.proofs.Locals.{closed_more}
use Rattle.records.specs.Parts.{slice, Part, Whole}
use Rattle.records.specs.Tests.{Asks, Walked}
use Rattle.records.specs.declared.Ask.TheVariants.{Other}
use Rattle.records.proofs.Slices.{part_slice, whole_slice, slice_length}
use Rattle.shifting.specs.Locals.{Marks, Marked}
use Rattle.shifting.proofs.Locals.{marks_at, marking, mark_true, mark_false}
use Rattle.agenda.specs.Locals.{Unused, Locals, Lacks}

pub not_unused : (P : List ℕ) (k m : ℕ) → Unused P k m false
unfolding Unused
not_unused P k m = tt

pub is_unused : (P : List ℕ) (k m : ℕ) (w : Option ℕ) → m ≡ 1 → Walked P 0 (Asks Other k) w → Unused P k m (is_some w)
unfolding Unused Walked
is_unused P k m (Some n) h x = (h, x.1)
is_unused P k m None h x = tt

get_or_zeros : (n j : ℕ) → ◌≡◌ {A = ℕ} (get_or (replicate n 0) j 0) 0
get_or_zeros zero j = refl
get_or_zeros (suc n) zero = refl
get_or_zeros (suc n) (suc j) = get_or_zeros n j

-- what the marks of a term say of local k
module _ (W : List ℕ) (r : ℕ) (after : List ℕ) (x : Marked W 0 (replicate pattern_records 0) after r) (k : ℕ) (h : k < pattern_records)
    (t : Term) (p : Part W 0 t) where
  mark : get_or after k 0 ≡ cond (uses k t) 1 0
  mark = marking W (replicate pattern_records 0) after r t (get_or_zeros pattern_records) x p k
      (omega (arith, length-replicate {A = ℕ} pattern_records 0))

  pub uses_marked : get_or after k 0 ≡ 1 → uses k t ≡ true
  uses_marked e = mark_true (uses k t) (sym mark ∙ e)

  pub unused_unmarked : ¬ (get_or after k 0 ≡ 1) → uses k t ≡ false
  unused_unmarked n = mark_false (uses k t) (λ e. n (mark ∙ e))

-- what a search for a local that is marked and unused comes to
pub lacks : (P W : List ℕ) (m : List ℕ) (r : ℕ) (b : Bool) → Marked W 0 (replicate pattern_records 0) m r
    → MatchBool b ((k : ℕ) × (k < pattern_records) × Unused P k (get_or m k 0) true) ((k : ℕ) → k < pattern_records → Unit {0})
    → Lacks P W b
unfolding Lacks Unused
lacks P W m r true x u = (u.0, λ p t y z. (u.2.1 p y, uses_marked W r m x u.0 u.1 t z u.2.0))
lacks P W m r false x u = tt

-- a mark for each loose local of a term that stands in a table
pub all_marks_at : (W : List ℕ) (j n : ℕ) (t : Term) → Part W j t → n ≤ pattern_records → Closed n t → size t ≤ numbers
    → Marks (slice W j) 0 pattern_records
all_marks_at W j n t x h c s = marks_at W j 0 pattern_records t x (closed_more n pattern_records t h c) (omega arith)

-- parts of tables, handed on as slices
module _ (P : List ℕ) (i : ℕ) (W : List ℕ) (j : ℕ) where
  pub locals_at : Whole P i → length P ≤ 4 * pattern_records → Marks (slice W j) 0 pattern_records → Locals (slice P i) (slice W j)
  locals_at x h m = record { part = whole_slice P i x; short = omega (arith, slice_length P i); target = m }

  pub lacks_at : (b : Bool) → b ≡ true → Lacks (slice P i) (slice W j) b
      → (k : ℕ) × ((p t : Term) → Part P i p → Part W j t → (uses k p ≡ false) × (uses k t ≡ true))
  unfolding Lacks
  lacks_at b e x =
      let q : Lacks (slice P i) (slice W j) true = subst (Lacks (slice P i) (slice W j)) e x in
      (q.0, λ p t y z. q.1 p t (part_slice P i p y) (part_slice W j t z))
