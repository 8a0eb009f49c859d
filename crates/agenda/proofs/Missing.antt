-- A loose local of the target that neither the head nor the argument's target uses, as its marks show it. The marks are read at
-- one local, which the head is asked for. Assumes nothing.
use mathlib.Core.Path.{◌≡◌, subst}
use mathlib.Core.Bool.{Bool, true, false}
use mathlib.Core.List.{List}
use Prim.Native.Nat.{ℕ, ◌*◌, ◌<◌, ◌≤◌}
use native.Mathlib.Omega.{arith}
use lib.ListN.{length, get_or, replicate}
use Rattle.std.specs.Bool.{MatchBool}
use Rattle.terms.specs.Figures.{pattern_records}
use Rattle.terms.specs.Term.{Term, uses}
use Rattle.records.specs.Parts.{slice, Part, Whole}
use Rattle.records.proofs.Slices.{part_slice, whole_slice, slice_length}
use Rattle.shifting.specs.Locals.{Marks, Marked}
use Rattle.agenda.specs.Locals.{Unused, Missing, ArgumentComparable, Misses}
use Rattle.agenda.proofs.Lacking.{uses_marked, unused_unmarked}

pub missing_unused : (P : List ℕ) (k m n : ℕ) (b : Bool) → ¬ (n ≡ 1) → Unused P k m b → Missing P k m n b
unfolding Missing Unused
missing_unused P k m n true q x = (x.0, q, x.1)
missing_unused P k m n false q x = tt

pub missing_none : (P : List ℕ) (k m n : ℕ) → Missing P k m n false
unfolding Missing
missing_none P k m n = tt

-- what a search for a local that is missing comes to
pub misses : (P W E : List ℕ) (r q : ℕ) (after other : List ℕ) (b : Bool)
    → Marked W 0 (replicate pattern_records 0) after r → Marked E 0 (replicate pattern_records 0) other q
    → MatchBool b ((k : ℕ) × (k < pattern_records) × Missing P k (get_or after k 0) (get_or other k 0) true)
    ((k : ℕ) → k < pattern_records → Unit {0})
    → Misses P W E b
unfolding Missing Misses
misses P W E r q after other true x y m =
    let z = m.2 in
    (m.0, λ f t u d v w. (uses_marked W r after x m.0 m.1 t v z.0, z.2 f d, unused_unmarked E q other y m.0 m.1 u w z.1))
misses P W E r q after other false x y m = tt

-- parts of tables, handed on as slices
module _ (P : List ℕ) (i : ℕ) (W : List ℕ) (j : ℕ) (E : List ℕ) (e : ℕ) where
  pub argument_comparable_at : Whole P i → length P ≤ 4 * pattern_records → Marks (slice W j) 0 pattern_records
      → Marks (slice E e) 0 pattern_records
      → ArgumentComparable (slice P i) (slice W j) (slice E e)
  argument_comparable_at x h m n = record { part = whole_slice P i x; short = omega (arith, slice_length P i); target = m; argument = n }

  pub misses_at : (b : Bool) → b ≡ true → Misses (slice P i) (slice W j) (slice E e) b
      → (k : ℕ) × ((f t x : Term) → Part P i f → Part W j t → Part E e x → (uses k t ≡ true) × (uses k f ≡ false) × (uses k x ≡ false))
  unfolding Misses
  misses_at b g m =
      let q : Misses (slice P i) (slice W j) (slice E e) true = subst (Misses (slice P i) (slice W j) (slice E e)) g m in
      (q.0, λ f t x u v w. q.1 f t x (part_slice P i f u) (part_slice W j t v) (part_slice E e x w))
