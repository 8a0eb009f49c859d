-- Goals that are refused by the skeletons of their parts.
--   SkeletonSource l W a     l begins with a part of a pattern, and the values of its assigned variables stand in W
--   Prefix c n               the first n bytes of c are the table of a term
--   PartSkeleton l W a c n   that term is a skeleton of the part that l begins with
--   Judges c W r             c is the table of a skeleton, which the targets of the goal r can be compared with, and the heights of its
--                            target can be read
--   SkeletonRefuses c W r    what fits the skeleton with the table c isn't what the goal r asks for
--   Possible c W r b         unless b, the goal r is refused so
use Rattle.std.specs.Prelude.{◌≡◌, Bool, true, false, List, ℕ, ◌-◌, ◌*◌, ◌≤◌, length, take, drop}
use Rattle.terms.specs.Figures.{variables, pattern_records}
use Rattle.terms.specs.Term.{Term, lam, substitute, Closed, Below}
use Rattle.terms.specs.Table.{encode}
use Rattle.matching.specs.Skeletons.{Fits}
use Rattle.records.specs.Parts.{slice, Part}
use Rattle.assignments.specs.declared.Entry.{Entry}
use Rattle.sweeping.specs.Swept.{swept_bytes}
use Rattle.skeletons.specs.Skeleton.{GivenValues, IsSkeleton, SkeletonComparable, SkeletonApplicable}
use Rattle.agenda.specs.declared.StoredGoal.{StoredGoal}
use Rattle.agenda.specs.State.{height_bytes, heights_place}
use Rattle.agenda.specs.Stored.{StoredFits}

pub record SkeletonSource (l W : List ℕ) (a : List Entry) : Type 0 where
  pub tree : Term
  pub part : Part l 0 tree
  pub short : length l ≤ 4 * pattern_records
  pub below : Below variables tree
  pub φ : ℕ → Term
  pub gives : GivenValues W a φ tree

pub record Prefix (c : List ℕ) (n : ℕ) : Type 0 where
  pub tree : Term
  pub bytes : take (n - 0) (drop 0 c) ≡ encode tree
  pub least : 4 ≤ n
  pub within : n ≤ length c
  pub most : n ≤ swept_bytes

pub record PartSkeleton (l W : List ℕ) (a : List Entry) (c : List ℕ) (n : ℕ) : Type 0 where
  pub table : Prefix c n
  pub closed : Closed pattern_records table.tree
  pub is_skeleton : (t : Term) → Part l 0 t → IsSkeleton W a t table.tree

pub record Judges (c W : List ℕ) (r : StoredGoal) : Type 0 where
  pub low : height_bytes ≤ r.origin
  pub fits : StoredFits r
  pub target : SkeletonComparable c (slice W r.target) (slice W (heights_place r.origin r.target))
  pub both :
      ¬ (r.argument ≡ 0)
      → SkeletonApplicable c (slice W r.argument) (slice W r.target) (slice W (heights_place r.origin r.target))

pub record SkeletonRefuses (c W : List ℕ) (r : StoredGoal) : Type 0 where
  pub matches : r.argument ≡ 0 → (x t : Term) → Part c 0 x → Part W r.target t → ¬ Fits x t
  pub builds :
      ¬ (r.argument ≡ 0) → (x e t b : Term) → Part c 0 x → Part W r.argument e → Part W r.target t → Fits x (lam b)
      → ¬ (substitute 0 e b ≡ t)

unfoldable pub Possible : List ℕ → List ℕ → StoredGoal → Bool → Type 0
Possible c W r true = Unit {0}
Possible c W r false = SkeletonRefuses c W r
