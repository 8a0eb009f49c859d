-- What writing the skeleton of a part of a pattern needs, and what it leaves.
--   GivenValues s a φ p                the entries a, with the value table s, give each variable i of p that is assigned the value φ i
--   SkeletonInput l s a                a part of a pattern, as a table, with the values of its assigned variables
--   IsSkeleton s a t x                 every swept form of t, filled with values and so, fits the skeleton x
--   WritesSkeleton l s a out n after   the skeleton of the part with the table l was written into out from byte 0 on, n records
--   SkeletonComparable c s h           c begins with a skeleton, s with a term, and h with the heights of that term's parts
--   MayBe c s r                        unless r, the term that s begins with doesn't fit the skeleton that c begins with
--   SkeletonApplicable c e t h         a skeleton, as a table, and two terms that e and t begin with; h begins with the heights of the
--                                      latter's parts
--   MayBuild c e t r                   unless r, no abstraction that fits the skeleton with the table c comes to the term that t begins
--                                      with, with the one that e begins with put in
use Rattle.std.specs.Prelude.{◌≡◌, Bool, true, false, List, ℕ, ◌+◌, ◌≤◌, length, get_or}
use Rattle.std.proofs.lemmas.List.Edits.{sets}
use Rattle.terms.specs.Figures.{variables, numbers, swept_records, table_bytes}
use Rattle.terms.specs.Term.{Term, lam, size, substitute, Closed, Below, Occurs}
use Rattle.terms.specs.Sweep.{sweep, fill}
use Rattle.terms.specs.Table.{encode}
use Rattle.matching.specs.Lists.{Values}
use Rattle.matching.specs.Skeletons.{Fits}
use Rattle.records.specs.Parts.{Part, Whole}
use Rattle.heights.specs.Heights.{HeightsAt}
use Rattle.assignments.specs.Entries.{Given}
use Rattle.assignments.specs.declared.Span.{Span}
use Rattle.assignments.specs.declared.Entry.{Entry}
use Rattle.assignments.specs.declared.Entry.TheVariants.{Open, Assigned}

abbrev pub GivenValues : List ℕ → List Entry → (ℕ → Term) → Term → Type 0
GivenValues s a φ p = (i : ℕ) (x : Span) → Occurs i p → get_or a i Open ≡ Assigned x → Given s a i (φ i)

pub record SkeletonInput (l s : List ℕ) (a : List Entry) : Type 0 where
  pub tree : Term
  pub bytes : l ≡ encode tree
  pub least : 4 ≤ length l
  pub most : length l ≤ table_bytes
  pub depth : ℕ
  pub shallow : depth + size tree + swept_records ≤ numbers
  pub closed : Closed depth tree
  pub below : Below variables tree
  pub φ : ℕ → Term
  pub gives : GivenValues s a φ tree

abbrev pub IsSkeleton : List ℕ → List Entry → Term → Term → Type 0
IsSkeleton s a t x = (φ : ℕ → Term) → Values φ → GivenValues s a φ t → Fits x (sweep (fill φ t))

pub record SkeletonWritten (s : List ℕ) (a : List Entry) (t : Term) (out : List ℕ) (n : ℕ) (after : List ℕ) : Type 0 where
  pub skeleton : Term
  pub bytes : after ≡ sets out 0 (encode skeleton)
  pub sized : n ≡ size skeleton
  pub closed : (d : ℕ) → Closed d t → Closed d skeleton
  pub is_skeleton : IsSkeleton s a t skeleton

pub record WritesSkeleton (l s : List ℕ) (a : List Entry) (out : List ℕ) (n : ℕ) (after : List ℕ) : Type 0 where
  pub written : (t : Term) → l ≡ encode t → SkeletonWritten s a t out n after
  pub some : 1 ≤ n
  pub few : n ≤ swept_records

pub record SkeletonComparable (c s h : List ℕ) : Type 0 where
  pub skeleton : Whole c 0
  pub term : Whole s 0
  pub skeleton_most : length c ≤ table_bytes
  pub term_most : length s ≤ table_bytes
  pub heights : HeightsAt h 0 term.tree

unfoldable pub MayBe : List ℕ → List ℕ → Bool → Type 0
MayBe c s true = Unit {0}
MayBe c s false = (x y : Term) → Part c 0 x → Part s 0 y → ¬ Fits x y

pub record SkeletonApplicable (c e t h : List ℕ) : Type 0 where
  pub skeleton : Term
  pub argument : Term
  pub bytes : c ≡ encode skeleton
  pub part : Part e 0 argument
  pub least : 4 ≤ length c
  pub few : size skeleton ≤ swept_records
  pub argument_few : size argument ≤ swept_records
  pub depth : ℕ
  pub shallow : depth + swept_records ≤ numbers
  pub closed : Closed depth skeleton
  pub argument_closed : Closed depth argument
  pub target : Whole t 0
  pub most : length t ≤ table_bytes
  pub heights : HeightsAt h 0 target.tree

unfoldable pub MayBuild : List ℕ → List ℕ → List ℕ → Bool → Type 0
MayBuild c e t true = Unit {0}
MayBuild c e t false = (x y z b : Term) → Part c 0 x → Part e 0 y → Part t 0 z → Fits x (lam b) → ¬ (substitute 0 y b ≡ z)
