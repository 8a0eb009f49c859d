-- What the writers of single skeletons need, and what they leave: those of a contracted application and a contracted abstraction, from the
-- skeletons of the parts, and that of a variable.
--   ApplicationSkeleton f a x           whatever fits f, applied to whatever fits a, contracts to what fits x
--   AbstractionSkeleton b x             the abstraction over whatever fits b contracts to what fits x
--   Writes P out n after                the table of a term of which P holds was written into out from byte 0 on, n records
--   WritesApplication f a out n after   what writing the skeleton of an application leaves, where f and a are its parts' skeletons, as
--                                       tables
--   WritesAbstraction b out n after     what writing the skeleton of an abstraction leaves, where b is its body's skeleton, as a table
--   Exact t                             t has no hole
--   Known s a i                         the entries a, with the value table s, have a value for variable i, if it is assigned
--   Entered s a i out n after           what writing the skeleton of variable i leaves
use Rattle.std.specs.Prelude.{◌≡◌, false, List, ℕ, suc, ◌≤◌, ◌<◌, get_or}
use Rattle.std.proofs.lemmas.List.Edits.{sets}
use Rattle.terms.specs.Figures.{variables, swept_records}
use Rattle.terms.specs.Term.{Term, app, lam, var, size, Closed}
use Rattle.terms.specs.Sweep.{contract}
use Rattle.terms.specs.Table.{encode}
use Rattle.matching.specs.Skeletons.{Fits, has_variable}
use Rattle.assignments.specs.Entries.{Given}
use Rattle.assignments.specs.declared.Span.{Span}
use Rattle.assignments.specs.declared.Entry.{Entry}
use Rattle.assignments.specs.declared.Entry.TheVariants.{Open, Assigned}
use Rattle.skeletons.specs.Skeleton.{SkeletonWritten}

pub record ApplicationSkeleton (f a x : Term) : Type 0 where
  pub closed : (d : ℕ) → Closed d f → Closed d a → Closed d x
  pub fits : (g b : Term) → Fits f g → Fits a b → Fits x (contract (app g b))

pub record AbstractionSkeleton (b x : Term) : Type 0 where
  pub closed : (d : ℕ) → Closed (suc d) b → Closed d x
  pub fits : (u : Term) → Fits b u → Fits x (contract (lam u))

pub record Writes (P : Term → Type 0) (out : List ℕ) (n : ℕ) (after : List ℕ) : Type 0 where
  pub skeleton : Term
  pub bytes : after ≡ sets out 0 (encode skeleton)
  pub sized : n ≡ size skeleton
  pub holds : P skeleton

pub record WritesApplication (f a out : List ℕ) (n : ℕ) (after : List ℕ) : Type 0 where
  pub written : (x y : Term) → f ≡ encode x → a ≡ encode y → Writes (ApplicationSkeleton x y) out n after
  pub some : 1 ≤ n
  pub few : n ≤ swept_records

pub record WritesAbstraction (b out : List ℕ) (n : ℕ) (after : List ℕ) : Type 0 where
  pub written : (x : Term) → b ≡ encode x → Writes (AbstractionSkeleton x) out n after
  pub some : 1 ≤ n
  pub few : n ≤ swept_records

abbrev pub Exact : Term → Type 0
Exact t = has_variable t ≡ false

pub record Known (s : List ℕ) (a : List Entry) (i : ℕ) : Type 0 where
  pub below : i < variables
  pub given : (x : Span) → get_or a i Open ≡ Assigned x → (v : Term) × Given s a i v

pub record Entered (s : List ℕ) (a : List Entry) (i : ℕ) (out : List ℕ) (n : ℕ) (after : List ℕ) : Type 0 where
  pub written : SkeletonWritten s a (var i) out n after
  pub some : 1 ≤ n
  pub few : n ≤ swept_records
