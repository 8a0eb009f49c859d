-- Whether a term fits a skeleton, told by a walk over the two together.
--   SkeletonCompared c s r   the walk over the skeleton that c begins with and the term that s begins with came to the ends of both
--                            exactly if the term fits the skeleton
use Rattle.std.specs.declared.option.Option.{Option}
use Rattle.std.specs.declared.option.Option.TheVariants.{Some, None}
use Rattle.std.specs.Prelude.{List, ℕ}
use Rattle.terms.specs.Term.{Term}
use Rattle.matching.specs.Skeletons.{Fits}
use Rattle.records.specs.Parts.{Part, Ends}
use Rattle.instances.specs.declared.Places.{Places}

unfoldable pub SkeletonCompared : List ℕ → List ℕ → Option Places → Type 0
SkeletonCompared c s (Some p) = Ends c 0 p.first × Ends s 0 p.second × ((x y : Term) → Part c 0 x → Part s 0 y → Fits x y)
SkeletonCompared c s None = (x y : Term) → Part c 0 x → Part s 0 y → ¬ Fits x y
