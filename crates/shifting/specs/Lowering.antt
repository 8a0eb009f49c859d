-- What moving a part out of the binders above it needs, and what it leaves. A part moves out of those that it doesn't use.
--   Movable d c x                x uses none of d binders, the innermost of which local c belongs to: it is some term shifted
--   Inside c d n                 local n belongs to one of those binders
--   Lowers l c d room o          l begins with a term, and there is room for it from byte o on, before byte `room`
--   Leaves l c d out o after r   that term was moved out of the binders and written into out from byte o on, and takes as many bytes as the
--                                walk went; or out is as it was before byte o
--   Lowered l c d out o after r  the same, the first exactly if the term uses none of them
use Rattle.std.specs.declared.option.Option.{Option}
use Rattle.std.specs.declared.option.Option.TheVariants.{Some, None}
use Rattle.std.specs.Prelude.{◌≡◌, List, ℕ, ◌+◌, ◌*◌, ◌≤◌, ◌<◌, length, take}
use Rattle.terms.specs.Figures.{numbers}
use Rattle.terms.specs.Term.{Term, size, shift, unshift}
use Rattle.records.specs.Parts.{Part}
use Rattle.records.specs.Tests.{Walked}
use Rattle.substitution.specs.Writers.{Wrote}

abbrev pub Movable : ℕ → ℕ → Term → Type 0
Movable d c x = x ≡ shift d c (unshift d c x)

abbrev pub Inside : ℕ → ℕ → ℕ → Type 0
Inside c d n = (c ≤ n) × (n < c + d)

pub record Lowers (l : List ℕ) (c d room o : ℕ) : Type 0 where
  pub tree : Term
  pub part : Part l 0 tree
  pub enough : o + 4 * size tree ≤ room
  pub shallow : c + size tree ≤ numbers
  pub few : d ≤ numbers
  pub least : 4 ≤ length l
  pub first : o + 4 ≤ room

-- as many bytes are written as the part has
unfoldable pub Leaves : List ℕ → ℕ → ℕ → List ℕ → ℕ → List ℕ → Option ℕ → Type 0
Leaves l c d out o after (Some h) = Wrote (unshift d) l 0 c out o after h (o + h)
Leaves l c d out o after None = take o after ≡ take o out

pub record Lowered (l : List ℕ) (c d : ℕ) (out : List ℕ) (o : ℕ) (after : List ℕ) (r : Option ℕ) : Type 0 where
  pub walked : Walked l 0 (Movable d c) r
  pub leaves : Leaves l c d out o after r
