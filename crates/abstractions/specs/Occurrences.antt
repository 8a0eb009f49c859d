-- The parts of a part, numbered in table order as `matching` numbers them: how deep one stands, and whether one is a copy of a term. A part
-- is given by a list that begins with it; bytes may follow behind it.
--   DepthOf l at j r                r binders stand between the start of the part of l at byte `at` and its j-th part
--   DepthSource s d room o          s begins with a term, and the depths of its records, counted from d, can be written from index o on,
--                                   before index `room`: they fit a byte
--   WroteDepths s d out o after r   that term takes r bytes, the depth of its j-th record stands at index o + j, and what stands elsewhere
--                                   is kept
--   Looks s e d                     s and e begin with terms, and d binders above the first can be counted further
--   CopyAt s e d r                  r says whether the part that s begins with is the one that e begins with, moved in below d binders
--   NoneBefore s goal e d left      of the first `goal` parts of the part that s begins with none is such a copy, and it has all but `left`
--                                   of them
--   CopyBefore s goal e d r         the same for r, or one is
--   Earlier s j e r                 r says whether one of the first j parts of the part that s begins with is such a copy
use Rattle.std.specs.declared.option.Option.{Option}
use Rattle.std.specs.declared.option.Option.TheVariants.{Some, None}
use Rattle.std.specs.Prelude.{◌≡◌, Bool, true, false, List, ◌⊎◌, ℕ, ◌+◌, ◌-◌, ◌≤◌, ◌<◌, length, get_or}
use Rattle.terms.specs.Figures.{table_bytes}
use Rattle.terms.specs.Term.{Term, size}
use Rattle.matching.specs.Occurrences.{part_at, Copy}
use Rattle.records.specs.Parts.{Part, Whole, Ends}
use Rattle.records.specs.Tests.{Says}
use Rattle.shifting.specs.Tests.{Shifted}

abbrev pub DepthOf : List ℕ → ℕ → ℕ → ℕ → Type 0
DepthOf l at j r = (t : Term) → Part l at t → j < size t → r ≡ (part_at 0 t j).0

pub record DepthSource (s : List ℕ) (d room o : ℕ) : Type 0 where
  pub tree : Term
  pub part : Part s 0 tree
  pub enough : o + size tree ≤ room
  pub shallow : d + size tree ≤ 256
  pub least : 4 ≤ length s
  pub first : o < room
  pub fits : d < 256

pub record WroteDepths (s : List ℕ) (d : ℕ) (out : List ℕ) (o : ℕ) (after : List ℕ) (r : ℕ) : Type 0 where
  pub ends : Ends s 0 r
  pub depths : (t : Term) → Part s 0 t → (j : ℕ) → j < size t → get_or after (o + j) 0 ≡ (part_at d t j).0
  pub others : (t : Term) → Part s 0 t → (i : ℕ) → (i < o) ⊎ (o + size t ≤ i) → get_or after i 0 ≡ get_or out i 0

-- d grows by one for a binder, whose record has four bytes
pub record Looks (s e : List ℕ) (d : ℕ) : Type 0 where
  pub first : Whole s 0
  pub second : Whole e 0
  pub shallow : d + length s ≤ table_bytes

unfoldable pub CopyAt : List ℕ → List ℕ → ℕ → Bool → Type 0
CopyAt s e d r = (x y : Term) → Part s 0 x → Part e 0 y → Says r (Shifted d 0 x y)

pub record NoneBefore (s : List ℕ) (goal : ℕ) (e : List ℕ) (d left : ℕ) : Type 0 where
  pub behind : (x : Term) → Part s 0 x → left ≡ goal - size x
  pub none : (x y : Term) → Part s 0 x → Part e 0 y → (i : ℕ) → i < size x → i < goal → ¬ Copy (part_at d x i) y

unfoldable pub CopyBefore : List ℕ → ℕ → List ℕ → ℕ → Option ℕ → Type 0
CopyBefore s goal e d (Some left) = NoneBefore s goal e d left
CopyBefore s goal e d None = (x y : Term) → Part s 0 x → Part e 0 y → (i : ℕ) × (i < size x) × (i < goal) × Copy (part_at d x i) y

unfoldable pub Earlier : List ℕ → ℕ → List ℕ → Bool → Type 0
Earlier s j e true = (x y : Term) → Part s 0 x → Part e 0 y → (i : ℕ) × (i < j) × (i < size x) × Copy (part_at 0 x i) y
Earlier s j e false = (x y : Term) → Part s 0 x → Part e 0 y → (i : ℕ) → i < j → i < size x → ¬ Copy (part_at 0 x i) y
