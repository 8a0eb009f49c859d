-- What tests of two parts say of the terms there. A part is given by a list that begins with it; bytes may follow behind it.
--   PartsComparable s e c d   s and e begin with terms, and the numbers of their locals can be compared
--   Shifted d c x y           the term x is y shifted by d from local c on
--   PartsCompared s e P r     a walk over the parts that s and e begin with came to the first one's end exactly if P holds of the two terms
use Rattle.std.specs.declared.option.Option.{Option}
use Rattle.std.specs.declared.option.Option.TheVariants.{Some, None}
use Rattle.std.specs.Prelude.{◌≡◌, List, ℕ, ◌+◌, ◌≤◌, length}
use Rattle.terms.specs.Figures.{numbers, table_bytes}
use Rattle.terms.specs.Term.{Term, shift}
use Rattle.records.specs.Parts.{Part, Whole, Ends}

-- c grows by one for a binder, whose record has four bytes
pub record PartsComparable (s e : List ℕ) (c d : ℕ) : Type 0 where
  pub first : Whole s 0
  pub second : Whole e 0
  pub shallow : c + length s ≤ table_bytes
  pub few : d ≤ numbers

abbrev pub Shifted : ℕ → ℕ → Term → Term → Type 0
Shifted d c x y = x ≡ shift d c y

unfoldable pub PartsCompared : List ℕ → List ℕ → (Term → Term → Type 0) → Option ℕ → Type 0
PartsCompared s e P (Some r) = Ends s 0 r × ((x y : Term) → Part s 0 x → Part e 0 y → P x y)
PartsCompared s e P None = (x y : Term) → Part s 0 x → Part e 0 y → ¬ P x y
