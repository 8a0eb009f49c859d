-- Lists with no member twice. What the search's contracts say of its lines; no promise of an operation cites it.
--   Distinct l   no member of l stands twice in it
use Rattle.std.specs.Prelude.{List, [], ◌∷◌}
use Rattle.terms.specs.Listing.{In}

module _ {A : Type 0} where
  abbrev pub Distinct : List A → Type 0
  Distinct [] = Unit {0}
  Distinct (x ∷ l) = ¬ In x l × Distinct l
