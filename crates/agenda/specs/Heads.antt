-- What is known of the heads of a part and a target, each the term that a list begins with.
--   Agree P W b   unless b, the term of P, if it has a rigid head, never sweeps to the one of W, moved out of binders
use Rattle.std.specs.Prelude.{◌≡◌, Bool, true, false, List, ℕ}
use Rattle.terms.specs.Term.{Term}
use Rattle.terms.specs.Heads.{rigid}
use Rattle.matching.specs.Occurrences.{Unlike}
use Rattle.records.specs.Parts.{Part}

unfoldable pub Agree : List ℕ → List ℕ → Bool → Type 0
Agree P W true = Unit {0}
Agree P W false = (q t : Term) → Part P 0 q → Part W 0 t → rigid q ≡ true → Unlike q t
