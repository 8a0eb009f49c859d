-- What the entries of an assignment hold.
--   Held s top x v        the value v stands in s where the span x says, below byte `top`
--   EntryHeld s top e o   the entry e, with the bytes s, is the entry o of a line
--   Holds s top a l       the entries a, with the bytes s, are the line l; every value stands below byte `top`
use Rattle.std.specs.Prelude.{◌≡◌, List, [], ◌∷◌, ℕ, ◌+◌, ◌*◌, ◌≤◌}
use Rattle.std.proofs.Math.Option.{Option, none, some}
use Rattle.terms.specs.Figures.{value_records}
use Rattle.terms.specs.Term.{Term, size, Value}
use Rattle.terms.specs.Listing.{Line}
use Rattle.records.specs.Parts.{Part}
use Rattle.assignments.specs.declared.Span.{Span}
use Rattle.assignments.specs.declared.Entry.{Entry}
use Rattle.assignments.specs.declared.Entry.TheVariants.{Open, Assigned}

pub record Held (s : List ℕ) (top : ℕ) (x : Span) (v : Term) : Type 0 where
  pub part : Part s (4 * x.first) v
  pub count : x.count ≡ size v
  pub below : 4 * (x.first + x.count) ≤ top
  pub most : size v ≤ value_records
  pub value : Value v

abbrev pub EntryHeld : List ℕ → ℕ → Entry → Option Term → Type 0
EntryHeld s top Open none = Unit {0}
EntryHeld s top Open (some v) = ⊥
EntryHeld s top (Assigned x) none = ⊥
EntryHeld s top (Assigned x) (some v) = Held s top x v

abbrev pub Holds : List ℕ → ℕ → List Entry → Line → Type 0
Holds s top [] [] = Unit {0}
Holds s top [] (o ∷ l) = ⊥
Holds s top (e ∷ a) [] = ⊥
Holds s top (e ∷ a) (o ∷ l) = EntryHeld s top e o × Holds s top a l
