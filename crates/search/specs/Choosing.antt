-- The choices of the first deferred goal, one to build.
--   Choosing P W s a c k n   n copies of its argument, of which the bytes c decide k
use Rattle.std.specs.Prelude.{◌≡◌, List, ℕ, ◌≤◌, length}
use Rattle.terms.specs.Figures.{value_records}
use Rattle.terms.specs.Listing.{Line}
use Rattle.matching.specs.Goals.{Goal}
use Rattle.assignments.specs.declared.Entry.{Entry}
use Rattle.agenda.specs.declared.Agenda.{Agenda}
use Rattle.agenda.specs.State.{State, relinking}
use Rattle.builds.specs.Choices.{CopiesAre}

pub record Choosing (P W : List ℕ) (s : Agenda) (a : List Entry) (c : List ℕ) (k n : ℕ) : Type 0 where
  pub upto : k ≤ n
  pub most : n ≤ value_records
  pub sized : length c ≡ value_records
  pub are : (gs hs : List Goal) (l : Line) → State relinking P W s a gs hs l → CopiesAre n hs
