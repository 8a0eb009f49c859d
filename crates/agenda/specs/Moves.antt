-- One step of a search: from a state to the next one, for the same assignments.
--   progress s                   falls at each step: the room above `top`, and where that stays the same the place of the first easy goal
--   Move k P W s a Q W' s' a'    the next state's assignments are those of Q in the state before, which may lack k bytes
--   Failed k P W s a Q W'        Q has no assignment
--   Branched, Decided            what the answer of a step says
use Rattle.std.specs.declared.option.Option.{Option}
use Rattle.std.specs.declared.option.Option.TheVariants.{Some, None}
use Rattle.std.specs.Prelude.{◌≡◌, ◌↔◌, List, ℕ, ◌+◌, ◌-◌, ◌*◌, ◌<◌, ◌≤◌, take}
use Rattle.terms.specs.Figures.{table_bytes}
use Rattle.terms.specs.Term.{Term}
use Rattle.terms.specs.Listing.{Line}
use Rattle.matching.specs.Lists.{Values, Predicate}
use Rattle.matching.specs.Goals.{Goal}
use Rattle.assignments.specs.declared.Entry.{Entry}
use Rattle.agenda.specs.declared.Agenda.{Agenda}
use Rattle.agenda.specs.declared.Decision.{Decision}
use Rattle.agenda.specs.State.{State, Sat, Bounds, relinking}

abbrev pub progress : Agenda → ℕ
progress s = (table_bytes - s.top) * (table_bytes + 1) + s.easy

-- the assignments that a step is for, given the goals and the line
abbrev pub Question : Type 1
Question = List Goal → List Goal → Line → Predicate

pub record Moved (P W : List ℕ) (s : Agenda) (a : List Entry) (Q : Predicate) : Type 0 where
  pub gs : List Goal
  pub hs : List Goal
  pub line : Line
  pub state : State 0 P W s a gs hs line
  pub same : (φ : ℕ → Term) → Values φ → Q φ ↔ Sat gs hs line φ

pub record Move (k : ℕ) (P W : List ℕ) (s : Agenda) (a : List Entry) (Q : Question) (W' : List ℕ) (s' : Agenda)
    (a' : List Entry) : Type 0 where
  pub go : (gs hs : List Goal) (l : Line) → State k P W s a gs hs l → Moved P W' s' a' (Q gs hs l)
  pub kept : take s.top W' ≡ take s.top W
  pub higher : s.top ≤ s'.top
  pub falls : progress s' < progress s
  pub bounds : Bounds P W' s'

pub record Failed (k : ℕ) (P W : List ℕ) (s : Agenda) (a : List Entry) (Q : Question) (W' : List ℕ) : Type 0 where
  pub none : (gs hs : List Goal) (l : Line) → State k P W s a gs hs l → (φ : ℕ → Term) → Values φ → ¬ Q gs hs l φ
  pub kept : take s.top W' ≡ take s.top W

unfoldable pub Branched : List ℕ → List ℕ → Agenda → List Entry → Question → List ℕ → Option Agenda → Type 0
Branched P W s a Q W' None = Failed relinking P W s a Q W'
Branched P W s a Q W' (Some s') = Move relinking P W s a Q W' s' a

unfoldable pub Decided : ℕ → List ℕ → List ℕ → Agenda → List Entry → List ℕ → Decision → Type 0
Decided k P W s a W' Decision.Failed = Failed k P W s a Sat W'
Decided k P W s a W' (Decision.Next s') = Move k P W s a Sat W' s' a
Decided k P W s a W' Decision.Open = W' ≡ W
