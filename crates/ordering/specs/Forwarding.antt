-- Another deferred goal is brought to the front.
--   Brought, Forwarded ..   the same goals, another one first
use Rattle.std.specs.Prelude.{◌≡◌, ◌↔◌, List, ℕ, ◌<◌, ◌≤◌, take}
use Rattle.terms.specs.Term.{Term}
use Rattle.terms.specs.Listing.{Line}
use Rattle.matching.specs.Lists.{Values, Predicate}
use Rattle.matching.specs.Goals.{Goal}
use Rattle.assignments.specs.declared.Entry.{Entry}
use Rattle.agenda.specs.declared.Agenda.{Agenda}
use Rattle.agenda.specs.State.{State, Sat, Bounds, relinking}
use Rattle.agenda.specs.Moves.{progress}

pub record Brought (P W : List ℕ) (s : Agenda) (a : List Entry) (Q : Predicate) : Type 0 where
  pub gs : List Goal
  pub hs : List Goal
  pub line : Line
  pub state : State relinking P W s a gs hs line
  pub same : (φ : ℕ → Term) → Values φ → Q φ ↔ Sat gs hs line φ

pub record Forwarded (P W : List ℕ) (s : Agenda) (a : List Entry) (W' : List ℕ) (s' : Agenda) : Type 0 where
  pub go : (gs hs : List Goal) (l : Line) → State 0 P W s a gs hs l → Brought P W' s' a (Sat gs hs l)
  pub kept : take s.top W' ≡ take s.top W
  pub higher : s.top ≤ s'.top
  pub level : progress s' ≤ progress s
  pub bounds : Bounds P W' s'
  pub none_easy : s'.easy ≡ 0
  pub some_deferred : 0 < s'.deferred
