-- The bodies of a goal to build that was deferred.
--   Choices m k      the assignments by which the first deferred goal, a goal to build, has a body with the first k choices of m
--   CopiesAre n hs   the argument of the first goal of hs has n copies in its target
--   ChosenBody m     those by which it has the body of m's choices
--   Planned ..       what the answer of a plan for a goal to build says
use Rattle.std.specs.Prelude.{◌≡◌, true, List, [], ◌∷◌, ℕ, ◌≤◌}
use Rattle.terms.specs.Figures.{value_records}
use Rattle.terms.specs.Term.{lam, uses}
use Rattle.terms.specs.Listing.{Line}
use Rattle.matching.specs.Lists.{Extends}
use Rattle.matching.specs.Goals.{Sweeps, Goal, Goal.match, Goal.build, All}
use Rattle.matching.specs.Bodies.{ChosenSoFar, copies, body}
use Rattle.assignments.specs.declared.Entry.{Entry}
use Rattle.abstractions.specs.Bodies.{chosen_in}
use Rattle.agenda.specs.declared.Agenda.{Agenda}
use Rattle.agenda.specs.declared.Plan.{Plan}
use Rattle.agenda.specs.State.{State, Sat, relinking}
use Rattle.agenda.specs.Moves.{Question, Move, Failed}

abbrev pub Choices : List ℕ → ℕ → Question
Choices m k gs [] l φ = ⊥
Choices m k gs (match p t ∷ hs) l φ = ⊥
Choices m k gs (build f t e ∷ hs) l φ = All gs φ × (ChosenSoFar f t e (chosen_in m) k φ × All hs φ) × Extends φ l

-- how many copies of the argument there are
abbrev pub CopiesAre : ℕ → List Goal → Type 0
CopiesAre n [] = ⊥
CopiesAre n (match p t ∷ hs) = ⊥
CopiesAre n (build f t e ∷ hs) = n ≡ copies e 0 t

abbrev pub ChosenBody : List ℕ → Question
ChosenBody m gs [] l φ = ⊥
ChosenBody m gs (match p t ∷ hs) l φ = ⊥
ChosenBody m gs (build f t e ∷ hs) l φ =
    All gs φ × ((Sweeps f (lam (body e 0 t (chosen_in m) 0)) φ × (uses 0 (body e 0 t (chosen_in m) 0) ≡ true)) × All hs φ) × Extends φ l

unfoldable pub Planned : List ℕ → List ℕ → Agenda → List Entry → List ℕ → Plan → Type 0
Planned P W s a W' Plan.Failed = Failed relinking P W s a Sat W'
Planned P W s a W' (Plan.Next s') = Move relinking P W s a Sat W' s' a
Planned P W s a W' (Plan.Bodies n) =
    (W' ≡ W) × (n ≤ value_records) × ((gs hs : List Goal) (l : Line) → State relinking P W s a gs hs l → CopiesAre n hs)
