-- One step of the first easy goal.
--   Stepped P W s a W' r   what the answer of a step says
use Rattle.std.specs.Prelude.{List, ℕ, ◌<◌, set}
use Rattle.terms.specs.Figures.{variables}
use Rattle.assignments.specs.declared.Entry.{Entry}
use Rattle.assignments.specs.declared.Entry.TheVariants.{Assigned}
use Rattle.agenda.specs.declared.Agenda.{Agenda}
use Rattle.agenda.specs.declared.Step.{Step}
use Rattle.agenda.specs.State.{Sat}
use Rattle.agenda.specs.Moves.{Move, Failed}

unfoldable pub Stepped : List ℕ → List ℕ → Agenda → List Entry → List ℕ → Step → Type 0
Stepped P W s a W' Step.Failed = Failed 0 P W s a Sat W'
Stepped P W s a W' (Step.Left s') = Move 0 P W s a Sat W' s' a
Stepped P W s a W' (Step.Assign b) =
    (b.variable < variables) × Move 0 P W s a Sat W' b.agenda (set a b.variable (Assigned b.span))
