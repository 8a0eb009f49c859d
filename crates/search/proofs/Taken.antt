-- What the answer of a step says, by its cases. By the definitions. Assumes nothing.
use mathlib.Core.Path.{◌≡◌, subst}
use mathlib.Core.List.{List}
use Prim.Native.Nat.{ℕ, ◌<◌, ◌≤◌}
use lib.ListN.{set}
use Rattle.std.specs.declared.option.Option.{Option}
use Rattle.std.specs.declared.option.Option.TheVariants.{Some, None}
use Rattle.terms.specs.Figures.{variables, value_records}
use Rattle.terms.specs.Listing.{Line}
use Rattle.matching.specs.Goals.{Goal}
use Rattle.assignments.specs.declared.Entry.{Entry}
use Rattle.assignments.specs.declared.Entry.TheVariants.{Assigned}
use Rattle.agenda.specs.declared.Agenda.{Agenda}
use Rattle.agenda.specs.declared.Binding.{Binding}
use Rattle.agenda.specs.declared.Step.{Step}
use Rattle.agenda.specs.declared.Decision.{Decision}
use Rattle.agenda.specs.declared.Plan.{Plan}
use Rattle.agenda.specs.State.{State, Sat, relinking}
use Rattle.agenda.specs.Moves.{Question, Move, Failed, Branched, Decided}
use Rattle.steps.specs.Steps.{Stepped}
use Rattle.builds.specs.Choices.{CopiesAre, Planned}

module _ (P W : List ℕ) (s : Agenda) (a : List Entry) (W₁ : List ℕ) where
  module _ (r : Step) (x : Stepped P W s a W₁ r) where
    pub stepped_failed : r ≡ Step.Failed → Failed 0 P W s a Sat W₁
    stepped_failed e = unfold Stepped in subst (Stepped P W s a W₁) e x

    pub stepped_left : (s₁ : Agenda) → r ≡ Step.Left s₁ → Move 0 P W s a Sat W₁ s₁ a
    stepped_left s₁ e = unfold Stepped in subst (Stepped P W s a W₁) e x

    pub stepped_assign : (b : Binding) → r ≡ Step.Assign b
        → (b.variable < variables) × Move 0 P W s a Sat W₁ b.agenda (set a b.variable (Assigned b.span))
    stepped_assign b e = unfold Stepped in subst (Stepped P W s a W₁) e x

  module _ (Q : Question) (r : Option Agenda) (x : Branched P W s a Q W₁ r) where
    pub branched_failed : r ≡ None → Failed relinking P W s a Q W₁
    branched_failed e = unfold Branched in subst (Branched P W s a Q W₁) e x

    pub branched_next : (s₁ : Agenda) → r ≡ Some s₁ → Move relinking P W s a Q W₁ s₁ a
    branched_next s₁ e = unfold Branched in subst (Branched P W s a Q W₁) e x

  module _ (k : ℕ) (r : Decision) (x : Decided k P W s a W₁ r) where
    pub taken_failed : r ≡ Decision.Failed → Failed k P W s a Sat W₁
    taken_failed e = unfold Decided in subst (Decided k P W s a W₁) e x

    pub taken_next : (s₁ : Agenda) → r ≡ Decision.Next s₁ → Move k P W s a Sat W₁ s₁ a
    taken_next s₁ e = unfold Decided in subst (Decided k P W s a W₁) e x

    pub taken_open : r ≡ Decision.Open → W₁ ≡ W
    taken_open e = unfold Decided in subst (Decided k P W s a W₁) e x

  module _ (r : Plan) (x : Planned P W s a W₁ r) where
    pub planned_failed : r ≡ Plan.Failed → Failed relinking P W s a Sat W₁
    planned_failed e = unfold Planned in subst (Planned P W s a W₁) e x

    pub planned_next : (s₁ : Agenda) → r ≡ Plan.Next s₁ → Move relinking P W s a Sat W₁ s₁ a
    planned_next s₁ e = unfold Planned in subst (Planned P W s a W₁) e x

    pub planned_bodies : (n : ℕ) → r ≡ Plan.Bodies n
        → (W₁ ≡ W) × (n ≤ value_records) × ((gs hs : List Goal) (l : Line) → State relinking P W s a gs hs l → CopiesAre n hs)
    planned_bodies n e = unfold Planned in subst (Planned P W s a W₁) e x
