-- The deferred goals, as a list that is walked over and linked anew.
--   Reaches W at i                     a list that begins at byte `at` comes to the goal at byte i
--   linked x n                         the goal x with another one next
--   Branches P W                       P begins with an application, and W with a term
--   Costed P W at                      a goal that may be deferred stands in W at byte `at`
--   Ranks P W at                       a list of deferred goals begins at byte `at`, and has one at least
--   Drops W top at i                   the goals of a list from byte `at` on can be written anew at `top`, without the one at byte i
--   Without P X top list end g gs hs   the list at byte `list` of X, below byte `end`, has the goals hs, which are those of gs but for g
--   Dropped W top at i X list end      such a list in X has the goals that begin at byte `at` of W, but for the one at byte i
use Rattle.std.specs.Prelude.{◌≡◌, ◌↔◌, List, ℕ, ◌+◌, ◌*◌, ◌%◌, ◌<◌, ◌≤◌, length, get_or, take}
use Rattle.terms.specs.Table.{application_kind}
use Rattle.terms.specs.Figures.{pattern_records, table_bytes}
use Rattle.terms.specs.Term.{Term}
use Rattle.matching.specs.Goals.{Goal, Meets, All}
use Rattle.records.specs.Parts.{Whole}
use Rattle.agenda.specs.declared.StoredGoal.{StoredGoal}
use Rattle.agenda.specs.State.{goal_bytes, next_at, GoalAt, Deferred, Node, Chain, weight, weights}

pub data Reaches : List ℕ → ℕ → ℕ → Type 0 where
  here : {W : List ℕ} {at i : ℕ} → 0 < at → at ≡ i → Reaches W at i
  further : {W : List ℕ} {at i : ℕ} → 0 < at → Reaches W (next_at W at) i → Reaches W at i

abbrev pub linked : StoredGoal → ℕ → StoredGoal
linked x n = record { part = x.part; origin = x.origin; target = x.target; next = n; argument = x.argument }

pub record Branches (P W : List ℕ) : Type 0 where
  pub part : Whole P 0
  pub kind : get_or P 0 0 ≡ application_kind
  pub target : Whole W 0
  pub most : length W ≤ table_bytes

pub record Costed (P W : List ℕ) (at : ℕ) : Type 0 where
  pub top : ℕ
  pub goal : Goal
  pub stands : GoalAt P W top at goal
  pub deferred : Deferred goal
  pub within : at + goal_bytes ≤ length W
  pub most : length W ≤ table_bytes
  pub short : length P ≤ 4 * pattern_records

pub record Ranks (P W : List ℕ) (at : ℕ) : Type 0 where
  pub top : ℕ
  pub goals : List Goal
  pub chain : Chain Deferred P W top at goals
  pub some : 0 < at
  pub within : at + goal_bytes ≤ length W
  pub falls : next_at W at < at
  pub below : top ≤ length W
  pub most : length W ≤ table_bytes
  pub short : length P ≤ 4 * pattern_records

pub record Drops (W : List ℕ) (top at i : ℕ) : Type 0 where
  pub pattern : List ℕ
  pub goals : List Goal
  pub chain : Chain Deferred pattern W top at goals
  pub reaches : Reaches W at i
  pub within : at + goal_bytes ≤ top
  pub falls : next_at W at < at
  pub whole : length W ≡ table_bytes
  pub room : top + goal_bytes * length goals ≤ table_bytes
  pub even : top % 4 ≡ 0

pub record Without (P X : List ℕ) (top list end : ℕ) (g : Goal) (gs hs : List Goal) : Type 0 where
  pub chain : Chain Deferred P X end list hs
  pub few : end + goal_bytes ≤ top + goal_bytes * length gs
  pub weighs : weights 0 gs ≡ weight g + weights 0 hs
  pub same : (φ : ℕ → Term) → All gs φ ↔ (Meets g φ × All hs φ)

pub record Dropped (W : List ℕ) (top at i : ℕ) (X : List ℕ) (list end : ℕ) : Type 0 where
  pub go :
      (P : List ℕ) (gs : List Goal) → Chain Deferred P W top at gs → Reaches W at i
      → (g : Goal) × (hs : List Goal) × Node Deferred P W top i g × Without P X top list end g gs hs
  -- what stands behind the dropped goal is reached still
  pub later : (P : List ℕ) (gs : List Goal) → Chain Deferred P W top at gs → Reaches W at i → (j : ℕ)
      → Reaches W (next_at W i) j → Reaches X list j
  pub kept : take top X ≡ take top W
  pub whole : length X ≡ length W
  pub higher : top ≤ end
  pub even : end % 4 ≡ 0
  pub list_even : list % 4 ≡ 0
  pub below : list + goal_bytes ≤ end
