-- What the ways of an application that was deferred need.
--   ApplicationDeferred P W s a    the first deferred goal is an application that has to sweep to a target
--   WaysCounted P W s a w          what w says of its ways holds
--   argument_of t j                the j-th part of t, moved out of the binders above it
--   ArgumentPlace W top at j       the term of W at byte `at` is a target with a j-th part, and there is room for another one with its
--                                  heights from byte `top` on
--   Argument W top t j X r         the j-th part of t uses none of the binders above it, and stands moved out of them in X from byte
--                                  `top + height_bytes` up to byte r, with its heights in front; what is below `top` is W's
--   Placed W top at j X r          the same of the term of W at byte `at`; or its j-th part is no argument
--   head_goal s r                  the goal that the head of the application in the goal r builds its target from what stands there
--   argument_goal s h              the goal that its argument, at byte h of the pattern, sweeps to that
--   ArgumentRoom W s r h end       these two goals can be written from byte `end` on
--   ArgumentPushed W s r h end X s'   they were
use Rattle.std.specs.declared.option.Option.{Option}
use Rattle.std.specs.declared.option.Option.TheVariants.{Some, None}
use Rattle.std.specs.Prelude.{◌≡◌, true, List, ℕ, ◌+◌, ◌*◌, ◌<◌, ◌≤◌, length, take}
use Rattle.std.proofs.lemmas.List.Edits.{sets}
use Rattle.terms.specs.Figures.{pattern_records, value_records, table_bytes}
use Rattle.terms.specs.Term.{Term, size, unshift, Closed}
use Rattle.terms.specs.Listing.{Line}
use Rattle.terms.specs.Heads.{rigid}
use Rattle.matching.specs.Goals.{Goal}
use Rattle.matching.specs.Occurrences.{part_at, Copy, FirstCopy}
use Rattle.records.specs.Parts.{Part, Ends}
use Rattle.assignments.specs.declared.Entry.{Entry}
use Rattle.agenda.specs.declared.Agenda.{Agenda}
use Rattle.agenda.specs.declared.StoredGoal.{StoredGoal}
use Rattle.agenda.specs.declared.Ways.{Ways}
use Rattle.agenda.specs.Stored.{stored_bytes, stored_match, stored_build, StoredFits}
use Rattle.agenda.specs.State.{goal_bytes, IsMatch, target_bytes, height_bytes, HeightsBeside}
use Rattle.agenda.specs.State.{State, Ready, pattern_at, relinking, target_start}
use Rattle.arguments.specs.Ways.{HasWays, HasDepths, HeadLacks, Fitting}
use Rattle.deciding.specs.Refuting.{Prefix}

pub record ApplicationDeferred (P W : List ℕ) (s : Agenda) (a : List Entry) : Type 0 where
  pub ready : Ready relinking P W s a
  pub some_deferred : 0 < s.deferred
  pub kind : IsMatch W s.deferred

pub record WaysCounted (P W : List ℕ) (s : Agenda) (a : List Entry) (w : Ways) : Type 0 where
  pub ways : (gs hs : List Goal) (l : Line) → State relinking P W s a gs hs l → HasWays w.count hs
  pub argument : Ends P (pattern_at W s.deferred + 4) w.argument
  pub rigid_argument : (t : Term) → Part P w.argument t → w.rigid ≡ rigid t
  pub depths_are : (gs hs : List Goal) (l : Line) → State relinking P W s a gs hs l → HasDepths w.depths hs
  pub skeleton_table : Prefix w.skeleton.bytes w.skeleton.length
  pub skeleton_fits : (gs hs : List Goal) (l : Line) → State relinking P W s a gs hs l → Fitting skeleton_table.tree l hs
  pub lacking_head : w.lacking ≡ true → (gs hs : List Goal) (l : Line) → State relinking P W s a gs hs l → HeadLacks hs

abbrev pub argument_of : Term → ℕ → Term
argument_of t j = unshift (part_at 0 t j).0 0 (part_at 0 t j).1

pub record ArgumentPlace (W : List ℕ) (top at j : ℕ) : Type 0 where
  pub tree : Term
  pub part : Part W at tree
  pub few : size tree ≤ value_records
  pub closed : Closed pattern_records tree
  pub within : j < size tree
  pub room : top + height_bytes + target_bytes ≤ length W
  pub most : length W ≤ table_bytes

pub record Argument (W : List ℕ) (top : ℕ) (t : Term) (j : ℕ) (X : List ℕ) (r : ℕ) : Type 0 where
  pub within : j < size t
  pub copy : Copy (part_at 0 t j) (argument_of t j)
  pub part : Part X (top + height_bytes) (argument_of t j)
  pub heights : HeightsBeside X (top + height_bytes) (top + height_bytes) (argument_of t j)
  pub end : r ≡ top + height_bytes + 4 * size (argument_of t j)
  pub same_below : take top X ≡ take top W
  pub same_length : length X ≡ length W

abbrev pub head_goal : Agenda → StoredGoal → StoredGoal
head_goal s r = stored_build (r.part + 4) r.origin r.target r.next (target_start s)

abbrev pub argument_goal : Agenda → ℕ → StoredGoal
argument_goal s h = stored_match h (target_start s) (target_start s) s.easy

pub record ArgumentRoom (W : List ℕ) (s : Agenda) (r : StoredGoal) (h end : ℕ) : Type 0 where
  pub room : end + 2 * goal_bytes ≤ length W
  pub most : length W ≤ table_bytes
  pub build_fits : StoredFits (head_goal s r)
  pub match_fits : StoredFits (argument_goal s h)

pub record ArgumentPushed (W : List ℕ) (s : Agenda) (r : StoredGoal) (h end : ℕ) (X : List ℕ) (s' : Agenda) : Type 0 where
  pub stored : X ≡ sets (sets W end (stored_bytes (head_goal s r))) (end + goal_bytes) (stored_bytes (argument_goal s h))
  pub agenda : s' ≡ record { top = end + 2 * goal_bytes; easy = end + goal_bytes; deferred = end }

unfoldable pub Placed : List ℕ → ℕ → ℕ → ℕ → List ℕ → Option ℕ → Type 0
Placed W top at j X (Some r) = (t : Term) → Part W at t → Argument W top t j X r
Placed W top at j X None = (take top X ≡ take top W) × ((t e : Term) → Part W at t → ¬ FirstCopy t j e)
