-- How the goals, targets and values of a search stand in the work area.
--   pattern_at, origin_at, target_at, next_at, argument_at   the five fields of a goal that stands at a byte of the work area, as bytes
--   goal_bytes                                the bytes of a goal
--   IsMatch W at                              the goal at byte `at` has no argument: its part has to sweep to its target
--   target_bytes                              the most bytes of a target
--   height_bytes                              the bytes in front of a target, for the heights of its parts
--   heights_place b at                        where the heights of the target at byte `at` begin, a part of the one that begins at byte b
--   HeightsBeside W b at t                    they stand there, for the term t
--   target_start s                            where a target begins that is written at the top, behind its heights
--   WrittenTarget W at end                    a term stands in W from byte `at` up to byte `end`, the heights of whose parts can be kept
--   Target W top n b at t                     the term t stands in W from byte `at` on, below `top`, with its heights, as a part of the
--                                             target that begins at byte b, and is small enough for a part of n records to meet
--   GoalAt P W top at g                       the goal g stands in W at byte `at`
--   Easy g, Deferred g                        g may stand in the list of the easy goals, or of those deferred
--   Chain K P W top at gs                     the goals gs, all of kind K, are a linked list in W that begins at byte `at`
--   record_weight, build_weight               the bytes that a goal may still take up for each record of its part, and one to build besides
--   weights k gs                              the bytes that the goals gs may still take up, k more for each
--   most_deferred                             the most goals that can be deferred
--   relinking                                 the bytes that bringing a goal forward may take up
--   State k P W s a gs hs l the agenda s has the easy goals gs and the goals hs deferred, the entries a are the line l, and the work area
--                           suffices for the goals but for k bytes
--   Sat gs hs l φ                             φ satisfies the goals and extends the line
--   Bounds P W s                              the bounds that every step needs
--   Ready k P W s a                           some state stands there
use Rattle.std.specs.Prelude.{◌≡◌, List, [], ◌∷◌, ℕ, suc, ◌+◌, ◌-◌, ◌*◌, ◌/◌, ◌%◌, ◌<◌, ◌≤◌, length, get_or}
use Rattle.terms.specs.Figures.{variables, pattern_records, value_records, table_bytes}
use Rattle.terms.specs.Term.{Term, app, lam, loc, con, var, size, Normal, Ground, Closed}
use Rattle.terms.specs.Assignment.{Assigns}
use Rattle.terms.specs.Listing.{Line}
use Rattle.terms.specs.Layout.{word_at}
use Rattle.terms.specs.Refusal.{OccursIn}
use Rattle.matching.specs.Lists.{Extends, Predicate}
use Rattle.matching.specs.Goals.{Goal, Goal.match, Goal.build, All, Listable}
use Rattle.records.specs.Parts.{Part}
use Rattle.heights.specs.Heights.{HeightsAt}
use Rattle.assignments.specs.declared.Entry.{Entry}
use Rattle.assignments.specs.Held.{Holds}
use Rattle.agenda.specs.declared.Agenda.{Agenda}

-- a goal is eight bytes: the pattern's part as a record number, how many records its target stands behind the first one of the target that
-- it is a part of, and as record numbers of two bytes each where that begins, the next goal (0: none) and the argument's target (0: none)
abbrev pub goal_bytes : ℕ
goal_bytes = 8

abbrev pub pattern_at : List ℕ → ℕ → ℕ
pattern_at W at = 4 * get_or W at 0

abbrev pub origin_at : List ℕ → ℕ → ℕ
origin_at W at = 4 * word_at W (at + 2)

abbrev pub target_at : List ℕ → ℕ → ℕ
target_at W at = origin_at W at + 4 * get_or W (at + 1) 0

abbrev pub next_at : List ℕ → ℕ → ℕ
next_at W at = 4 * word_at W (at + 4)

abbrev pub argument_at : List ℕ → ℕ → ℕ
argument_at W at = 4 * word_at W (at + 6)

-- a goal to build has an argument, which never stands at the start of the work area
abbrev pub IsMatch : List ℕ → ℕ → Type 0
IsMatch W at = argument_at W at ≡ 0

abbrev pub target_bytes : ℕ
target_bytes = 4 * value_records

-- a byte for each record of the longest target
abbrev pub height_bytes : ℕ
height_bytes = value_records

abbrev pub heights_place : ℕ → ℕ → ℕ
heights_place b at = b - height_bytes + (at - b) / 4

abbrev pub target_start : Agenda → ℕ
target_start s = s.top + height_bytes

pub record HeightsBeside (W : List ℕ) (b at : ℕ) (t : Term) : Type 0 where
  pub low : height_bytes ≤ b
  pub from : b ≤ at
  pub within : at + 4 * size t ≤ b + target_bytes
  pub heights : HeightsAt W (heights_place b at) t

pub record WrittenTarget (W : List ℕ) (at end : ℕ) : Type 0 where
  pub tree : Term
  pub part : Part W at tree
  pub end_is : end ≡ at + 4 * size tree
  pub few : size tree ≤ value_records
  pub closed : Closed pattern_records tree
  pub room : height_bytes ≤ at

-- a target grows by at most two records, and by one loose local, for each record of the pattern that is used up
pub record Target (W : List ℕ) (top n b at : ℕ) (t : Term) : Type 0 where
  pub part : Part W at t
  pub below : at + 4 * size t ≤ top
  pub normal : Normal t
  pub ground : Ground t
  pub few : n ≤ pattern_records
  pub closed : Closed (pattern_records - n) t
  pub short : size t + 2 * n ≤ value_records
  pub heights : HeightsBeside W b at t

pub record MatchAt (P W : List ℕ) (top at : ℕ) (p t : Term) : Type 0 where
  pub kind : IsMatch W at
  pub part : Part P (pattern_at W at) p
  pub target : Target W top (size p) (origin_at W at) (target_at W at) t
  pub suits : Listable variables (OccursIn P) (match p t)

-- the argument's target is no part of another one
pub record BuildAt (P W : List ℕ) (top at : ℕ) (f t e : Term) : Type 0 where
  pub kind : ¬ IsMatch W at
  pub part : Part P (pattern_at W at) f
  pub target : Target W top (suc (size f)) (origin_at W at) (target_at W at) t
  pub argument : Target W top (suc (size f)) (argument_at W at) (argument_at W at) e
  pub suits : Listable variables (OccursIn P) (build f t e)

abbrev pub GoalAt : List ℕ → List ℕ → ℕ → ℕ → Goal → Type 0
GoalAt P W top at (match p t) = MatchAt P W top at p t
GoalAt P W top at (build f t e) = BuildAt P W top at f t e

abbrev pub Easy : Goal → Type 0
Easy (match p t) = Unit {0}
Easy (build f t e) = ⊥

abbrev pub Deferred : Goal → Type 0
Deferred (match (app f a) t) = Unit {0}
Deferred (match (lam b) t) = ⊥
Deferred (match (loc n) t) = ⊥
Deferred (match (con n) t) = ⊥
Deferred (match (var n) t) = ⊥
Deferred (build f t e) = Unit {0}

pub record Node (K : Goal → Type 0) (P W : List ℕ) (top at : ℕ) (g : Goal) : Type 0 where
  pub kind : K g
  pub low : 0 < at
  pub room : at + goal_bytes ≤ top
  pub even : at % 4 ≡ 0
  pub falls : next_at W at < at
  pub goal : GoalAt P W top at g

abbrev pub Chain : (Goal → Type 0) → List ℕ → List ℕ → ℕ → ℕ → List Goal → Type 0
Chain K P W top at [] = at ≡ 0
Chain K P W top at (g ∷ gs) = Node K P W top at g × Chain K P W top (next_at W at) gs

abbrev pub record_weight : ℕ
record_weight = 2000

abbrev pub build_weight : ℕ
build_weight = 1000

abbrev pub weight : Goal → ℕ
weight (match p t) = record_weight * size p
weight (build f t e) = record_weight * size f + build_weight

abbrev pub weights : ℕ → List Goal → ℕ
weights k [] = 0
weights k (g ∷ gs) = k + weight g + weights k gs

-- at most 21 goals are deferred, each with a weight of 3,000 or more: an application has three records, and a goal to build weighs 1,000
-- besides its part
abbrev pub most_deferred : ℕ
most_deferred = 21

abbrev pub relinking : ℕ
relinking = goal_bytes * most_deferred

pub record State (k : ℕ) (P W : List ℕ) (s : Agenda) (a : List Entry) (gs hs : List Goal) (l : Line) : Type 0 where
  pub easy : Chain Easy P W s.top s.easy gs
  pub deferred : Chain Deferred P W s.top s.deferred hs
  pub entries : Holds W s.top a l
  pub line : length l ≡ variables
  pub assigns : Assigns (OccursIn P) l
  pub room : s.top + weights goal_bytes gs + weights 0 hs ≤ table_bytes + k

abbrev pub Sat : List Goal → List Goal → Line → Predicate
Sat gs hs l φ = All gs φ × All hs φ × Extends φ l

pub record Bounds (P W : List ℕ) (s : Agenda) : Type 0 where
  pub whole : length W ≡ table_bytes
  pub short : length P ≤ 4 * pattern_records
  pub top : s.top ≤ table_bytes
  pub start : goal_bytes ≤ s.top
  pub even : s.top % 4 ≡ 0
  pub easy_room : s.easy + goal_bytes ≤ s.top
  pub easy_even : s.easy % 4 ≡ 0
  pub deferred_room : s.deferred + goal_bytes ≤ s.top
  pub deferred_even : s.deferred % 4 ≡ 0

pub record Ready (k : ℕ) (P W : List ℕ) (s : Agenda) (a : List Entry) : Type 0 where
  pub gs : List Goal
  pub hs : List Goal
  pub line : Line
  pub state : State k P W s a gs hs line
  pub bounds : Bounds P W s
