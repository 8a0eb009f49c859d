-- What the steps of a goal to build need, and what they leave.
--   Builds W s                  the first deferred goal is one to build, and no easy goal is left
--   AnyChosen m n r             r says whether one of the first n choices of m is made
--   after_stored s r at         the agenda when an easy goal was written at byte `at`, and the goal r was dropped from those deferred
--   target_end s b              where it ends if it is the abstraction over a body with the table b
--   Pushes W s r b              b is the table of a body, the abstraction over which can be a target, and there is room for it and a goal
--   Suitable n t                the term t may be the target of a part of n records
--   StoredPushed W s r b X s'   that abstraction was written as a target, and behind it the goal that the part of r sweeps to it
--   Solves x e t                the term x is an abstraction that uses its local, and comes to t with e put in
--   Solving h e t               h, e and t begin with terms whose locals can be compared
--   Solved h e t r              r says whether the term that h begins with solves those that e and t begin with
use Rattle.std.specs.Prelude.{◌≡◌, Bool, true, List, ℕ, ◌+◌, ◌-◌, ◌*◌, ◌%◌, ◌<◌, ◌≤◌, length, take}
use Rattle.terms.specs.Figures.{pattern_records, value_records, table_bytes}
use Rattle.terms.specs.Term.{Term, lam, size, substitute, uses, Normal, Ground, Closed}
use Rattle.terms.specs.Table.{encode}
use Rattle.matching.specs.Bodies.{Some}
use Rattle.records.specs.Parts.{Part, Whole}
use Rattle.records.specs.Tests.{Says}
use Rattle.abstractions.specs.Bodies.{chosen_in}
use Rattle.agenda.specs.declared.Agenda.{Agenda}
use Rattle.agenda.specs.declared.StoredGoal.{StoredGoal}
use Rattle.agenda.specs.State.{goal_bytes, target_start, Target, IsMatch}
use Rattle.agenda.specs.Stored.{part_limit, StoredAt, stored_match}

pub record Builds (W : List ℕ) (s : Agenda) : Type 0 where
  pub none_easy : s.easy ≡ 0
  pub some_deferred : 0 < s.deferred
  pub kind : ¬ IsMatch W s.deferred

pub record AnyChosen (m : List ℕ) (n : ℕ) (r : Bool) : Type 0 where
  pub is : Says r (Some (chosen_in m) 0 n)

abbrev pub after_stored : Agenda → StoredGoal → ℕ → Agenda
after_stored s r at = record { top = at + goal_bytes; easy = at; deferred = r.next }

abbrev pub target_end : Agenda → List ℕ → ℕ
target_end s b = target_start s + 4 + length b

pub record Pushes (W : List ℕ) (s : Agenda) (r : StoredGoal) (b : List ℕ) : Type 0 where
  pub whole : length W ≡ table_bytes
  pub room : target_end s b + goal_bytes ≤ table_bytes
  pub even : s.top % 4 ≡ 0
  pub easy : s.easy < table_bytes
  pub easy_even : s.easy % 4 ≡ 0
  pub part : r.part < part_limit
  pub part_even : r.part % 4 ≡ 0
  pub body : Term
  pub table : b ≡ encode body
  pub few : size (lam body) ≤ value_records
  pub closed : Closed pattern_records (lam body)

pub record Suitable (n : ℕ) (t : Term) : Type 0 where
  pub normal : Normal t
  pub ground : Ground t
  pub few : n ≤ pattern_records
  pub closed : Closed (pattern_records - n) t
  pub short : size t + 2 * n ≤ value_records

pub record StoredPushed (W : List ℕ) (s : Agenda) (r : StoredGoal) (b : List ℕ) (X : List ℕ) (s' : Agenda) : Type 0 where
  pub kept : take s.top X ≡ take s.top W
  pub same_length : length X ≡ length W
  pub target : (t : Term) (n : ℕ) → b ≡ encode t → Suitable n (lam t)
      → Target X (target_end s b + goal_bytes) n (target_start s) (target_start s) (lam t)
  pub goal : StoredAt X (target_end s b) (stored_match r.part (target_start s) (target_start s) s.easy)
  pub agenda : s' ≡ after_stored s r (target_end s b)

abbrev pub Solves : Term → Term → Term → Type 0
Solves x e t = (b : Term) × (x ≡ lam b) × (substitute 0 e b ≡ t) × (uses 0 b ≡ true)

pub record Solving (h e t : List ℕ) : Type 0 where
  pub head : Whole h 0
  pub argument : Whole e 0
  pub target : Whole t 0
  pub head_most : length h ≤ table_bytes
  pub target_most : length t ≤ table_bytes

pub record Solved (h e t : List ℕ) (r : Bool) : Type 0 where
  pub is : (x y z : Term) → Part h 0 x → Part e 0 y → Part t 0 z → Says r (Solves x y z)
