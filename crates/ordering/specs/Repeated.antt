-- Two deferred goals that apply one variable to different constants.
--   GoalsListed P W at       a list of deferred goals begins at byte `at`
--   Second P W at i x r      the first goal of r is the one at byte i; the list from byte `at` on comes to the second, whose part repeats
--                            the variable of the one at byte x of P
--   Later P W at i x r       if r has two goals, that holds of them
--   Twice P W at r           the list from byte `at` on comes to the two goals of r, one after the other, whose parts repeat one variable
--   RepeatedFound P W at r   if r has two goals, that holds of them
use Rattle.std.specs.declared.option.Option.{Option}
use Rattle.std.specs.declared.option.Option.TheVariants.{Some, None}
use Rattle.std.specs.Prelude.{◌≡◌, List, ℕ, ◌+◌, ◌*◌, ◌≤◌, length}
use Rattle.terms.specs.Figures.{pattern_records, table_bytes}
use Rattle.matching.specs.Goals.{Goal}
use Rattle.ordering.specs.declared.repeated.Occurrences.{Occurrences}
use Rattle.agenda.specs.State.{goal_bytes, pattern_at, next_at, IsMatch, Deferred, Chain}
use Rattle.ordering.specs.Ordering.{Reaches}
use Rattle.joins.specs.Pairs.{Repeated}

pub record GoalsListed (P W : List ℕ) (at : ℕ) : Type 0 where
  pub top : ℕ
  pub goals : List Goal
  pub chain : Chain Deferred P W top at goals
  pub within : at + goal_bytes ≤ length W
  pub below : top ≤ length W
  pub most : length W ≤ table_bytes
  pub short : length P ≤ 4 * pattern_records

pub record Second (P W : List ℕ) (at i x : ℕ) (r : Occurrences) : Type 0 where
  pub first : r.first ≡ i
  pub reaches : Reaches W at r.second
  pub kind : IsMatch W r.second
  pub repeated : Repeated P x (pattern_at W r.second) r.pairs

unfoldable pub Later : List ℕ → List ℕ → ℕ → ℕ → ℕ → Option Occurrences → Type 0
Later P W at i x (Some r) = Second P W at i x r
Later P W at i x None = Unit {0}

pub record Twice (P W : List ℕ) (at : ℕ) (r : Occurrences) : Type 0 where
  pub reaches : Reaches W at r.first
  pub later : Reaches W (next_at W r.first) r.second
  pub first_kind : IsMatch W r.first
  pub second_kind : IsMatch W r.second
  pub repeated : Repeated P (pattern_at W r.first) (pattern_at W r.second) r.pairs

unfoldable pub RepeatedFound : List ℕ → List ℕ → ℕ → Option Occurrences → Type 0
RepeatedFound P W at (Some r) = Twice P W at r
RepeatedFound P W at None = Unit {0}
