-- Goals as the code reads and writes them.
--   stored_bytes r                                 the eight bytes of the stored goal r
--   StoredAt W at r                                the stored goal r stands in W at byte `at`
--   part_limit                                     above every position, and every distance from the origin, whose records fit one byte
--   StoredFits r                                   the fields of r fit their bytes
--   stored_match part origin target next           the goal that the part sweeps to the target
--   stored_build part origin target next argument  the goal that the part builds the target from the argument's target
use Rattle.std.specs.Prelude.{◌≡◌, List, [], ◌∷◌, ℕ, ◌+◌, ◌-◌, ◌*◌, ◌/◌, ◌%◌, ◌<◌, ◌≤◌}
use Rattle.terms.specs.Figures.{words}
use Rattle.agenda.specs.declared.StoredGoal.{StoredGoal}
use Rattle.agenda.specs.State.{pattern_at, origin_at, target_at, next_at, argument_at}

abbrev pub stored_bytes : StoredGoal → List ℕ
stored_bytes r =
    (r.part / 4) ∷ ((r.target - r.origin) / 4) ∷ (r.origin / 4 / 256) ∷ (r.origin / 4 % 256) ∷ (r.next / 4 / 256)
    ∷ (r.next / 4 % 256) ∷ (r.argument / 4 / 256) ∷ (r.argument / 4 % 256) ∷ []

abbrev pub part_limit : ℕ
part_limit = 4 * 256

pub record StoredFits (r : StoredGoal) : Type 0 where
  pub part : r.part < part_limit
  pub origin : r.origin < 4 * words
  pub from : r.origin ≤ r.target
  pub near : r.target < r.origin + part_limit
  pub next : r.next < 4 * words
  pub argument : r.argument < 4 * words

pub record StoredAt (W : List ℕ) (at : ℕ) (r : StoredGoal) : Type 0 where
  pub part : r.part ≡ pattern_at W at
  pub origin : r.origin ≡ origin_at W at
  pub target : r.target ≡ target_at W at
  pub next : r.next ≡ next_at W at
  pub argument : r.argument ≡ argument_at W at

abbrev pub stored_match : ℕ → ℕ → ℕ → ℕ → StoredGoal
stored_match part origin target next = record { part = part; origin = origin; target = target; next = next; argument = 0 }

abbrev pub stored_build : ℕ → ℕ → ℕ → ℕ → ℕ → StoredGoal
stored_build part origin target next argument =
    record { part = part; origin = origin; target = target; next = next; argument = argument }
