-- What reading and judging rules needs, and what it shows.
--   side_table b c f   the counted records of the side whose count stands at byte c of the book b and whose records from byte f on
--   Side n l           a side with a count of n and the counted records l is a pattern, or a right side
--   Rule b i           place i lies in the book b and has a rule
--   Rules b            so does each place
--   RulesFrom b i      each place from i on
--   TakenRules b       each place that isn't empty
--   NextRule b i j     j is the first place from i on that isn't empty, or the end of the book
--   SideWithin b c f   the count at byte c and the 32 records from byte f on lie in the book b
--   SideRead b c f     its count is at most 32, too
use Rattle.std.specs.Prelude.{◌≡◌, false, List, ℕ, ◌+◌, ◌*◌, ◌/◌, ◌≤◌, ◌<◌, length, take, drop}
use Rattle.terms.specs.Figures.{pattern_records, place_bytes}
use Rattle.terms.specs.Layout.{word_at}
use Rattle.records.specs.Checks.{Pattern}
use Rattle.rules.specs.Rules.{left_count, right_count, left_table, right_table, is_empty, places_from}

abbrev pub side_table : List ℕ → ℕ → ℕ → List ℕ
side_table b c f = take (4 * word_at b c) (drop f b)

abbrev pub Side : ℕ → List ℕ → Type 0
Side n l = (n ≤ pattern_records) × Pattern l

pub record Rule (b : List ℕ) (i : ℕ) : Type 0 where
  pub within : place_bytes * i + place_bytes ≤ length b
  pub left : Side (left_count b i) (left_table b i)
  pub right : Side (right_count b i) (right_table b i)

abbrev pub RulesFrom : List ℕ → ℕ → Type 0
RulesFrom b i = (k : ℕ) → i ≤ k → k < length b / place_bytes → Rule b k

abbrev pub Rules : List ℕ → Type 0
Rules b = (k : ℕ) → k < length b / place_bytes → Rule b k

abbrev pub TakenRules : List ℕ → Type 0
TakenRules b = (k : ℕ) → k < length b / place_bytes → is_empty b k ≡ false → Rule b k

pub record NextRule (b : List ℕ) (i j : ℕ) : Type 0 where
  pub from : i ≤ j
  pub within : j ≤ length b / place_bytes
  pub same : places_from b i ≡ places_from b j
  pub some : j < length b / place_bytes → is_empty b j ≡ false
  pub behind : (k : ℕ) → i ≤ k → k < length b / place_bytes → is_empty b k ≡ false → j ≤ k

abbrev pub SideWithin : List ℕ → ℕ → ℕ → Type 0
SideWithin b c f = (c + 2 ≤ length b) × (f + 4 * pattern_records ≤ length b)

abbrev pub SideRead : List ℕ → ℕ → ℕ → Type 0
SideRead b c f = SideWithin b c f × (word_at b c ≤ pattern_records)
