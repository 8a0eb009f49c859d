-- What a search from the pattern and the recipe finds.
--   Tallied P Q m x y   from the outcome x a search for the assignments of Q came to y, or found more than m lines
--   Collects ..         what such a search needs
--   Collected ..        what it answers and leaves
use Rattle.std.specs.Prelude.{◌≡◌, List, ℕ, ◌+◌, ◌<◌, ◌≤◌, length}
use Rattle.terms.specs.Figures.{variables, table_bytes}
use Rattle.terms.specs.Term.{Term}
use Rattle.terms.specs.Table.{encode}
use Rattle.terms.specs.Listing.{Line}
use Rattle.terms.specs.Refusal.{OccursIn}
use Rattle.matching.specs.Lists.{Predicate, Lists}
use Rattle.matching.specs.Goals.{Sweeps}
use Rattle.records.specs.Checks.{Pattern, Recipe}
use Rattle.listing.specs.declared.Tally.{Tally}
use Rattle.listing.specs.Outcome.{Outcome, none_found, stores, outcome}

-- a limit that is passed is passed by every listing
pub record Tallied (P : List ℕ) (Q : Predicate) (limit : ℕ) (before after : Outcome) : Type 0 where
  pub lines : List Line
  pub lists : Lists variables (OccursIn P) Q lines
  pub exact : after.count ≤ limit → after ≡ stores before lines
  pub over : limit < after.count → limit < before.count + length lines

pub record Collects (p t : List ℕ) (limit : ℕ) (L X W : List ℕ) : Type 0 where
  pub pattern : Pattern p
  pub recipe : Recipe t
  pub lines : length L ≤ table_bytes
  pub values : length X ≤ table_bytes
  pub limited : limit < table_bytes
  pub area : length W ≡ table_bytes

pub record Collected (p t : List ℕ) (limit : ℕ) (L X L' X' : List ℕ) (r : Tally) : Type 0 where
  pub answer : (x y : Term) → p ≡ encode x → t ≡ encode y → Tallied p (Sweeps x y) limit (outcome L X none_found) (outcome L' X' r)
