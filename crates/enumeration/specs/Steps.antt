-- What the steps of an enumeration answer.
--   short_lines, short_records   how many lines, and how many records of values, a short listing has at most
--   Short m n few              m lines are at most `few`, and the n records of their values at most a short listing's
--   ListTables p t l s w       the tables that list is lent are ones that it searches
--   Copyable n m q l s w       the tables m and q begin with those of n's lines, which have room in the tables l and s
--   Copied ..                  those lines, in order, stand in the tables l and s
--   CopiedIf ..                so they do, or their values have no room
use Rattle.std.specs.declared.result.Result.{Result}
use Rattle.std.specs.declared.result.Result.TheVariants.{Ok, Err}
use Rattle.std.specs.Prelude.{◌≡◌, List, ℕ, ◌*◌, ◌≤◌, ◌<◌, length}
use Rattle.terms.specs.Figures.{variables, table_bytes}
use Rattle.terms.specs.Listing.{Line}
use Rattle.terms.specs.Layout.{values_records}
use Rattle.terms.specs.Members.{Distinct}
use Rattle.records.specs.Checks.{Pattern, Recipe}
use Rattle.listing.specs.declared.Tally.{Tally}
use Rattle.listing.specs.Outcome.{Tables}
use Rattle.arranging.specs.Arranged.{InLineOrder}
use Rattle.refusals.specs.declared.Refusal.{Refusal}
use Rattle.enumeration.specs.Written.{lent_records}

abbrev pub short_lines : ℕ
short_lines = 128

abbrev pub short_records : ℕ
short_records = 8192

abbrev pub Short : ℕ → ℕ → ℕ → Type 0
Short m n few = (m ≤ few) × (n ≤ short_records)

pub record ListTables (p t l s w : List ℕ) : Type 0 where
  pub pattern_checked : Pattern p
  pub recipe_checked : Recipe t
  pub lines_most : length l ≤ table_bytes
  pub values_most : length s ≤ table_bytes
  pub area : length w ≡ table_bytes

pub record Copyable (n : Tally) (m q l s w : List ℕ) : Type 0 where
  pub found : List Line
  pub tables : Tables m q found
  pub distinct : Distinct found
  pub lines_are : n.lines ≡ length found
  pub records_are : n.records ≡ values_records found
  pub from : (4 * variables * n.lines ≤ length m) × (4 * n.records ≤ length q)
  pub room : (4 * variables * n.lines ≤ length l) × (4 * n.records ≤ length s)
  pub most : (length l ≤ table_bytes) × (length s ≤ table_bytes)
  pub area : length w ≡ table_bytes

pub record Copied (n : Tally) (m q l s l' s' : List ℕ) : Type 0 where
  pub copied : (ls : List Line) → Tables m q ls → Distinct ls → n.lines ≡ length ls → n.records ≡ values_records ls
      → InLineOrder l s ls l' s'

unfoldable pub CopiedIf : Tally → List ℕ → List ℕ → List ℕ → List ℕ → Result ℕ Refusal → List ℕ → List ℕ → Type 0
CopiedIf n m q l s (Ok k) l' s' = (k ≡ n.lines) × (n.records ≤ lent_records s) × Copied n m q l s l' s'
CopiedIf n m q l s (Err c) l' s' = (c ≡ Refusal.ValueRoom) × (lent_records s < n.records) × (l' ≡ l) × (s' ≡ s)
