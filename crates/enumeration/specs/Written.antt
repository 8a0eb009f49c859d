-- A full listing written to the lent tables, or one that has no room there. Document 01, section "Operations".
--   lent_lines l, lent_records s   how many lines and records the tables l and s have room for
--   ListingOf p r ls             ls is a full listing of the pattern of the table p and the recipe of the table r
--   WrittenLines, NoRoom         a full listing is written, or doesn't fit
--   Enumerated ..                one of the two, by the answer
use Rattle.std.specs.declared.result.Result.{Result}
use Rattle.std.specs.declared.result.Result.TheVariants.{Ok, Err}
use Rattle.refusals.specs.declared.Refusal.{Refusal}
use Rattle.std.specs.Prelude.{◌≡◌, List, ℕ, ◌*◌, ◌/◌, length}
use Rattle.terms.specs.Figures.{variables}
use Rattle.terms.specs.Term.{Term}
use Rattle.terms.specs.Table.{IsTable}
use Rattle.terms.specs.Listing.{Line, Full}
use Rattle.terms.specs.Layout.{line_table, value_table}
use Rattle.terms.specs.Refusal.{Refused, Passed, listing_rows}
use Rattle.refusals.specs.Judged.{number}
use Rattle.refusals.specs.Lent.{overwritten}

-- "A line is 32 bytes", a record 4
abbrev pub lent_lines : List ℕ → ℕ
lent_lines l = length l / (4 * variables)

abbrev pub lent_records : List ℕ → ℕ
lent_records s = length s / 4

-- "A full listing of a pattern and a recipe"
pub record ListingOf (p r : List ℕ) (ls : List Line) : Type 0 where
  pub pattern_term : Term
  pub recipe_term : Term
  pub pattern_table : IsTable p pattern_term
  pub recipe_table : IsTable r recipe_term
  pub full : Full variables pattern_term recipe_term ls

-- "List, where it isn't refused, has written a full listing, laid out as above, and its count is the number of that listing's lines.";
-- "Bytes behind the last line and last value stay."
pub record WrittenLines (p r l s : List ℕ) (n : ℕ) (lines_after values_after : List ℕ) : Type 0 where
  pub lines : List Line
  pub listing_of : ListingOf p r lines
  pub room : Passed (listing_rows (lent_lines l) (lent_records s) lines)
  pub count : n ≡ length lines
  pub line_bytes : lines_after ≡ overwritten (line_table 0 lines) l
  pub value_bytes : values_after ≡ overwritten (value_table lines) s

-- "the full listing needs more lines than are lent" (9), or "Lines suffice, the values need more records than lent" (10)
pub record NoRoom (p r l s : List ℕ) (k : ℕ) : Type 0 where
  pub lines : List Line
  pub listing_of : ListingOf p r lines
  pub cause : Refused (listing_rows (lent_lines l) (lent_records s) lines) k

unfoldable pub Enumerated : List ℕ → List ℕ → List ℕ → List ℕ → Result ℕ Refusal → List ℕ → List ℕ → Type 0
Enumerated p r l s (Ok n) lines_after values_after = WrittenLines p r l s n lines_after values_after
Enumerated p r l s (Err c) lines_after values_after = NoRoom p r l s (number c) × (lines_after ≡ l) × (values_after ≡ s)
