-- What list answers, and what it leaves in the tables it was lent. Document 01, section "Operations".
--   lent_for_list ..   the rows of refusal that its tables decide, in document 01's order
--   TooMany ..       no earlier cause holds, and every full listing has more lines than were lent
--   NineExactly ..   9 is answered exactly then
--   Listed           what an answer says, by its cases
use Rattle.std.specs.declared.result.Result.{Result}
use Rattle.std.specs.declared.result.Result.TheVariants.{Ok, Err}
use Rattle.std.specs.Prelude.{◌≡◌, List, ◌++◌, ◌⊎◌, ◌↔◌, ℕ, ◌<◌, length}
use Rattle.terms.specs.Listing.{Line}
use Rattle.terms.specs.Refusal.{Row, Refused, Passed, list_table_rows, pattern_rows, recipe_rows}
use Rattle.refusals.specs.declared.Refusal.{Refusal}
use Rattle.refusals.specs.Judged.{number}
use Rattle.enumeration.specs.Written.{lent_lines, ListingOf, WrittenLines, NoRoom}

-- "Order: 8; pattern 1, 2, 3; recipe 4 to 7; right side 1, 2, 3; then 9, 10 (list), or 11, 12 on left, 14, 12 on right, 13. For right, 11
-- covers its variables too." List, but for 9 and 10: pattern p, recipe r, line table l, value table s, work area w
abbrev pub lent_for_list : List ℕ → List ℕ → List ℕ → List ℕ → List ℕ → List Row
lent_for_list p r l s w = list_table_rows l s w ++ (pattern_rows p ++ recipe_rows r)

-- "fills lines and values; gives the count"
unfoldable pub Listed : List ℕ → List ℕ → List ℕ → List ℕ → List ℕ → Result ℕ Refusal → List ℕ → List ℕ → Type 0
Listed p r l s w (Ok n) lines_after values_after =
    Passed (lent_for_list p r l s w) × WrittenLines p r l s n lines_after values_after
Listed p r l s w (Err c) lines_after values_after =
    (Refused (lent_for_list p r l s w) (number c) ⊎ (Passed (lent_for_list p r l s w) × NoRoom p r l s (number c))) × (lines_after ≡ l)
    × (values_after ≡ s)

-- "Too many matches: the full listing needs more lines than are lent", said of every full listing there is
abbrev pub TooMany : List ℕ → List ℕ → List ℕ → List ℕ → List ℕ → Type 0
TooMany p r l s w = Passed (lent_for_list p r l s w) × ((ls : List Line) → ListingOf p r ls → lent_lines l < length ls)

unfoldable pub NineExactly : List ℕ → List ℕ → List ℕ → List ℕ → List ℕ → Result ℕ Refusal → Type 0
NineExactly p r l s w a = (a ≡ Err Refusal.LineRoom) ↔ TooMany p r l s w
