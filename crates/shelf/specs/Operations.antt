-- What the operations of a shelf answer, and what they leave in the tables they were lent. Document 02, request "A shelf for two hundred
-- recipes".
--   changes                 which counter has the "count of puts and take-outs done"
--   put_rows, take_out_rows, read_rows   the rows of refusal of each operation, in the document's order
--   read_table_rows, short_rows   those of read but for 13, and the row 13
--   Put, TakenOut, ReadOut, Counted   what an answer says, by its cases
use Rattle.std.specs.Prelude.{⊤, ◌≡◌, List, [], ◌∷◌, ◌++◌, ℕ, ◌/◌, ◌≤◌, ◌<◌, length}
use Rattle.std.specs.declared.result.Result.{Result}
use Rattle.std.specs.declared.result.Result.TheVariants.{Ok, Err}
use Rattle.refusals.specs.declared.Refusal.{Refusal}
use Rattle.terms.specs.Figures.{ceiling}
use Rattle.terms.specs.Refusal.{Row, Refused, Passed, recipe_rows, output_table_rows}
use Rattle.refusals.specs.Judged.{number}
use Rattle.refusals.specs.Lent.{overwritten}
use Rattle.storage.specs.Storage.{count_of, recipe_of, Stored, buoy_rows, directory_rows, record_table_rows, absent_rows, room_rows}

abbrev pub changes : ℕ
changes = 0

-- "Refused: 18 for a buoy above 199 [..], first; 19 when the kept recipes of other buoys and the new one exceed the table, after 4 to 7."
abbrev pub put_rows : ℕ → List ℕ → List ℕ → List ℕ → List Row
put_rows b r d t = (buoy_rows b ++ ((directory_rows d ++ record_table_rows t) ++ recipe_rows r)) ++ room_rows b r d

-- "18 for a buoy above 199, or one without a recipe on reading or taking out, first": only a directory says whether it has one
abbrev pub take_out_rows : ℕ → List ℕ → List ℕ → List Row
take_out_rows b d t = (buoy_rows b ++ directory_rows d) ++ (absent_rows b d ++ record_table_rows t)

abbrev pub read_table_rows : ℕ → List ℕ → List ℕ → List ℕ → List Row
read_table_rows b d t o = take_out_rows b d t ++ output_table_rows o

-- "13 here and later to what is written"
abbrev pub short_rows : ℕ → List ℕ → List ℕ → List ℕ → List Row
short_rows b d t o = (13, length o < length (recipe_of b d t)) ∷ []

abbrev pub read_rows : ℕ → List ℕ → List ℕ → List ℕ → List Row
read_rows b d t o = read_table_rows b d t o ++ short_rows b d t o

-- "put (replacing what the buoy had)"; "Like 9, it and every later number comes alone and leaves all tables as they were"
unfoldable pub Put : ℕ → List ℕ → List ℕ → List ℕ → Result ⊤ Refusal → List ℕ → List ℕ → Type 0
Put b r d t (Ok tt) d' t' = Passed (put_rows b r d t) × Stored changes b r d t d' t'
Put b r d t (Err c) d' t' = Refused (put_rows b r d t) (number c) × (d' ≡ d) × (t' ≡ t)

-- "take out": the buoy has no bytes then
unfoldable pub TakenOut : ℕ → List ℕ → List ℕ → Result ⊤ Refusal → List ℕ → List ℕ → Type 0
TakenOut b d t (Ok tt) d' t' = Passed (take_out_rows b d t) × Stored changes b [] d t d' t'
TakenOut b d t (Err c) d' t' = Refused (take_out_rows b d t) (number c) × (d' ≡ d) × (t' ≡ t)

-- "a read writes the last recipe put and not taken out, and gives its records"; "bytes behind what is written stay"
unfoldable pub ReadOut : ℕ → List ℕ → List ℕ → List ℕ → Result ℕ Refusal → List ℕ → Type 0
ReadOut b d t o (Ok n) o' =
    Passed (read_rows b d t o) × (n ≡ length (recipe_of b d t) / 4) × (o' ≡ overwritten (recipe_of b d t) o)
ReadOut b d t o (Err c) o' = Refused (read_rows b d t o) (number c) × (o' ≡ o)

-- "A count of puts and take-outs done is kept for the whole shelf"
unfoldable pub Counted : List ℕ → Result ℕ Refusal → Type 0
Counted d (Ok n) = Passed (directory_rows d) × (n ≡ count_of changes d) × (n ≤ ceiling)
Counted d (Err c) = Refused (directory_rows d) (number c)
