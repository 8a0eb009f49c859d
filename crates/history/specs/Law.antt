-- The law of the shelf. Document 02, request "A shelf for two hundred recipes": "Over any calls from a new, empty shelf, each handed what
-- the one before left, a read writes the last recipe put and not taken out, and gives its records." What is promised of a call (`Right`)
-- speaks of the calls before it, their answers and the bytes written: a reader who believes it need not know where recipes lie.
--   Call                a call with its answer, and a read's output table before and after; a history is a list of calls, the latest first
--   State               what each buoy has, and how many changes were done; after cs: what that is after a history
--   latest b cs         the last recipe put for buoy b and not taken out; no bytes if there is none
--   others b cs n       how many records the recipes of the buoys below n have, but for b's
--   put_causes, take_out_causes, read_causes   the causes of refusal after a history, in the document's order
--   Right cs c          after the history cs the call c is answered as the document says
--   New d t             a new, empty shelf: a directory of zero bytes, and a record table of any bytes
--   Step c d t d' t'    the contract of c's operation, lent the directory d and the record table t and leaving d' and t'
--   Run cs d t          the calls cs were made one after the other from a new shelf, and left the directory d and the record table t
--   Law                 each call of a run is answered right
use Rattle.std.specs.Prelude.{⊤, ◌≡◌, cond, List, [], ◌∷◌, ◌++◌, ◌⊎◌, ℕ, zero, suc, ◌+◌, ◌*◌, ◌/◌, ◌≤◌, ◌<◌, min, eqb, length, replicate}
use Rattle.std.specs.declared.result.Result.{Result}
use Rattle.std.specs.declared.result.Result.TheVariants.{Ok, Err}
use Rattle.refusals.specs.declared.Refusal.{Refusal}
use Rattle.terms.specs.Figures.{buoys, shelf_records, ceiling}
use Rattle.terms.specs.Refusal.{Row, Refused, Passed, recipe_rows, output_table_rows}
use Rattle.refusals.specs.Judged.{number}
use Rattle.refusals.specs.Lent.{overwritten}
use Rattle.storage.specs.Storage.{directory_bytes}
use Rattle.shelf.specs.Operations.{Put, TakenOut, ReadOut, Counted}

pub data Call : Type 0 where
  put : ℕ → List ℕ → Result ⊤ Refusal → Call
  take_out : ℕ → Result ⊤ Refusal → Call
  read : ℕ → List ℕ → Result ℕ Refusal → List ℕ → Call
  count : Result ℕ Refusal → Call

pub record State : Type 0 where
  pub recipes : ℕ → List ℕ
  pub changes : ℕ

abbrev pub empty : State
empty = record { recipes = λ b. []; changes = 0 }

-- buoy b has the bytes r then, and that is one change
abbrev pub changed : ℕ → List ℕ → State → State
changed b r s = record { recipes = λ k. cond (eqb b k) r (s.recipes k); changes = s.changes + 1 }

-- one call more; "A count of puts and take-outs done": one that is refused, or that reads or counts, changes nothing
abbrev pub next : Call → State → State
next (put b r (Ok tt)) s = changed b r s
next (put b r (Err c)) s = s
next (take_out b (Ok tt)) s = changed b [] s
next (take_out b (Err c)) s = s
next (read b o a o') s = s
next (count a) s = s

abbrev pub after : List Call → State
after [] = empty
after (c ∷ cs) = next c (after cs)

-- "the last recipe put and not taken out"
abbrev pub latest : ℕ → List Call → List ℕ
latest b cs = (after cs).recipes b

-- "the kept recipes of other buoys"
abbrev pub others : ℕ → List Call → ℕ → ℕ
others b cs zero = 0
others b cs (suc n) = others b cs n + cond (eqb n b) 0 (length (latest n cs) / 4)

-- "Refused: 18 for a buoy above 199, or one without a recipe on reading or taking out, first; 19 when the kept recipes of other buoys and
-- the new one exceed the table, after 4 to 7."
abbrev pub put_causes : List Call → ℕ → List ℕ → List Row
put_causes cs b r = ((18, buoys ≤ b) ∷ recipe_rows r) ++ ((19, shelf_records < others b cs buoys + length r / 4) ∷ [])

abbrev pub take_out_causes : List Call → ℕ → List Row
take_out_causes cs b = (18, (buoys ≤ b) ⊎ (latest b cs ≡ [])) ∷ []

abbrev pub read_causes : List Call → ℕ → List ℕ → List Row
read_causes cs b o = take_out_causes cs b ++ (output_table_rows o ++ ((13, length o < length (latest b cs)) ∷ []))

unfoldable pub Right : List Call → Call → Type 0
Right cs (put b r (Ok tt)) = Passed (put_causes cs b r)
Right cs (put b r (Err c)) = Refused (put_causes cs b r) (number c)
Right cs (take_out b (Ok tt)) = Passed (take_out_causes cs b)
Right cs (take_out b (Err c)) = Refused (take_out_causes cs b) (number c)
Right cs (read b o (Ok n) o') =
    Passed (read_causes cs b o) × (length (latest b cs) ≡ 4 * n) × (o' ≡ overwritten (latest b cs) o)
Right cs (read b o (Err c) o') = Refused (read_causes cs b o) (number c) × (o' ≡ o)
Right cs (count (Ok n)) = n ≡ min (after cs).changes ceiling
Right cs (count (Err c)) = ⊥

pub record New (d t : List ℕ) : Type 0 where
  pub directory : d ≡ replicate directory_bytes 0
  pub table : length t ≡ 4 * shelf_records

unfoldable pub Step : Call → List ℕ → List ℕ → List ℕ → List ℕ → Type 0
Step (put b r a) d t d' t' = Put b r d t a d' t'
Step (take_out b a) d t d' t' = TakenOut b d t a d' t'
Step (read b o a o') d t d' t' = ReadOut b d t o a o' × (d' ≡ d) × (t' ≡ t)
Step (count a) d t d' t' = Counted d a × (d' ≡ d) × (t' ≡ t)

-- "each handed what the one before left"
unfoldable pub Run : List Call → List ℕ → List ℕ → Type 0
Run [] d t = New d t
Run (c ∷ cs) d' t' = (d : List ℕ) × (t : List ℕ) × Run cs d t × Step c d t d' t'

abbrev pub Law : Type 0
Law = (c : Call) (cs : List Call) (d t : List ℕ) → Run (c ∷ cs) d t → Right cs c
