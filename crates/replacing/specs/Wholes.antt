-- What putting a form in a part's place and sweeping the whole until it is normal needs, and what it leaves.
--   whole_bytes                     the bytes of a table for the whole
--   FormStands r k f                r is a recipe's table and has a record k, and f is the table of a closed term without variables, of at
--                                   most 256 records, that is to stand there
--   WholeTables r k f whole         so it is, and `whole` has room
--   WholeNormalized r k f a after   r with the term of f in the place of its part at record k, swept until normal: its first normal form is
--                                   what `after` begins with; or why there is none
use Rattle.std.specs.declared.result.Result.{Result}
use Rattle.normalizing.specs.declared.NormalFault.{NormalFault}
use Rattle.std.specs.Prelude.{◌≡◌, List, ℕ, ◌*◌, ◌≤◌, ◌<◌, length}
use Rattle.terms.specs.Figures.{swept_records, most_sweeps}
use Rattle.terms.specs.Term.{Term, size, Closed, Below}
use Rattle.terms.specs.Table.{encode, IsTable}
use Rattle.records.specs.Checks.{Recipe}
use Rattle.records.specs.Parts.{Part}
use Rattle.sweeping.specs.Swept.{sweep_records}
use Rattle.normalizing.specs.Normalized.{Normalized}
use Rattle.replacing.specs.Replacing.{replaced}

-- as many records as are swept: a recipe of 96 with a form of 256 in the place of a part, which has at least one, has at most 351
abbrev pub whole_bytes : ℕ
whole_bytes = 4 * sweep_records

pub record FormStands (r : List ℕ) (k : ℕ) (f : List ℕ) : Type 0 where
  pub checked : Recipe r
  pub within : 4 * k < length r
  pub term : Term
  pub bytes : f ≡ encode term
  pub few : size term ≤ swept_records
  pub closed : Closed 0 term
  pub below : Below 0 term

abbrev pub WholeTables : List ℕ → ℕ → List ℕ → List ℕ → Type 0
WholeTables r k f whole = FormStands r k f × (whole_bytes ≤ length whole)

-- document 02: "sweep the whole until normal [..], with no sweep if it is normal already"
abbrev pub WholeNormalized : List ℕ → ℕ → List ℕ → Result ℕ NormalFault → List ℕ → Type 0
WholeNormalized r k f a after =
    (t u : Term) → Part r (4 * k) t → f ≡ encode u → (w : Term) × IsTable (replaced r k t u) w × Normalized most_sweeps 0 w a after
