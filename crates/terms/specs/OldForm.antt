-- Tables of the old form, from when a constant's number had 16 bits. Old form is document 02's word: "Files of the old form mean what they
-- meant, and byte order still orders values."
--   Bytes l                   the numbers in l are bytes, as those of every lent table are
--   OldForm l                 the second byte of each record of l is zero
--   old_record_bytes k n rest   the four bytes of a record of kind k and number n as they were, and then rest
--   old_record_of k z h l     the kind and the number that the record with these four bytes had, if they were one
--   old_good_records v l      the table l was whole records, each allowed
--   old_encode t              the table that the term t had
--   NumbersBelow n t          no number of a record of t is n or above
--   MeansAsBefore l           l is let in exactly if it was, and is the table of a term exactly if it was
--   OldFormStays              every table of the old form means what it meant
--   LetInBefore               every table that was let in is of the old form
--   WrittenAsBefore           a term without a number above 65,535 is written as it was
--   SweptAsBefore             so is each form that sweeps give of a closed term without variables, if it has at most 65,536 records
--   ListedAsBefore            so is each value of a full listing, if the recipe has no number above 65,535
use Rattle.std.specs.Prelude.{◌≡◌, Bool, true, cond, ◌↔◌, List, ◌∷◌, ℕ, ◌+◌, ◌*◌, ◌/◌, ◌%◌, ◌<◌, ◌≤◌, eqb, get_or}
use Rattle.std.proofs.Math.Option.{Option, none, some}
use Rattle.terms.specs.Figures.{words, pattern_records, recipe_records}
use Rattle.terms.specs.Term.{Term, app, lam, loc, con, var, size, Normal, Closed, Below}
use Rattle.terms.specs.Table.{preorder, encode, good_records_by, good_records}
use Rattle.terms.specs.Normalization.{sweeps}
use Rattle.terms.specs.Listing.{In, Line, Full}

abbrev pub Bytes : List ℕ → Type 0
Bytes l = (i : ℕ) → get_or l i 0 < 256

abbrev pub OldForm : List ℕ → Type 0
OldForm l = (i : ℕ) → get_or l (4 * i + 1) 0 ≡ 0

-- document 01: "A term is a table of 4-byte records, no header: kind, a zero byte, and a 16-bit number, high byte first."
abbrev pub old_record_bytes : ℕ → ℕ → List ℕ → List ℕ
old_record_bytes k n rest = k ∷ 0 ∷ (n / 256) ∷ (n % 256) ∷ rest

abbrev pub old_record_of : ℕ → ℕ → ℕ → ℕ → Option (ℕ × ℕ)
old_record_of k z h l = cond (eqb z 0) (some (k, h * 256 + l)) none

abbrev pub old_good_records : ℕ → List ℕ → Bool
old_good_records v l = good_records_by old_record_of v l

abbrev pub old_encode : Term → List ℕ
old_encode t = preorder old_record_bytes t

abbrev pub NumbersBelow : ℕ → Term → Type 0
NumbersBelow n (app f a) = NumbersBelow n f × NumbersBelow n a
NumbersBelow n (lam b) = NumbersBelow n b
NumbersBelow n (loc m) = m < n
NumbersBelow n (con m) = m < n
NumbersBelow n (var m) = m < n

pub record MeansAsBefore (l : List ℕ) : Type 0 where
  pub good : (v : ℕ) → good_records v l ≡ old_good_records v l
  pub table : (t : Term) → (l ≡ encode t) ↔ (l ≡ old_encode t)

abbrev pub OldFormStays : Type 0
OldFormStays = (l : List ℕ) → Bytes l → OldForm l → MeansAsBefore l

abbrev pub LetInBefore : Type 0
LetInBefore = (v : ℕ) (l : List ℕ) → old_good_records v l ≡ true → OldForm l

abbrev pub WrittenAsBefore : Type 0
WrittenAsBefore = (t : Term) → NumbersBelow words t → encode t ≡ old_encode t

abbrev pub SweptAsBefore : Type 0
SweptAsBefore = (n : ℕ) (t : Term) → Closed 0 t → Below 0 t → NumbersBelow words t → size (sweeps n t) ≤ words
    → encode (sweeps n t) ≡ old_encode (sweeps n t)

abbrev pub ListedAsBefore : Type 0
ListedAsBefore = (n : ℕ) (p t : Term) → size p ≤ pattern_records → size t ≤ recipe_records → Below n p → Normal t → NumbersBelow words t
    → (ls : List Line) → Full n p t ls → (l : Line) → In l ls → (v : Term) → In (some v) l → encode v ≡ old_encode v
