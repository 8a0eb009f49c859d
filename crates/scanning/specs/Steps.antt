-- What the steps of the search need, and what they answer.
--   RuleTables ..           a book, and what trying its rules is lent
--   RuleScan b t is c a f   what trying the rules at the places is on the part t shows, c pairs having been passed over before
--   PartScan b r k c a f    what trying all rules on the part at record k shows
--   ScanEnds p q t c a f    the scan ends with the answer a at the rule with the tables p and q, the c-th pair
--   PartForm r k n f        the part at record k, and the form of n records in f that is to stand there
--   FormOf r a f            so it is of the part that the answer a names, if it names one
--   Rest r a f s o          the search goes on from the answer a to the outcome o; s is the recipe
--   Sought b r k n c a f    what the search from record k on answers, where n records are left
use Rattle.std.specs.Prelude.{◌≡◌, List, [], ◌∷◌, ◌⊎◌, ℕ, suc, ◌*◌, ◌/◌, ◌≤◌, length}
use Rattle.std.specs.declared.result.Result.{Result}
use Rattle.std.specs.declared.result.Result.TheVariants.{Ok, Err}
use Rattle.terms.specs.Figures.{table_bytes, place_bytes, most_places}
use Rattle.terms.specs.Term.{Term, Closed}
use Rattle.terms.specs.Table.{IsTable}
use Rattle.records.specs.Parts.{Part}
use Rattle.refusals.specs.declared.Refusal.{Refusal}
use Rattle.refusals.specs.Judged.{number}
use Rattle.rules.specs.Rules.{left_table, right_table, places}
use Rattle.rules.specs.Pairs.{Parts, pairs}
use Rattle.rules.specs.Steps.{Rules}
use Rattle.replacing.specs.Replacing.{replaced}
use Rattle.attempts.specs.Pairs.{next, form, stop, Tried}
use Rattle.attempts.specs.Steps.{FormTable}
use Rattle.scanning.specs.declared.Scan.{Scan}
use Rattle.scanning.specs.declared.SearchEnd.{SearchEnd}
use Rattle.scanning.specs.Search.{BookOutcome, given, refused, WholeSwept, SearchEnds}

pub record RuleTables (b lines values work : List ℕ) : Type 0 where
  pub rules : Rules b
  pub few : length b / place_bytes ≤ most_places
  pub lines_length : length lines ≡ table_bytes
  pub values_length : length values ≡ table_bytes
  pub area : length work ≡ table_bytes

-- the pair that ends the scan, c being the number of pairs up to and with it
abbrev pub ScanEnds : List ℕ → List ℕ → Term → ℕ → Result Scan Refusal → List ℕ → Type 0
ScanEnds p q t c (Ok (Scan.PassedOver m)) f = ⊥
ScanEnds p q t c (Ok (Scan.Form n m)) f = (m ≡ c) × ((u : Term) × Tried p q t (form u) × FormTable f n u)
ScanEnds p q t c (Err k) f = Tried p q t (stop (number k))

unfoldable pub RuleScan : List ℕ → Term → List ℕ → ℕ → Result Scan Refusal → List ℕ → Type 0
RuleScan b t [] c a f = a ≡ Ok (Scan.PassedOver c)
RuleScan b t (i ∷ is) c a f =
    (Tried (left_table b i) (right_table b i) t next × RuleScan b t is (suc c) a f)
    ⊎ ScanEnds (left_table b i) (right_table b i) t (suc c) a f

-- a part that isn't closed is passed over
abbrev pub PartScan : List ℕ → List ℕ → ℕ → ℕ → Result Scan Refusal → List ℕ → Type 0
PartScan b r k c a f =
    (t : Term) → Part r (4 * k) t → (Closed 0 t × RuleScan b t (places b) c a f) ⊎ (¬ Closed 0 t × (a ≡ Ok (Scan.PassedOver c)))

pub record PartForm (r : List ℕ) (k n : ℕ) (f : List ℕ) : Type 0 where
  pub part : Term
  pub stands : Part r (4 * k) part
  pub term : Term
  pub table : FormTable f n term

abbrev pub FormOf : List ℕ → Result SearchEnd Refusal → List ℕ → Type 0
FormOf r (Ok (SearchEnd.Nothing m)) f = Unit {0}
FormOf r (Ok (SearchEnd.Form k n m)) f = PartForm r k n f
FormOf r (Err e) f = Unit {0}

abbrev pub Rest : (r : List ℕ) (a : Result SearchEnd Refusal) (f : List ℕ) → FormOf r a f → Term → BookOutcome → Type 0
Rest r (Ok (SearchEnd.Nothing m)) f x s o = o ≡ given s m
Rest r (Ok (SearchEnd.Form k n m)) f x s o = (w : Term) × IsTable (replaced r k x.part x.term) w × WholeSwept w m o
Rest r (Err e) f x s o = o ≡ refused (number e)

pub record Sought (b r : List ℕ) (k n c : ℕ) (a : Result SearchEnd Refusal) (f : List ℕ) : Type 0 where
  pub form_of : FormOf r a f
  pub parts : List (ℕ × Term)
  pub closed : Parts r k n parts
  pub reaches : (s : Term) (o : BookOutcome) → Rest r a f form_of s o → SearchEnds b r s (pairs parts (places b)) c o
