-- What the sweep of a filled pattern needs, and what it leaves. Its limit is exact: too long is said if some part's swept form is above
-- 256 records, and at no other time.
--   swept_bytes                            the bytes of a swept form of 256 records
--   sweep_records                          the most records of a table that is swept
--   WrittenForm t out r after              the table of t was written into out from byte 0 on; or t is too long, and out is as it was
--   FormSwept t out r after                the same of t's swept form, and the limit holds of all parts of t; or it doesn't, and out is as
--                                          it was
--   SweptParts f a                         swept forms of a head and an argument, as tables
--   ContractsApplication f a out r after   what contracting their application leaves
--   SweptBody b                            the swept form of a body, as a table
--   ContractsAbstraction b out r after     what contracting the abstraction over it leaves
--   HasValue s a i                         the entries a, with the value table s, give variable i a value
--   Sweepable l s a                        a part of a pattern, as a table, with values for its variables
--   Fillable l s a                         a pattern, as a table, with values for its variables
--   WritesSwept l s a out r after          what sweeping either leaves
use Rattle.std.specs.declared.option.Option.{Option}
use Rattle.std.specs.declared.option.Option.TheVariants.{Some, None}
use Rattle.std.specs.Prelude.{◌≡◌, List, ℕ, ◌+◌, ◌*◌, ◌≤◌, ◌<◌, length}
use Rattle.std.proofs.lemmas.List.Edits.{sets}
use Rattle.terms.specs.Figures.{numbers, swept_records}
use Rattle.terms.specs.Term.{Term, app, lam, size, Closed}
use Rattle.terms.specs.Sweep.{contract, sweep, largest, fill}
use Rattle.terms.specs.Table.{encode, IsTable}
use Rattle.assignments.specs.Entries.{Given, Gives}
use Rattle.assignments.specs.declared.Entry.{Entry}

abbrev pub swept_bytes : ℕ
swept_bytes = 4 * swept_records

-- more than is swept now: patterns and right sides have at most 32 records, and swept forms, which are swept again, at most 256; a recipe
-- of 96 with a swept form of 256 in it would have 351
abbrev pub sweep_records : ℕ
sweep_records = 384

unfoldable pub WrittenForm : Term → List ℕ → Option ℕ → List ℕ → Type 0
WrittenForm t out (Some n) after = (n ≡ size t) × (n ≤ swept_records) × (after ≡ sets out 0 (encode t))
WrittenForm t out None after = (swept_records < size t) × (after ≡ out)

-- cause 12: "The swept form of some part of the filled pattern is above 256 records"
unfoldable pub FormSwept : Term → List ℕ → Option ℕ → List ℕ → Type 0
FormSwept t out (Some n) after = (largest t ≤ swept_records) × WrittenForm (sweep t) out (Some n) after
FormSwept t out None after = (swept_records < largest t) × (after ≡ out)

pub record SweptParts (f a : List ℕ) : Type 0 where
  pub head : Term
  pub argument : Term
  pub head_bytes : f ≡ encode head
  pub argument_bytes : a ≡ encode argument
  pub head_least : 4 ≤ length f
  pub argument_least : 4 ≤ length a
  pub head_most : length f ≤ swept_bytes
  pub argument_most : length a ≤ swept_bytes
  pub depth : ℕ
  pub shallow : depth + swept_records ≤ numbers
  pub closed : Closed depth (contract (app head argument))

abbrev pub ContractsApplication : List ℕ → List ℕ → List ℕ → Option ℕ → List ℕ → Type 0
ContractsApplication f a out r after = (x y : Term) → f ≡ encode x → a ≡ encode y → WrittenForm (contract (app x y)) out r after

pub record SweptBody (b : List ℕ) : Type 0 where
  pub body : Term
  pub bytes : b ≡ encode body
  pub least : 4 ≤ length b
  pub most : length b ≤ swept_bytes
  pub depth : ℕ
  pub shallow : depth + swept_records ≤ numbers
  pub closed : Closed depth (contract (lam body))

abbrev pub ContractsAbstraction : List ℕ → List ℕ → Option ℕ → List ℕ → Type 0
ContractsAbstraction b out r after = (t : Term) → b ≡ encode t → WrittenForm (contract (lam t)) out r after

pub record HasValue (s : List ℕ) (a : List Entry) (i : ℕ) : Type 0 where
  pub value : Term
  pub given : Given s a i value

pub record Sweepable (l s : List ℕ) (a : List Entry) : Type 0 where
  pub tree : Term
  pub bytes : l ≡ encode tree
  pub least : 4 ≤ length l
  pub depth : ℕ
  pub shallow : depth + size tree + swept_records ≤ numbers
  pub closed : Closed depth tree
  pub φ : ℕ → Term
  pub gives : Gives s a φ tree

pub record Fillable (l s : List ℕ) (a : List Entry) : Type 0 where
  pub tree : Term
  pub table : IsTable l tree
  pub few : size tree ≤ sweep_records
  pub φ : ℕ → Term
  pub gives : Gives s a φ tree

abbrev pub WritesSwept : List ℕ → List ℕ → List Entry → List ℕ → Option ℕ → List ℕ → Type 0
WritesSwept l s a out r after = (t : Term) (φ : ℕ → Term) → l ≡ encode t → Gives s a φ t → FormSwept (fill φ t) out r after
