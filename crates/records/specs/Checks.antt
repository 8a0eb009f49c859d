-- What the checks of a table answer.
--   pattern_refusal c      document 01's number for a check of a pattern or a right side, if it refuses
--   recipe_refusal c       document 01's number for a check of a recipe, if it refuses
--   of_recipe f            the fault f of a pattern, of a table that is to be a recipe
--   Answers rows W o       o is the number of the first row whose cause holds; or it is none, no cause holds, and W
--   Pattern l              l is the table of a pattern, or of a right side
--   NormalTable m l        l is the table of a normal term without variables, of at most m records
--   Recipe l               l is the table of a recipe
--   ValueTable l           l is the table of a value of at most 160 records
--   TableChecked m v l c   what is known of a table l once c is found, where m records and v variables are allowed
--   OneTerm l              l is the table of a term
--   Good l                 the records of l are good for some number of variables
use Rattle.std.specs.Prelude.{◌≡◌, true, false, List, ℕ, ◌≤◌, ⊤}
use Rattle.std.proofs.Math.Option.{Option, none, some}
use Rattle.terms.specs.Figures.{variables, pattern_records, recipe_records, value_records}
use Rattle.terms.specs.Term.{Term, size, Normal, Below, Ground, Value}
use Rattle.terms.specs.Table.{encode, good_records, IsTable}
use Rattle.terms.specs.Refusal.{Row, Refused, Passed, BadLength, NoTerm}
use Rattle.std.specs.declared.result.Result.{Result}
use Rattle.std.specs.declared.result.Result.TheVariants.{Ok, Err}
use Rattle.records.specs.declared.PatternFault.{PatternFault}
use Rattle.records.specs.declared.RecipeFault.{RecipeFault}

abbrev pub pattern_refusal : Result ⊤ PatternFault → Option ℕ
pattern_refusal (Ok ok) = none
pattern_refusal (Err PatternFault.BadLength) = some 1
pattern_refusal (Err PatternFault.BadRecord) = some 2
pattern_refusal (Err PatternFault.NoTerm) = some 3

-- a recipe's length, records and term are faulty as a pattern's are
abbrev pub of_recipe : PatternFault → RecipeFault
of_recipe PatternFault.BadLength = RecipeFault.BadLength
of_recipe PatternFault.BadRecord = RecipeFault.BadRecord
of_recipe PatternFault.NoTerm = RecipeFault.NoTerm

abbrev pub recipe_refusal : Result ⊤ RecipeFault → Option ℕ
recipe_refusal (Ok ok) = none
recipe_refusal (Err RecipeFault.BadLength) = some 4
recipe_refusal (Err RecipeFault.BadRecord) = some 5
recipe_refusal (Err RecipeFault.NoTerm) = some 6
recipe_refusal (Err RecipeFault.NotNormal) = some 7

-- "Each is given when its cause holds and no earlier one does, and at no other time."
abbrev pub Answers : List Row → Type 0 → Option ℕ → Type 0
Answers rows W none = Passed rows × W
Answers rows W (some k) = Refused rows k

pub record Pattern (l : List ℕ) : Type 0 where
  pub tree : Term
  pub table : IsTable l tree
  pub below : Below variables tree
  pub most : size tree ≤ pattern_records

pub record NormalTable (m : ℕ) (l : List ℕ) : Type 0 where
  pub tree : Term
  pub table : IsTable l tree
  pub normal : Normal tree
  pub ground : Ground tree
  pub most : size tree ≤ m

abbrev pub Recipe : List ℕ → Type 0
Recipe l = NormalTable recipe_records l

-- "A value is closed, normal and without variables", "value 1 to 160"
pub record ValueTable (l : List ℕ) : Type 0 where
  pub tree : Term
  pub bytes : l ≡ encode tree
  pub value : Value tree
  pub most : size tree ≤ value_records

pub record OneTerm (l : List ℕ) : Type 0 where
  pub tree : Term
  pub table : IsTable l tree

pub record Good (l : List ℕ) : Type 0 where
  pub allowed : ℕ
  pub good : good_records allowed l ≡ true

unfoldable pub TableChecked : ℕ → ℕ → List ℕ → Result ⊤ PatternFault → Type 0
TableChecked m v l (Ok ok) = ¬ BadLength m l × (good_records v l ≡ true) × OneTerm l
TableChecked m v l (Err PatternFault.BadLength) = BadLength m l
TableChecked m v l (Err PatternFault.BadRecord) = ¬ BadLength m l × (good_records v l ≡ false)
TableChecked m v l (Err PatternFault.NoTerm) = ¬ BadLength m l × (good_records v l ≡ true) × NoTerm l
