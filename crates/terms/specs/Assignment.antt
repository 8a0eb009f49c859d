-- Assignments and matches, as document 01's section "The sweep" has them.
--   Assignment     a list of entries, one per variable: `none` is open, `some v` is assigned
--   entry a i      variable i's entry
--   valuation a i  what filling puts for variable i: its value, or the variable itself where it is open
--   Assigns S a    a assigns values, and only to variables of S
--   Entries n a    a has n entries, each open or assigned a value
--   Complete p a   every variable of p is assigned
--   Match n p t a  a is a complete assignment of n entries that takes p to t
use Rattle.std.specs.Prelude.{◌≡◌, List, [], ◌∷◌, ℕ, suc, length, get_or}
use Rattle.std.proofs.Math.Option.{Option, none, some}
use Rattle.terms.specs.Term.{Term, var, Occurs, Value}
use Rattle.terms.specs.Sweep.{sweep, fill}

-- "An assignment has eight entries, one per variable. An entry is open or assigned."
abbrev pub Assignment : Type 0
Assignment = List (Option Term)

abbrev pub entry : Assignment → ℕ → Option Term
entry a i = get_or a i none

abbrev pub value_or : Term → Option Term → Term
value_or u none = u
value_or u (some v) = v

abbrev pub valuation : Assignment → ℕ → Term
valuation a i = value_or (var i) (entry a i)

abbrev pub AssignsAt : Type 0 → Option Term → Type 0
AssignsAt A none = Unit {0}
AssignsAt A (some v) = A × Value v

-- "A line assigns only variables of the pattern."
abbrev pub Assigns : (ℕ → Type 0) → Assignment → Type 0
Assigns S [] = Unit {0}
Assigns S (o ∷ a) = AssignsAt (S 0) o × Assigns (λ i. S (suc i)) a

abbrev pub Entries : ℕ → Assignment → Type 0
Entries n a = (length a ≡ n) × Assigns (λ i. Unit {0}) a

-- "An assignment is complete if every variable that occurs in the pattern is assigned."
abbrev pub Complete : Term → Assignment → Type 0
Complete p a = (i : ℕ) → Occurs i p → (v : Term) × (entry a i ≡ some v)

-- "It is a match if the filled pattern sweeps to the recipe."
abbrev pub Match : ℕ → Term → Term → Assignment → Type 0
Match n p t a = Entries n a × Complete p a × (sweep (fill (valuation a) p) ≡ t)
