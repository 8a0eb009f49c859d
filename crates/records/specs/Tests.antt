-- What a test of a table, or of a part of one, says.
--   Says b A          b is the answer to the question A
--   Tells l P r       r says of the term whose table l is whether P holds of it
--   Equals l g r      r is g of the term whose table l is
--   Head t            t may be a head in a normal term
--   asked q i n       what q asks of local i, against n
--   Asks q n t        what q asks of the locals of t, against n outside of t
--   Walked l at P r   a walk over the part at byte `at` came to its end exactly if P holds of the term there
use Rattle.std.specs.Prelude.{◌≡◌, Bool, true, false, not, List, ℕ, T, ltb, eqb}
use Rattle.terms.specs.Term.{Term, Normal, Closed, uses, is_abstraction}
use Rattle.terms.specs.Table.{encode}
use Rattle.records.specs.Parts.{Part, Ends}
use Rattle.records.specs.declared.Ask.{Ask}
use Rattle.records.specs.declared.Ask.TheVariants.{Bound, Other}
use Rattle.std.specs.declared.option.Option.{Option}
use Rattle.std.specs.declared.option.Option.TheVariants.{Some, None}

abbrev pub Says : Bool → Type 0 → Type 0
Says true A = A
Says false A = ¬ A

abbrev pub Tells : List ℕ → (Term → Type 0) → Bool → Type 0
Tells l P r = (t : Term) → l ≡ encode t → Says r (P t)

abbrev pub Equals : List ℕ → (Term → Bool) → Bool → Type 0
Equals l g r = (t : Term) → l ≡ encode t → r ≡ g t

-- "in a normal term a head position may hold no abstraction"
abbrev pub Head : Term → Type 0
Head t = T (not (is_abstraction t)) × Normal t

abbrev pub asked : Ask → ℕ → ℕ → Bool
asked Bound i n = ltb i n
asked Other i n = not (eqb i n)

abbrev pub Asks : Ask → ℕ → Term → Type 0
Asks Bound n t = Closed n t
Asks Other n t = uses n t ≡ false

unfoldable pub Walked : List ℕ → ℕ → (Term → Type 0) → Option ℕ → Type 0
Walked l at P (Some r) = Ends l at r × ((t : Term) → Part l at t → P t)
Walked l at P None = (t : Term) → Part l at t → ¬ P t
