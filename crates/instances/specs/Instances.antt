-- Whether one part is another with a third put for a local.
--   behind n m p           as many bytes as p, behind n of the first part and m of the second
--   Substitutes b k e t    b, e and t begin with terms, and their locals can be compared where k is a local of the first
--   Replaced k x y z       the term z is x with y put for local k
--   Substituted b k e t r  a walk over the parts that b and t begin with came to both ends exactly if Replaced holds of the terms that
--                          b, e and t begin with
use Rattle.std.specs.declared.option.Option.{Option}
use Rattle.std.specs.declared.option.Option.TheVariants.{Some, None}
use Rattle.std.specs.Prelude.{◌≡◌, List, ℕ, ◌+◌, ◌≤◌, length}
use Rattle.terms.specs.Figures.{table_bytes}
use Rattle.terms.specs.Term.{Term, substitute}
use Rattle.records.specs.Parts.{Part, Whole, Ends}
use Rattle.instances.specs.declared.Places.{Places}

abbrev pub behind : ℕ → ℕ → Places → Places
behind n m p = record { first = n + p.first; second = m + p.second }

-- k grows by one for a binder, whose record has four bytes
pub record Substitutes (b : List ℕ) (k : ℕ) (e t : List ℕ) : Type 0 where
  pub body : Whole b 0
  pub argument : Whole e 0
  pub target : Whole t 0
  pub most : length t ≤ table_bytes
  pub shallow : k + length b ≤ table_bytes

abbrev pub Replaced : ℕ → Term → Term → Term → Type 0
Replaced k x y z = z ≡ substitute k y x

unfoldable pub Substituted : List ℕ → ℕ → List ℕ → List ℕ → Option Places → Type 0
Substituted b k e t (Some p) =
    Ends b 0 p.first × Ends t 0 p.second × ((x y z : Term) → Part b 0 x → Part e 0 y → Part t 0 z → Replaced k x y z)
Substituted b k e t None = (x y z : Term) → Part b 0 x → Part e 0 y → Part t 0 z → ¬ Replaced k x y z
