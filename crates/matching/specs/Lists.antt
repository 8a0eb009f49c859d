-- What lines list: the assignments of a predicate, each by exactly one line. These are devices of the search's proofs: a promise of an
-- operation cites none of them.
--   Values φ         each φ i is a value
--   Extends φ l      the total assignment φ has the value of each entry that l assigns
--   Lists n S Q ls   lines of n entries, which assign only variables of S, that cover just the assignments of Q, and each with one line
use Rattle.std.specs.Prelude.{◌≡◌, List, [], ◌∷◌, ℕ, suc, length}
use Rattle.std.proofs.Math.Option.{Option, none, some}
use Rattle.terms.specs.Term.{Term, Value}
use Rattle.terms.specs.Listing.{Line, In}
use Rattle.terms.specs.Assignment.{Assigns}
use Rattle.terms.specs.Members.{Distinct}

abbrev pub Values : (ℕ → Term) → Type 0
Values φ = (i : ℕ) → Value (φ i)

abbrev pub ExtendsAt : Term → Option Term → Type 0
ExtendsAt v none = Unit {0}
ExtendsAt v (some w) = v ≡ w

abbrev pub Extends : (ℕ → Term) → Line → Type 0
Extends φ [] = Unit {0}
Extends φ (o ∷ l) = ExtendsAt (φ 0) o × Extends (λ i. φ (suc i)) l

abbrev pub Predicate : Type 1
Predicate = (ℕ → Term) → Type 0

pub record Lists (n : ℕ) (S : ℕ → Type 0) (Q : Predicate) (ls : List Line) : Type 0 where
  pub entries : (l : Line) → In l ls → length l ≡ n
  pub assigns : (l : Line) → In l ls → Assigns S l
  pub sound : (φ : ℕ → Term) → Values φ → (l : Line) → In l ls → Extends φ l → Q φ
  pub covers : (φ : ℕ → Term) → Values φ → Q φ → (l : Line) × In l ls × Extends φ l
  pub once : (φ : ℕ → Term) → Values φ → (l m : Line) → In l ls → In m ls → Extends φ l → Extends φ m → l ≡ m
  pub distinct : Distinct ls
