-- Two parts of the pattern that apply one variable to constants.
--   pairs_at P v w n     the last n constants behind the variables at bytes v and w, in pairs, the last pair first
--   pairs_of P q         the pairs that q names
--   Reads P q            they stand within a pattern
--   Locates ps m n d r   r is the local that stands for the constants m and n below d binders, or they are none of the pairs ps
--   Adding P q           terms stand behind the pairs
--   Added P q r          r has the pairs of q and the one behind them, of two constants that differ and are none of these pairs
--   Adds P q r           if r has pairs, that holds of them
--   Repeated P x y q     the terms at bytes x and y apply one variable to the first and to the second constants of q, which are apart
--   Repeats P x y r      if r has pairs, that holds of them
use Rattle.std.specs.declared.option.Option.{Option}
use Rattle.std.specs.declared.option.Option.TheVariants.{Some, None}
use Rattle.std.specs.Prelude.{◌≡◌, List, [], ◌∷◌, ℕ, zero, suc, ◌+◌, ◌*◌, ◌≤◌, length, get_or}
use Rattle.std.proofs.Math.Option.{some}
use Rattle.terms.specs.Figures.{pattern_records}
use Rattle.terms.specs.Term.{Term, var, loc}
use Rattle.terms.specs.Table.{constant_kind}
use Rattle.terms.specs.Listing.{In}
use Rattle.matching.specs.Repeated.{spine, firsts, seconds, PairsApart as AreApart, at_constants}
use Rattle.records.specs.Record.{number_at}
use Rattle.records.specs.Parts.{Part, Whole, Ends}
use Rattle.joins.specs.declared.pairs.Pairs.{Pairs}

abbrev pub pairs_at : List ℕ → ℕ → ℕ → ℕ → List (ℕ × ℕ)
pairs_at P v w zero = []
pairs_at P v w (suc n) = (number_at P (v + 4 * suc n), number_at P (w + 4 * suc n)) ∷ pairs_at P v w n

abbrev pub pairs_of : List ℕ → Pairs → List (ℕ × ℕ)
pairs_of P q = pairs_at P q.first q.second q.count

pub record Reads (P : List ℕ) (q : Pairs) : Type 0 where
  pub first : q.first + 4 * (q.count + 1) ≤ length P
  pub second : q.second + 4 * (q.count + 1) ≤ length P
  pub short : length P ≤ 4 * pattern_records

unfoldable pub Locates : List (ℕ × ℕ) → ℕ → ℕ → ℕ → Option ℕ → Type 0
Locates ps m n d (Some k) = (at_constants d ps m n ≡ some (loc k)) × (k ≤ d + pattern_records)
Locates ps m n d None = ¬ In (m, n) ps

pub record Adding (P : List ℕ) (q : Pairs) : Type 0 where
  pub first : Whole P (q.first + 4 * (q.count + 1))
  pub second : Whole P (q.second + 4 * (q.count + 1))
  pub reads : Reads P q

pub record Added (P : List ℕ) (q r : Pairs) : Type 0 where
  pub is : r ≡ record { first = q.first; second = q.second; count = q.count + 1 }
  pub first : get_or P (q.first + 4 * (q.count + 1)) 0 ≡ constant_kind
  pub second : get_or P (q.second + 4 * (q.count + 1)) 0 ≡ constant_kind
  pub differ : ¬ (number_at P (q.first + 4 * (q.count + 1)) ≡ number_at P (q.second + 4 * (q.count + 1)))
  pub other : ¬ In (number_at P (q.first + 4 * (q.count + 1)), number_at P (q.second + 4 * (q.count + 1))) (pairs_of P q)

unfoldable pub Adds : List ℕ → Pairs → Option Pairs → Type 0
Adds P q (Some r) = Added P q r
Adds P q None = Unit {0}

pub record Repeated (P : List ℕ) (x y : ℕ) (q : Pairs) : Type 0 where
  pub number : ℕ
  pub variable : Part P q.first (var number)
  pub first : (f : Term) → Part P x f → f ≡ spine (var number) (firsts (pairs_of P q))
  pub second : (g : Term) → Part P y g → g ≡ spine (var number) (seconds (pairs_of P q))
  pub first_ends : Ends P x (q.first + 4 * (q.count + 1))
  pub second_ends : Ends P y (q.second + 4 * (q.count + 1))
  pub apart : AreApart (pairs_of P q)

unfoldable pub Repeats : List ℕ → ℕ → ℕ → Option Pairs → Type 0
Repeats P x y (Some q) = Repeated P x y q
Repeats P x y None = Unit {0}
