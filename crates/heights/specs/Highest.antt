-- The highest loose local of a part, and what a full walk over the part finds. "While a value is built keep each finished part's highest
-- loose local, numbered from outside that part, or none, and decide by it. Prove it equal to what a full walk finds."
--   higher x y        the higher of two, where there may be none
--   outside x         a loose local of an abstraction's body, numbered from outside the abstraction; its own local is none there
--   highest t         the highest loose local of t, numbered from outside t, or none
--   loose d t         what a full walk over t, which stands below d binders, finds: each loose local, numbered from outside them
--   greatest ns       the greatest of the numbers ns, or none where there is none
--   FoundByWalk       the highest loose local is the greatest of those that a full walk finds
--   NoneOrBelow d x         there is none, or it is below d
--   DecidesClosed     a part below d binders is closed exactly if its highest loose local is none or below d
use Rattle.std.specs.Prelude.{◌≡◌, cond, ◌↔◌, List, [], ◌∷◌, ◌++◌, ℕ, zero, suc, ◌-◌, ◌<◌, max, ltb}
use Rattle.std.proofs.Math.Option.{Option, none, some}
use Rattle.terms.specs.Term.{Term, app, lam, loc, con, var, Closed}

abbrev pub higher : Option ℕ → Option ℕ → Option ℕ
higher none y = y
higher (some m) none = some m
higher (some m) (some n) = some (max m n)

abbrev pub outside : Option ℕ → Option ℕ
outside none = none
outside (some zero) = none
outside (some (suc n)) = some n

abbrev pub highest : Term → Option ℕ
highest (app f a) = higher (highest f) (highest a)
highest (lam b) = outside (highest b)
highest (loc n) = some n
highest (con n) = none
highest (var n) = none

abbrev pub loose : ℕ → Term → List ℕ
loose d (app f a) = loose d f ++ loose d a
loose d (lam b) = loose (suc d) b
loose d (loc n) = cond (ltb n d) [] ((n - d) ∷ [])
loose d (con n) = []
loose d (var n) = []

abbrev pub greatest : List ℕ → Option ℕ
greatest [] = none
greatest (n ∷ ns) = higher (some n) (greatest ns)

abbrev pub FoundByWalk : Type 0
FoundByWalk = (t : Term) → highest t ≡ greatest (loose 0 t)

abbrev pub NoneOrBelow : ℕ → Option ℕ → Type 0
NoneOrBelow d none = Unit {0}
NoneOrBelow d (some n) = n < d

abbrev pub DecidesClosed : Type 0
DecidesClosed = (d : ℕ) (t : Term) → Closed d t ↔ NoneOrBelow d (highest t)
