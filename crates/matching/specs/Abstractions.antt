-- The abstractions of a term: every body that comes to it when an argument is put for the body's local. Abstraction is here the term of
-- source document 002, section 4: the function B with `B E = T`.
--   same                 two terms are equal, decided
--   or_local o d l       the local d before l, where o decides that the argument stands here
--   pairs f l m          f of each member of l and each of m
--   abstractions e d t   the bodies B with e put for local d of B equal to t
use Rattle.std.specs.Prelude.{cond, List, [], ◌∷◌, ◌++◌, map, ℕ, suc, ltb}
use Rattle.std.proofs.Math.Decide.{ℕ_discrete}
use Rattle.terms.specs.Term.{Term, Term-discrete, app, lam, loc, con, var, shift}

abbrev pub same : Discrete Term
same = Term-discrete ℕ_discrete

module _ {A B C : Type 0} where
  abbrev pub pairs : (A → B → C) → List A → List B → List C
  pairs f [] m = []
  pairs f (x ∷ l) m = map (f x) m ++ pairs f l m

-- "Replacing all copies of an argument or none: case 4 loses a line": at a copy of the argument the local stands, or the copy stays
abbrev pub or_local : {A : Type 0} → Dec A → ℕ → List Term → List Term
or_local (yes p) d l = loc d ∷ l
or_local (no p) d l = l

abbrev pub abstractions : Term → ℕ → Term → List Term
abstractions e d (app f a) = or_local (same (app f a) (shift d 0 e)) d (pairs app (abstractions e d f) (abstractions e d a))
abstractions e d (lam b) = or_local (same (lam b) (shift d 0 e)) d (map lam (abstractions e (suc d) b))
abstractions e d (loc n) = or_local (same (loc n) (shift d 0 e)) d (cond (ltb n d) (loc n) (loc (suc n)) ∷ [])
abstractions e d (con n) = or_local (same (con n) (shift d 0 e)) d (con n ∷ [])
abstractions e d (var n) = or_local (same (var n) (shift d 0 e)) d (var n ∷ [])
