-- One variable applied to constants in two goals: the two targets, gone over place by place.
--   spine f cs      f applied to the constants cs, of which the first is the last argument
--   enclose n b     what n abstractions over b come to
--   PairsApart ps   the two constants of each pair differ, and so do the pairs
--   join d ps t u   the term that comes to t with the first constants of the pairs ps put in, and to u with the second
use Rattle.std.specs.Prelude.{List, [], ◌∷◌, ◌≡◌, cond, ◌&&◌, ℕ, zero, suc, ◌+◌, eqb, ltb, length}
use Rattle.std.proofs.Math.Option.{Option, none, some}
use Rattle.terms.specs.Term.{Term, app, con, lam, loc, var}
use Rattle.terms.specs.Sweep.{contract}
use Rattle.terms.specs.Listing.{In}

abbrev pub spine : Term → List ℕ → Term
spine f [] = f
spine f (c ∷ cs) = app (spine f cs) (con c)

abbrev pub enclose : ℕ → Term → Term
enclose zero b = b
enclose (suc n) b = enclose n (contract (lam b))

-- the two targets, place by place
abbrev pub firsts : List (ℕ × ℕ) → List ℕ
firsts [] = []
firsts (p ∷ ps) = p.0 ∷ firsts ps

abbrev pub seconds : List (ℕ × ℕ) → List ℕ
seconds [] = []
seconds (p ∷ ps) = p.1 ∷ seconds ps

abbrev pub PairsApart : List (ℕ × ℕ) → Type 0
PairsApart [] = Unit {0}
PairsApart (p ∷ ps) = ¬ (p.0 ≡ p.1) × ¬ In p ps × PairsApart ps

-- two constants: the local whose pair they are, or one constant that stays
abbrev pub at_constants : ℕ → List (ℕ × ℕ) → ℕ → ℕ → Option Term
at_constants d [] m n = cond (eqb m n) (some (con m)) none
at_constants d (p ∷ ps) m n = cond (eqb m p.0 && eqb n p.1) (some (loc d)) (at_constants (suc d) ps m n)

abbrev pub both : Option Term → Option Term → Option Term
both none o = none
both (some f) none = none
both (some f) (some a) = some (app f a)

abbrev pub below : Option Term → Option Term
below none = none
below (some b) = some (lam b)

abbrev pub join : ℕ → List (ℕ × ℕ) → Term → Term → Option Term
join d ps (app f a) (app g b) = both (join d ps f g) (join d ps a b)
join d ps (app f a) (lam u) = none
join d ps (app f a) (loc n) = none
join d ps (app f a) (con n) = none
join d ps (app f a) (var n) = none
join d ps (lam t) (app g b) = none
join d ps (lam t) (lam u) = below (join (suc d) ps t u)
join d ps (lam t) (loc n) = none
join d ps (lam t) (con n) = none
join d ps (lam t) (var n) = none
join d ps (loc m) (app g b) = none
join d ps (loc m) (lam u) = none
join d ps (loc m) (loc n) = cond (eqb m n) (some (cond (ltb m d) (loc m) (loc (m + length ps)))) none
join d ps (loc m) (con n) = none
join d ps (loc m) (var n) = none
join d ps (con m) (app g b) = none
join d ps (con m) (lam u) = none
join d ps (con m) (loc n) = none
join d ps (con m) (con n) = at_constants d ps m n
join d ps (con m) (var n) = none
join d ps (var m) (app g b) = none
join d ps (var m) (lam u) = none
join d ps (var m) (loc n) = none
join d ps (var m) (con n) = none
join d ps (var m) (var n) = cond (eqb m n) (some (var m)) none
