-- The sweep and filling, as document 01's section "The sweep" has them. The words sweep, swept form and filling are the document's.
--   contract t   what an application or an abstraction with swept parts sweeps to
--   sweep t      t's swept form
--   largest t    the records of the largest swept form of a part of t
--   fill φ p     p with φ i for each variable i
use Rattle.std.specs.Prelude.{not, cond, ◌&&◌, ℕ, max}
use Rattle.terms.specs.Term.{Term, app, lam, loc, con, var, size, unshift, substitute, is_abstraction, redex}

-- the head of an application and the body of an abstraction; `contract` asks for them where the term is one
abbrev pub head_of : Term → Term
head_of (app f a) = f
head_of (lam b) = lam b
head_of (loc n) = loc n
head_of (con n) = con n
head_of (var n) = var n

abbrev pub body_of : Term → Term
body_of (app f a) = app f a
body_of (lam b) = b
body_of (loc n) = loc n
body_of (con n) = con n
body_of (var n) = var n

-- "If the swept head is an abstraction, put the swept argument for its local in the body, without capture, and reduce no further.
-- Otherwise it is the application of the two."
-- "If the result is `M #0`, M doesn't use that local, and M isn't itself an abstraction, the swept form is M moved out. Otherwise it is
-- the abstraction over the swept body."
abbrev pub contract : Term → Term
contract (app f a) = cond (redex (app f a)) (substitute 0 a (body_of f)) (app f a)
contract (lam b) = cond (redex (lam b) && not (is_abstraction (head_of b))) (unshift 1 0 (head_of b)) (lam b)
contract (loc n) = loc n
contract (con n) = con n
contract (var n) = var n

-- "The sweep goes bottom-up through the parts." "Constants and locals sweep to themselves."
abbrev pub sweep : Term → Term
sweep (app f a) = contract (app (sweep f) (sweep a))
sweep (lam b) = contract (lam (sweep b))
sweep (loc n) = loc n
sweep (con n) = con n
sweep (var n) = var n

-- cause 12: "The swept form of some part of the filled pattern"
abbrev pub largest : Term → ℕ
largest (app f a) = max (size (sweep (app f a))) (max (largest f) (largest a))
largest (lam b) = max (size (sweep (lam b))) (largest b)
largest (loc n) = 1
largest (con n) = 1
largest (var n) = 1

-- "Filling puts the values for the variables."
abbrev pub fill : (ℕ → Term) → Term → Term
fill φ (app f a) = app (fill φ f) (fill φ a)
fill φ (lam b) = lam (fill φ b)
fill φ (loc n) = loc n
fill φ (con n) = con n
fill φ (var n) = φ n
