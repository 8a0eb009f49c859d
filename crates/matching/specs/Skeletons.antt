-- What is known of a swept form while variables are open: a term with holes, which are variables.
--   Fills n t       t may stand in the hole n: in hole 0 any term, in any other hole a closed one
--   Fits s t        t is s with such a term in place of each variable of s
--   has_variable t  some variable occurs in t
--   is_any t        t is the hole that any term may stand in
--   is_unsure b     the abstraction over what fits b may contract or not, and differently for different terms
use Rattle.std.specs.Prelude.{◌≡◌, Bool, true, false, ◌||◌, ◌&&◌, ℕ, zero, suc, eqb}
use Rattle.terms.specs.Term.{Term, Closed, app, lam, loc, con, var, is_innermost}

abbrev pub Fills : ℕ → Term → Type 0
Fills zero t = Unit {0}
Fills (suc n) t = Closed 0 t

abbrev pub Fits : Term → Term → Type 0
Fits (app f a) (app g b) = Fits f g × Fits a b
Fits (app f a) (lam u) = ⊥
Fits (app f a) (loc n) = ⊥
Fits (app f a) (con n) = ⊥
Fits (app f a) (var n) = ⊥
Fits (lam b) (app g c) = ⊥
Fits (lam b) (lam c) = Fits b c
Fits (lam b) (loc n) = ⊥
Fits (lam b) (con n) = ⊥
Fits (lam b) (var n) = ⊥
Fits (loc m) (app g c) = ⊥
Fits (loc m) (lam u) = ⊥
Fits (loc m) (loc n) = m ≡ n
Fits (loc m) (con n) = ⊥
Fits (loc m) (var n) = ⊥
Fits (con m) (app g c) = ⊥
Fits (con m) (lam u) = ⊥
Fits (con m) (loc n) = ⊥
Fits (con m) (con n) = m ≡ n
Fits (con m) (var n) = ⊥
Fits (var m) t = Fills m t

abbrev pub has_variable : Term → Bool
has_variable (app f a) = has_variable f || has_variable a
has_variable (lam b) = has_variable b
has_variable (loc n) = false
has_variable (con n) = false
has_variable (var n) = true

abbrev pub is_any : Term → Bool
is_any (app f a) = false
is_any (lam b) = false
is_any (loc n) = false
is_any (con n) = false
is_any (var n) = eqb n 0

abbrev pub is_unsure : Term → Bool
is_unsure (app f a) = is_any a || (is_innermost a && has_variable f)
is_unsure (lam b) = false
is_unsure (loc n) = false
is_unsure (con n) = false
is_unsure (var n) = is_any (var n)
