-- The head of a term: the first record that is no application. What the search's contracts say of heads; no promise of an operation cites
-- it.
--   rigid p   the head of p is a local or a constant
use Rattle.std.specs.Prelude.{Bool, true, false}
use Rattle.terms.specs.Term.{Term, app, lam, loc, con, var}

abbrev pub rigid : Term → Bool
rigid (app f a) = rigid f
rigid (lam b) = false
rigid (loc n) = true
rigid (con n) = true
rigid (var n) = false
