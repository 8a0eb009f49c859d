-- The reduct of a pattern: its redexes contracted where the argument is rigid, or where the local stands only as the argument of a
-- constant.
--   constant_head t  the first record of t that is no application is a constant
--   is_local k t      t is local k
--   guarded k t      each use of local k in t is the argument of an application whose head begins with a constant
--   is_passed a b    the redex of the abstraction over b and the argument a can be contracted so
--   applied f a      f applied to a, contracted if it is such a redex
--   reduct p         p with such redexes contracted bottom-up
use Rattle.std.specs.Prelude.{Bool, true, false, not, cond, ◌&&◌, ◌||◌, ℕ, suc, eqb}
use Rattle.terms.specs.Term.{Term, app, lam, loc, con, var, substitute}
use Rattle.terms.specs.Heads.{rigid}

abbrev pub constant_head : Term → Bool
constant_head (app f a) = constant_head f
constant_head (lam b) = false
constant_head (loc n) = false
constant_head (con n) = true
constant_head (var n) = false

abbrev pub is_local : ℕ → Term → Bool
is_local k (app f a) = false
is_local k (lam b) = false
is_local k (loc n) = eqb n k
is_local k (con n) = false
is_local k (var n) = false

abbrev pub guarded : ℕ → Term → Bool
guarded k (app f a) = guarded k f && cond (is_local k a) (constant_head f) (guarded k a)
guarded k (lam b) = guarded (suc k) b
guarded k (loc n) = not (eqb n k)
guarded k (con n) = true
guarded k (var n) = true

-- the pattern with its redexes contracted where the argument is rigid or the local guarded, bottom-up
abbrev pub is_passed : Term → Term → Bool
is_passed a b = rigid a || guarded 0 b

abbrev pub applied : Term → Term → Term
applied (app f b) a = app (app f b) a
applied (lam b) a = cond (is_passed a b) (substitute 0 a b) (app (lam b) a)
applied (loc n) a = app (loc n) a
applied (con n) a = app (con n) a
applied (var n) a = app (var n) a

abbrev pub reduct : Term → Term
reduct (app f a) = applied (reduct f) (reduct a)
reduct (lam b) = lam (reduct b)
reduct (loc n) = loc n
reduct (con n) = con n
reduct (var n) = var n
