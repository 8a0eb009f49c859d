-- The highest loose local is the greatest that a full walk finds, and it decides whether a part is closed. By induction on the term; of two
-- lists of loose locals the greatest is the higher of each one's greatest. Assumes nothing.
use mathlib.Core.Path.{◌≡◌, refl, sym, ap, ap₂, ◌∙◌}
use mathlib.Core.Bool.{Bool, cond}
use mathlib.Core.Logic.{◌↔◌}
use mathlib.Core.Option.{Option, none, some}
use mathlib.Core.List.{List, [], ◌∷◌, ◌++◌}
use Prim.Native.Nat.{ℕ, zero, suc, ◌-◌, max}
use native.Mathlib.Omega.{arith}
use lib.Dec.{ltb, leb-suc-suc}
use borrow.Author.Tests.{lt-ltb, le-ltb}
use Rattle.terms.specs.Term.{Term, app, lam, loc, con, var}
use Rattle.heights.specs.Highest.{higher, outside, highest, loose, greatest, FoundByWalk, NoneOrBelow, DecidesClosed}

below_higher : (d : ℕ) (x y : Option ℕ) → NoneOrBelow d (higher x y) ↔ (NoneOrBelow d x × NoneOrBelow d y)
below_higher d none y = (λ u. (tt, u), λ u. u.1)
below_higher d (some m) none = (λ u. (u, tt), λ u. u.0)
below_higher d (some m) (some n) = (λ u. (omega arith, omega arith), λ u. omega (arith, u.0, u.1))

below_outside : (d : ℕ) (x : Option ℕ) → NoneOrBelow d (outside x) ↔ NoneOrBelow (suc d) x
below_outside d none = (λ u. tt, λ u. tt)
below_outside d (some zero) = (λ u. omega arith, λ u. tt)
below_outside d (some (suc n)) = (λ u. omega arith, λ u. omega arith)

pub decides_closed : DecidesClosed
decides_closed d (app f a) =
    let u = below_higher d (highest f) (highest a) in (
      λ c. u.1 ((decides_closed d f).0 c.0, (decides_closed d a).0 c.1),
      λ c. ((decides_closed d f).1 (u.0 c).0, (decides_closed d a).1 (u.0 c).1),
    )
decides_closed d (lam b) =
    let u = below_outside d (highest b) in
    (λ c. u.1 ((decides_closed (suc d) b).0 c), λ c. (decides_closed (suc d) b).1 (u.0 c))
decides_closed d (loc n) = (λ c. c, λ c. c)
decides_closed d (con n) = (λ c. tt, λ c. tt)
decides_closed d (var n) = (λ c. tt, λ c. tt)

-- the greatest of two lists is the higher of each one's greatest
higher_none : (x : Option ℕ) → higher x none ≡ x
higher_none none = refl
higher_none (some n) = refl

higher_assoc : (x y z : Option ℕ) → higher (higher x y) z ≡ higher x (higher y z)
higher_assoc none y z = refl
higher_assoc (some m) none z = refl
higher_assoc (some m) (some n) none = refl
higher_assoc (some m) (some n) (some k) = ap some (omega arith)

greatest_append : (ms ns : List ℕ) → greatest (ms ++ ns) ≡ higher (greatest ms) (greatest ns)
greatest_append [] ns = refl
greatest_append (m ∷ ms) ns =
    ap (higher (some m)) (greatest_append ms ns) ∙ sym (higher_assoc (some m) (greatest ms) (greatest ns))

-- what is left of a local outside of d binders
abbrev outsides : ℕ → Option ℕ → Option ℕ
outsides zero x = x
outsides (suc d) x = outsides d (outside x)

outsides_none : (d : ℕ) → outsides d none ≡ none
outsides_none zero = refl
outsides_none (suc d) = outsides_none d

outside_most : (m n k : ℕ) → max m n ≡ suc k → outside (some (max m n)) ≡ some k
outside_most m n k e = ap (λ (j : ℕ). outside (some j)) e

outside_higher : (x y : Option ℕ) → outside (higher x y) ≡ higher (outside x) (outside y)
outside_higher none y = refl
outside_higher (some m) none = sym (higher_none (outside (some m)))
outside_higher (some zero) (some zero) = refl
outside_higher (some zero) (some (suc n)) = outside_most zero (suc n) n (omega arith)
outside_higher (some (suc m)) (some zero) = outside_most (suc m) zero m (omega arith)
outside_higher (some (suc m)) (some (suc n)) = outside_most (suc m) (suc n) (max m n) (omega arith)

outsides_higher : (d : ℕ) (x y : Option ℕ) → outsides d (higher x y) ≡ higher (outsides d x) (outsides d y)
outsides_higher zero x y = refl
outsides_higher (suc d) x y = ap (outsides d) (outside_higher x y) ∙ outsides_higher d (outside x) (outside y)

outsides_local : (d n : ℕ) → outsides d (some n) ≡ greatest (cond (ltb n d) [] ((n - d) ∷ []))
outsides_local zero n = rw (le-ltb n 0 (omega arith)) (ap some (omega arith))
outsides_local (suc d) zero = outsides_none d ∙ rw (lt-ltb 0 (suc d) (omega arith)) refl
outsides_local (suc d) (suc n) =
    outsides_local d n ∙ ap₂ (λ (b : Bool) (k : ℕ). greatest (cond b [] (k ∷ []))) (sym (leb-suc-suc (suc n) d)) (omega arith)

-- a walk below d binders finds what is left outside of them
found_below : (d : ℕ) (t : Term) → outsides d (highest t) ≡ greatest (loose d t)
found_below d (app f a) =
    outsides_higher d (highest f) (highest a) ∙ ap₂ higher (found_below d f) (found_below d a)
    ∙ sym (greatest_append (loose d f) (loose d a))
found_below d (lam b) = found_below (suc d) b
found_below d (loc n) = outsides_local d n
found_below d (con n) = outsides_none d
found_below d (var n) = outsides_none d

pub found_by_walk : FoundByWalk
found_by_walk t = found_below 0 t
