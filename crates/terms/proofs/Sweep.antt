-- The sweep leaves normal terms as they are, no swept form is above the largest of its parts, and filling reads only the variables that
-- occur. By induction on the term. Assumes nothing.
use mathlib.Core.Path.{◌≡◌, refl, ap, ap₂}
use mathlib.Core.Bool.{Bool, true, false, not, cond, ◌&&◌}
use mathlib.Core.Logic.{inl, inr}
use Prim.Native.Nat.{ℕ, max, ◌≤◌}
use native.Mathlib.Nat.{le-max_left}
use native.Mathlib.Omega.{arith}
use lib.Dec.{T}
use Rattle.terms.specs.Term.{Term, app, lam, loc, con, var, size, Normal, Occurs, unshift, substitute, is_abstraction, is_eta}
use Rattle.terms.specs.Sweep.{sweep, contract, largest, fill}
use Rattle.terms.proofs.Tests.{false_of}

pub contract_app : (f a : Term) → T (not (is_abstraction f)) → contract (app f a) ≡ app f a
contract_app f a h = rw (false_of (is_abstraction f) h)

pub contract_lam : (b : Term) → T (not (is_eta b)) → contract (lam b) ≡ lam b
contract_lam b h = rw (false_of (is_eta b) h)

-- "M isn't itself an abstraction"
pub contract_abstraction : (b a : Term) → contract (lam (app (lam b) a)) ≡ lam (app (lam b) a)
contract_abstraction b a = go (is_eta (app (lam b) a))
  where
    go : (x : Bool) → cond (x && false) (unshift 1 0 (lam b)) (lam (app (lam b) a)) ≡ lam (app (lam b) a)
    go true = refl
    go false = refl

-- "put the swept argument for its local in the body, without capture, and reduce no further"
pub sweep_beta : (f a b : Term) → sweep f ≡ lam b → sweep (app f a) ≡ substitute 0 (sweep a) b
sweep_beta f a b e = rw e

pub sweep_normal : (t : Term) → Normal t → sweep t ≡ t
sweep_normal (app f a) h = rw (sweep_normal f h.1, sweep_normal a h.2) (contract_app f a h.0)
sweep_normal (lam b) h = rw (sweep_normal b h.1) (contract_lam b h.0)
sweep_normal (loc n) h = refl
sweep_normal (con n) h = refl
sweep_normal (var n) h = refl

pub sweep_largest : (t : Term) → size (sweep t) ≤ largest t
sweep_largest (app f a) = le-max_left (size (sweep (app f a))) (max (largest f) (largest a))
sweep_largest (lam b) = le-max_left (size (sweep (lam b))) (largest b)
sweep_largest (loc n) = omega arith
sweep_largest (con n) = omega arith
sweep_largest (var n) = omega arith

pub fill_same : (φ ψ : ℕ → Term) (p : Term) → ((i : ℕ) → Occurs i p → φ i ≡ ψ i) → fill φ p ≡ fill ψ p
fill_same φ ψ (app f a) h = ap₂ app (fill_same φ ψ f (λ i o. h i (inl o))) (fill_same φ ψ a (λ i o. h i (inr o)))
fill_same φ ψ (lam b) h = ap lam (fill_same φ ψ b h)
fill_same φ ψ (loc n) h = refl
fill_same φ ψ (con n) h = refl
fill_same φ ψ (var n) h = h n refl
