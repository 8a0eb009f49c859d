-- The targets that a search makes out of a target: each is closed below the binders above it, normal, without variables and no longer than
-- it may be, if the first one is. By induction on the term, and for a part of the target by going down to it. Assumes nothing.
use mathlib.Core.Path.{◌≡◌, refl, ap, subst}
use mathlib.Core.Bool.{cond}
use Prim.Native.Nat.{ℕ, suc, ◌+◌, ◌≤◌, ◌<◌}
use native.Mathlib.Omega.{arith}
use Rattle.terms.specs.Term.{Term, app, lam, loc, con, var, Normal, Closed, Ground, size, shift}
use Rattle.terms.proofs.Tests.{by_ltb}
use Rattle.terms.proofs.Shift.{normal_shift, size_shift}
use Rattle.matching.specs.Alternatives.{constant}
use Rattle.matching.specs.Occurrences.{part_at, Copy}
use Rattle.matching.proofs.Step.{body_target}
use Rattle.matching.proofs.Occurrences.{each_part}

-- shifting
pub closed_shift : (d c m n : ℕ) (t : Term) → n ≡ m + d → Closed m t → Closed n (shift d c t)
closed_shift d c m n (app f a) e h = (closed_shift d c m n f e h.0, closed_shift d c m n a e h.1)
closed_shift d c m n (lam b) e h = closed_shift d (suc c) (suc m) (suc n) b (omega arith) h
closed_shift d c m n (loc k) e h = by_ltb (λ s. Closed n (cond s (loc k) (loc (k + d)))) k c (λ l. omega (arith, h)) (λ l. omega (arith, h))
closed_shift d c m n (con k) e h = tt
closed_shift d c m n (var k) e h = tt

pub shift_closed : (d c m n : ℕ) (t : Term) → n ≡ m + d → c ≤ m → Closed n (shift d c t) → Closed m t
shift_closed d c m n (app f a) e l h = (shift_closed d c m n f e l h.0, shift_closed d c m n a e l h.1)
shift_closed d c m n (lam b) e l h = shift_closed d (suc c) (suc m) (suc n) b (omega arith) (omega arith) h
shift_closed d c m n (loc k) e l h =
    by_ltb (λ s. Closed n (cond s (loc k) (loc (k + d))) → k < m) k c (λ p q. omega (arith, p)) (λ p q. omega (arith, q)) h
shift_closed d c m n (con k) e l h = tt
shift_closed d c m n (var k) e l h = tt

pub ground_shift : (d c : ℕ) (t : Term) → Ground (shift d c t) ≡ Ground t
ground_shift d c (app f a) = rw (ground_shift d c f, ground_shift d c a)
ground_shift d c (lam b) = ground_shift d (suc c) b
ground_shift d c (loc n) = by_ltb (λ s. Ground (cond s (loc n) (loc (n + d))) ≡ Unit {0}) n c (λ l. refl) (λ l. refl)
ground_shift d c (con n) = refl
ground_shift d c (var n) = refl

-- the target of an abstraction's body
pub body_target_closed : (n : ℕ) (t : Term) → Closed n t → Closed (suc n) (body_target t)
body_target_closed n (app f a) h = (closed_shift 1 0 n (suc n) (app f a) (omega arith) h, omega arith)
body_target_closed n (lam b) h = h
body_target_closed n (loc k) h = (closed_shift 1 0 n (suc n) (loc k) (omega arith) h, omega arith)
body_target_closed n (con k) h = (tt, omega arith)
body_target_closed n (var k) h = (tt, omega arith)

pub body_target_ground : (t : Term) → Ground t → Ground (body_target t)
body_target_ground (app f a) h = (rw (ground_shift 1 0 (app f a)) h, tt)
body_target_ground (lam b) h = h
body_target_ground (loc k) h = (rw (ground_shift 1 0 (loc k)) tt, tt)
body_target_ground (con k) h = (h, tt)
body_target_ground (var k) h = absurd h

-- the target of a head that ignores its argument
pub constant_closed : (n : ℕ) (t : Term) → Closed n t → Closed n (constant t)
constant_closed n t h = closed_shift 1 0 n (suc n) t (omega arith) h

pub constant_ground : (t : Term) → Ground t → Ground (constant t)
constant_ground t h = rw (ground_shift 1 0 t) h

-- the target of an argument: a part of the target, moved out of the binders above it
module _ (t : Term) (j : ℕ) (e : Term) (h : j < size t) (c : Copy (part_at 0 t j) e) where
  pub part_closed : (n : ℕ) → Closed n t → Closed n e
  part_closed n g =
      shift_closed (part_at 0 t j).0 0 n (n + (part_at 0 t j).0) e refl (omega arith)
      (rw c at (each_part (λ d x. Closed (n + d) x) (λ d f a p. p) (λ d b p. subst (λ m. Closed m b) (omega arith) p) 0 t j h
      (subst (λ m. Closed m t) (omega arith) g)))

  pub part_normal : Normal t → Normal e
  part_normal g = rw normal_shift at (rw c at (each_part (λ d x. Normal x) (λ d f a p. (p.1, p.2)) (λ d b p. p.1) 0 t j h g))

  pub part_ground : Ground t → Ground e
  part_ground g = rw ground_shift at (rw c at (each_part (λ d x. Ground x) (λ d f a p. p) (λ d b p. p) 0 t j h g))

  pub part_size : size e ≤ size t
  part_size =
      let s = each_part (λ d x. size x ≤ size t) (λ d f a p. (omega arith, omega arith)) (λ d b p. omega arith) 0 t j h (omega arith) in
      omega (arith, s, ap size c, size_shift (part_at 0 t j).0 0 e)
