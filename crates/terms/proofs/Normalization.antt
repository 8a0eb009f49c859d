-- Sweeping until normal, one sweep at a time: what holds of the sweeps behind the first holds of all, with the numbers of sweeps one
-- higher. There is one first normal form, it is at most as long as a swept form may be, and it is closed and without variables if the term
-- is. Assumes nothing.
use mathlib.Core.Path.{◌≡◌, refl, sym, ap, ◌∙◌, subst}
use Prim.Native.Nat.{ℕ, zero, suc, ◌≤◌, ◌<◌}
use native.Mathlib.Decide.{dec_lt}
use native.Mathlib.Omega.{arith}
use lib.Dec.{lit≤}
use Rattle.terms.specs.Figures.{swept_records, most_sweeps}
use Rattle.terms.specs.Term.{Term, app, lam, loc, con, size, Normal, Closed, Below}
use Rattle.terms.specs.Sweep.{sweep, largest}
use Rattle.terms.specs.Normalization.{sweeps, NoneNormal, FirstNormal, SweepTooLong}
use Rattle.terms.proofs.Sweep.{sweep_largest}
use Rattle.terms.proofs.Variables.{below_sweep, closed_sweep_below}

-- the first sweep is made
module _ (least : ℕ) (t : Term) (one : least ≤ 1) (start : least ≤ 0 → ¬ Normal t) where
  pub none_normal_more : (n : ℕ) → NoneNormal 0 n (sweep t) → NoneNormal least (suc n) t
  none_normal_more n h zero l m = start l
  none_normal_more n h (suc j) l m = h j (omega arith) (omega arith)

  none_normal_less : (n : ℕ) → NoneNormal least (suc n) t → NoneNormal 0 n (sweep t)
  none_normal_less n h j l m = h (suc j) (omega arith) (omega arith)

  pub first_normal_more : (most : ℕ) (u : Term) → FirstNormal most 0 (sweep t) u → FirstNormal (suc most) least t u
  first_normal_more most u s = record {
    count = suc s.count;
    enough = omega arith;
    few = omega (arith, s.few);
    first = none_normal_more s.count s.first;
    is = s.is;
    normal = s.normal;
  }

  pub sweep_long_more : (most : ℕ) → SweepTooLong most 0 (sweep t) → SweepTooLong (suc most) least t
  sweep_long_more most o =
      record { before = suc o.before; few = omega (arith, o.few); made = none_normal_more (suc o.before) o.made; long = o.long }

  -- if the first sweep fits, another is the one that gets too long
  pub sweep_long_less : (most : ℕ) → largest t ≤ swept_records → SweepTooLong (suc most) least t → SweepTooLong most 0 (sweep t)
  sweep_long_less most fits o = go o.before o.few o.made o.long
    where
      go : (n : ℕ) → n < suc most → NoneNormal least (suc n) t → swept_records < largest (sweeps n t) → SweepTooLong most 0 (sweep t)
      go zero l m h = absurd (omega (arith, fits))
      go (suc n) l m h = record { before = n; few = omega arith; made = none_normal_less (suc n) m; long = h }

  pub sweep_long_first : (most : ℕ) → 0 < most → swept_records < largest t → SweepTooLong most least t
  sweep_long_first most h l = record { before = 0; few = h; made = only; long = l }
    where
      only : NoneNormal least 1 t
      only zero l m = start l
      only (suc j) l m = absurd (omega arith)

-- a term that is normal is swept no more, and one that isn't has no normal form after no sweep
module _ (t : Term) where
  pub first_normal_now : (most : ℕ) → Normal t → FirstNormal most 0 t t
  first_normal_now most h =
      record { count = 0; enough = omega arith; few = omega arith; first = λ j l m. absurd (omega arith); is = refl; normal = h }

  pub sweep_long_not : (most : ℕ) → Normal t → ¬ SweepTooLong most 0 t
  sweep_long_not most h o = o.made 0 (omega arith) (omega arith) h

  pub none_normal_now : ¬ Normal t → NoneNormal 0 1 t
  none_normal_now h zero l m = h
  none_normal_now h (suc j) l m = absurd (omega arith)

-- a form that is normal after one sweep is the first: no further sweep is made
pub first_normal_once : (most : ℕ) (t : Term) → Normal (sweep t) → FirstNormal (suc most) 1 t (sweep t)
first_normal_once most t h =
    first_normal_more 1 t (omega arith) (λ l. absurd (omega arith)) most (sweep t) (first_normal_now (sweep t) most h)

-- a first normal form is reached, and there is only one
pub first_normal_reached : (most least : ℕ) (t u : Term) → FirstNormal most least t u → ¬ NoneNormal least (suc most) t
first_normal_reached most least t u x n = n x.count x.enough (omega (arith, x.few)) (subst Normal x.is x.normal)

pub first_normal_one : (most least : ℕ) (t u v : Term) → FirstNormal most least t u → FirstNormal most least t v → u ≡ v
first_normal_one most least t u v x y = go (dec_lt x.count y.count) (dec_lt y.count x.count)
  where
    go : Dec (x.count < y.count) → Dec (y.count < x.count) → u ≡ v
    go (yes h) o = absurd (y.first x.count x.enough h (subst Normal x.is x.normal))
    go (no h) (yes k) = absurd (x.first y.count y.enough k (subst Normal y.is y.normal))
    go (no h) (no k) = let e : x.count ≡ y.count = omega arith in x.is ∙ ap (λ (n : ℕ). sweeps n t) e ∙ sym y.is

-- what a form is if it was swept at least once
sweeps_last : (n : ℕ) (t : Term) → sweeps (suc n) t ≡ sweep (sweeps n t)
sweeps_last zero t = refl
sweeps_last (suc n) t = sweeps_last n (sweep t)

pub first_normal_short : (most : ℕ) (t u : Term) → FirstNormal most 1 t u → ¬ SweepTooLong most 1 t → size u ≤ swept_records
first_normal_short most t u x h = go x.count x.enough x.few x.first x.is
  where
    go : (n : ℕ) → 1 ≤ n → n ≤ most → NoneNormal 1 n t → u ≡ sweeps n t → size u ≤ swept_records
    go (suc n) l m f e = short (dec_lt swept_records (largest (sweeps n t)))
      where
        short : Dec (swept_records < largest (sweeps n t)) → size u ≤ swept_records
        short (yes d) = absurd (h (record { before = n; few = m; made = f; long = d }))
        short (no d) = omega (arith, ap size (e ∙ sweeps_last n t), sweep_largest (sweeps n t))
    go zero l m f e = elim l [ ]

-- sweeps bring in no variable and no loose local
pub sweeps_closed_below : (n : ℕ) (t : Term) → Closed 0 t → Below 0 t → Closed 0 (sweeps n t) × Below 0 (sweeps n t)
sweeps_closed_below zero t c b = (c, b)
sweeps_closed_below (suc n) t c b = sweeps_closed_below n (sweep t) (closed_sweep_below 0 t b c) (below_sweep 0 t b)

pub first_normal_closed_below : (most least : ℕ) (t u : Term) → FirstNormal most least t u → Closed 0 t → Below 0 t → Closed 0 u × Below 0 u
first_normal_closed_below most least t u x c b = rw x.is (sweeps_closed_below x.count t c b)

-- examples: `@ \ @ #0 k0 \ #0`, document 01's case 10, takes two sweeps, and `@ \ @ #0 #0 \ @ #0 #0` never gets normal
pub first_normal_twice : FirstNormal most_sweeps 1 (app (lam (app (loc 0) (con 0))) (lam (loc 0))) (con 0)
first_normal_twice = record { count = 2; enough = lit≤ tt; few = lit≤ tt; first = first; is = refl; normal = tt }
  where
    first : NoneNormal 1 2 (app (lam (app (loc 0) (con 0))) (lam (loc 0)))
    first zero l m n = omega arith
    first (suc zero) l m n = n.0
    first (suc (suc j)) l m n = omega arith

abbrev self_applied : Term
self_applied = app (lam (app (loc 0) (loc 0))) (lam (app (loc 0) (loc 0)))

sweeps_forever : (n : ℕ) → sweeps n self_applied ≡ self_applied
sweeps_forever zero = refl
sweeps_forever (suc n) = sweeps_forever n

pub none_normal_forever : (least n : ℕ) → NoneNormal least n self_applied
none_normal_forever least n j l m h = (rw (sweeps_forever j) at h).0
