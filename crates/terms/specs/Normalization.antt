-- Sweeping until normal, as document 02's request "Rewritten recipes that can be rewritten again" has it.
--   sweeps n t                  t after n sweeps
--   NoneNormal least n t        of the forms of t after `least` sweeps or more, and fewer than n, none is normal
--   FirstNormal most least t u  u is the first normal one of t's forms after `least` sweeps or more, and comes after at most `most` sweeps
--   SweepTooLong most least t   some sweep that is made on the way there, or to the last that is allowed, gets too long
-- "at least once" is a `least` of 1. A normal term sweeps to itself, so that which form comes first says which sweeps are made, and not
-- which form is given.
use Rattle.std.specs.Prelude.{◌≡◌, ℕ, zero, suc, ◌≤◌, ◌<◌}
use Rattle.terms.specs.Figures.{swept_records}
use Rattle.terms.specs.Term.{Term, Normal}
use Rattle.terms.specs.Sweep.{sweep, largest}

-- "sweeps the filled right side again and again"
abbrev pub sweeps : ℕ → Term → Term
sweeps zero t = t
sweeps (suc n) t = sweeps n (sweep t)

abbrev pub NoneNormal : ℕ → ℕ → Term → Type 0
NoneNormal least n t = (j : ℕ) → least ≤ j → j < n → ¬ Normal (sweeps j t)

-- "gives the first form that is normal"
pub record FirstNormal (most least : ℕ) (t u : Term) : Type 0 where
  pub count : ℕ
  pub enough : least ≤ count
  pub few : count ≤ most
  pub first : NoneNormal least count t
  pub is : u ≡ sweeps count t
  pub normal : Normal u

-- "Number 12 applies to each sweep": the sweep that follows `before` others is made if no form up to then is the one that is given
pub record SweepTooLong (most least : ℕ) (t : Term) : Type 0 where
  pub before : ℕ
  pub few : before < most
  pub made : NoneNormal least (suc before) t
  pub long : swept_records < largest (sweeps before t)
