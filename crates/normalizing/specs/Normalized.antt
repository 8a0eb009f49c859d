-- What sweeping a table until it is normal needs, and what it leaves.
--   of_fault f                       the refusal where no normal form is given
--   Begins l n t                     the table l begins with the n records, at most 384, of the term t
--   Normalizable l n                 it begins with n records of a closed term without variables, and has room for a swept form
--   SweptAgain t r after             one sweep of t: its swept form is what `after` begins with; or some part's is too long
--   Normalized most least t r after  t swept until normal: its first normal form is what `after` begins with; or why there is none
use Rattle.std.specs.declared.result.Result.{Result}
use Rattle.std.specs.declared.result.Result.TheVariants.{Ok, Err}
use Rattle.refusals.specs.declared.Refusal.{Refusal}
use Rattle.normalizing.specs.declared.NormalFault.{NormalFault}
use Rattle.std.specs.declared.option.Option.{Option}
use Rattle.std.specs.declared.option.Option.TheVariants.{Some, None}
use Rattle.std.specs.Prelude.{◌≡◌, List, ℕ, suc, ◌*◌, ◌-◌, ◌≤◌, ◌<◌, length, take, drop}
use Rattle.terms.specs.Figures.{swept_records}
use Rattle.terms.specs.Term.{Term, size, Closed, Below}
use Rattle.terms.specs.Table.{encode}
use Rattle.terms.specs.Sweep.{sweep, largest}
use Rattle.terms.specs.Normalization.{NoneNormal, FirstNormal, SweepTooLong}
use Rattle.sweeping.specs.Swept.{swept_bytes, sweep_records}

-- "15 when 64 sweeps reach no normal form"; a sweep that gets too long is refused as the first one is
abbrev pub of_fault : NormalFault → Refusal
of_fault NormalFault.TooLong = Refusal.SweptForm
of_fault NormalFault.NotReached = Refusal.NoNormalForm

pub record Begins (l : List ℕ) (n : ℕ) (t : Term) : Type 0 where
  pub records : n ≡ size t
  pub few : n ≤ sweep_records
  pub within : n * 4 ≤ length l
  pub bytes : take (n * 4 - 0) (drop 0 l) ≡ encode t

pub record Normalizable (l : List ℕ) (n : ℕ) : Type 0 where
  pub tree : Term
  pub begins : Begins l n tree
  pub room : swept_bytes ≤ length l
  pub closed : Closed 0 tree
  pub below : Below 0 tree

unfoldable pub SweptAgain : Term → Option ℕ → List ℕ → Type 0
SweptAgain t (Some m) after = (largest t ≤ swept_records) × Begins after m (sweep t)
SweptAgain t None after = swept_records < largest t

unfoldable pub Normalized : ℕ → ℕ → Term → Result ℕ NormalFault → List ℕ → Type 0
Normalized most least t (Ok n) after =
    (¬ SweepTooLong most least t) × ((u : Term) × FirstNormal most least t u × Begins after n u)
Normalized most least t (Err NormalFault.TooLong) after = SweepTooLong most least t
Normalized most least t (Err NormalFault.NotReached) after = (¬ SweepTooLong most least t) × NoneNormal least (suc most) t
