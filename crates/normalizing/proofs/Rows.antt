-- The rows 12 and 15 of a term that is swept until normal, by how that ended. The term is the only one of which F holds. Assumes nothing.
use mathlib.Core.Path.{◌≡◌, refl, subst}
use mathlib.Core.List.{List}
use mathlib.Core.Logic.{inl, inr}
use Prim.Native.Nat.{ℕ, suc}
use Rattle.std.specs.declared.result.Result.{Result}
use Rattle.std.specs.declared.result.Result.TheVariants.{Ok, Err}
use Rattle.normalizing.specs.declared.NormalFault.{NormalFault}
use Rattle.terms.specs.Figures.{most_sweeps}
use Rattle.terms.specs.Term.{Term}
use Rattle.terms.specs.Normalization.{NoneNormal, FirstNormal, SweepTooLong}
use Rattle.terms.specs.Refusal.{Refused, Passed, normal_form_rows}
use Rattle.terms.proofs.Normalization.{first_normal_reached}
use Rattle.normalizing.specs.Normalized.{Begins, Normalized}

module _ (F : Term → Type 0) (least : ℕ) (t : Term) (here : F t) (one : (u : Term) → F u → u ≡ t) (r : Result ℕ NormalFault)
    (after : List ℕ)
    (x : Normalized most_sweeps least t r after) where
  normalized_as : (a : Result ℕ NormalFault) → r ≡ a → Normalized most_sweeps least t a after
  normalized_as a e = subst (λ (b : Result ℕ NormalFault). Normalized most_sweeps least t b after) e x

  none_long : ¬ SweepTooLong most_sweeps least t → ¬ ((u : Term) × F u × SweepTooLong most_sweeps least u)
  none_long h c = h (subst (SweepTooLong most_sweeps least) (one c.0 c.1) c.2)

  pub rows_long : r ≡ (Err NormalFault.TooLong) → Refused (normal_form_rows F least) 12
  unfolding Normalized
  rows_long e = inl ((t, here, normalized_as (Err NormalFault.TooLong) e), refl)

  pub rows_none : r ≡ (Err NormalFault.NotReached) → Refused (normal_form_rows F least) 15
  unfolding Normalized
  rows_none e = let z = normalized_as (Err NormalFault.NotReached) e in inr (none_long z.0, inl ((t, here, z.1), refl))

  module _ (n : ℕ) (e : r ≡ Ok n) where
    pub rows_form : (u : Term) × FirstNormal most_sweeps least t u × Begins after n u
    unfolding Normalized
    rows_form = (normalized_as (Ok n) e).1

    pub rows_short : ¬ SweepTooLong most_sweeps least t
    unfolding Normalized
    rows_short = (normalized_as (Ok n) e).0

    pub rows_passed : Passed (normal_form_rows F least)
    rows_passed = (
      none_long rows_short,
      (
        λ c. first_normal_reached most_sweeps least t rows_form.0 rows_form.1
            (subst (NoneNormal least (suc most_sweeps)) (one c.0 c.1) c.2),
        tt,
      ),
    )
