-- The sides of a rule, filled and swept: what comes of them is the rule's outcome on the part. Assumes nothing.
use mathlib.Core.Path.{◌≡◌, refl, subst}
use mathlib.Core.List.{List}
use mathlib.Core.Logic.{inl, inr}
use Prim.Native.Nat.{ℕ, ◌<◌}
use native.Mathlib.Omega.{arith}
use Rattle.std.specs.declared.result.Result.{Result}
use Rattle.std.specs.declared.result.Result.TheVariants.{Ok, Err}
use Rattle.normalizing.specs.declared.NormalFault.{NormalFault}
use Rattle.std.specs.declared.option.Option.{Option}
use Rattle.std.specs.declared.option.Option.TheVariants.{Some, None}
use Rattle.terms.specs.Figures.{swept_records, most_sweeps}
use Rattle.terms.specs.Term.{Term}
use Rattle.terms.specs.Table.{IsTable}
use Rattle.terms.specs.Sweep.{largest, fill}
use Rattle.terms.specs.Refusal.{Filled}
use Rattle.terms.proofs.Normalization.{first_normal_short, first_normal_closed_below}
use Rattle.sweeping.specs.Swept.{FormSwept}
use Rattle.sweeping.proofs.Sweeps.{swept_long}
use Rattle.normalizing.proofs.Rows.{rows_long, rows_none, rows_form, rows_short, rows_passed}
use Rattle.sides.specs.Sides.{SweptSide, NormalSide}
use Rattle.sides.proofs.Sides.{filled_closed_below}
use Rattle.refusals.specs.declared.Refusal.{Refusal}
use Rattle.normalizing.specs.Normalized.{of_fault}
use Rattle.attempts.specs.Pairs.{form, stop}
use Rattle.attempts.specs.Steps.{PairAnswers, FilledBy, SidesRewritten}

filled_by : (p l s : List ℕ) (u : Term) (φ : ℕ → Term) → IsTable p u → FilledBy u l s φ → Filled p l s (fill φ u)
filled_by p l s u φ t f = record { term = u; table = t; φ = φ; stored = f; is = refl }

module _ (p q l s : List ℕ) (out : List ℕ) (r : Option ℕ) (after : List ℕ) (w : SweptSide p l s out r after) where
  pub left_long : (f : List ℕ) → r ≡ None → SidesRewritten p q l s (Err Refusal.SweptForm) f
  unfolding PairAnswers
  left_long f e u v φ x y g h =
      let z = swept_long (fill φ u) out after r (w (fill φ u) (filled_by p l s u φ x g)) e in
      record { outcome = stop 12; holds = inl (12, inl (z, refl), refl); answers = refl }

  module _ (k : ℕ) (e : r ≡ Some k) (a : Result ℕ NormalFault) (f : List ℕ) (n : NormalSide q l s a f) where
    left_fits : (u : Term) (φ : ℕ → Term) → IsTable p u → FilledBy u l s φ → ¬ (swept_records < largest (fill φ u))
    unfolding FormSwept
    left_fits u φ x g h =
        let z : FormSwept (fill φ u) out (Some k) after =
        subst (λ (d : Option ℕ). FormSwept (fill φ u) out d after) e (w (fill φ u) (filled_by p l s u φ x g)) in
        omega (arith, z.0, h)

    right_long : a ≡ (Err NormalFault.TooLong) → SidesRewritten p q l s (Err Refusal.SweptForm) f
    unfolding PairAnswers
    right_long d u v φ x y g h =
        let z = rows_long (λ t. t ≡ fill φ v) 1 (fill φ v) refl (λ t i. i) a f (n (fill φ v) (filled_by q l s v φ y h)) d in
        record { outcome = stop 12; holds = inl (12, inr (left_fits u φ x g, z), refl); answers = refl }

    right_none : a ≡ (Err NormalFault.NotReached) → SidesRewritten p q l s (Err Refusal.NoNormalForm) f
    unfolding PairAnswers
    right_none d u v φ x y g h =
        let z = rows_none (λ t. t ≡ fill φ v) 1 (fill φ v) refl (λ t i. i) a f (n (fill φ v) (filled_by q l s v φ y h)) d in
        record { outcome = stop 15; holds = inl (15, inr (left_fits u φ x g, z), refl); answers = refl }

    right_form : (m : ℕ) → a ≡ Ok m → SidesRewritten p q l s (Ok (Some m)) f
    unfolding PairAnswers
    right_form m d u v φ x y g h =
        let i = filled_by q l s v φ y h in
        let b = n (fill φ v) i in
        let z = rows_form (λ t. t ≡ fill φ v) 1 (fill φ v) refl (λ t i. i) a f b m d in
        let o = filled_closed_below q l s (fill φ v) i in
        let j = first_normal_closed_below most_sweeps 1 (fill φ v) z.0 z.1 o.0 o.1 in
        let few = first_normal_short most_sweeps (fill φ v) z.0 z.1
        (rows_short (λ t. t ≡ fill φ v) 1 (fill φ v) refl (λ t i. i) a f b m d) in
        record {
          outcome = form z.0;
          holds = inr (
            (left_fits u φ x g, rows_passed (λ t. t ≡ fill φ v) 1 (fill φ v) refl (λ t i. i) a f b m d),
            (z.0, z.1, refl),
          );
          answers = (
            z.0,
            refl,
            record { begins = z.2; few = omega (arith, few, z.2.records); closed = j.0; below = j.1 },
          );
        }

  -- the right side, by what sweeping it until normal came to
  module _ (k : ℕ) (e : r ≡ Some k) (f : List ℕ) where
    pub right_fault : (d : NormalFault) → NormalSide q l s (Err d) f → SidesRewritten p q l s (Err (of_fault d)) f
    right_fault NormalFault.TooLong n = right_long k e (Err NormalFault.TooLong) f n refl
    right_fault NormalFault.NotReached n = right_none k e (Err NormalFault.NotReached) f n refl

    pub right_given : (m : ℕ) → NormalSide q l s (Ok m) f → SidesRewritten p q l s (Ok (Some m)) f
    right_given m n = right_form k e (Ok m) f n m refl
