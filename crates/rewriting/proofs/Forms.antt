-- A side's form is written where it has room: what that answers, of a swept form and of a first normal form. A table is filled in one way
-- only, so what holds of one filled term holds of each. Assumes nothing.
use mathlib.Core.Path.{◌≡◌, refl, ap, ◌∙◌, subst}
use mathlib.Core.Bool.{Bool, true, false}
use mathlib.Core.List.{List, ◌++◌}
use mathlib.Core.Logic.{inl}
use Prim.Native.Nat.{ℕ, ◌+◌, ◌*◌, ◌-◌, ◌<◌, ◌≤◌}
use native.Mathlib.Omega.{arith}
use lib.ListN.{length, take, drop}
use lib.Seq.{sets, sets-eq}
use Rattle.std.specs.declared.result.Result.{Result}
use Rattle.std.specs.declared.result.Result.TheVariants.{Ok, Err}
use Rattle.normalizing.specs.declared.NormalFault.{NormalFault}
use Rattle.std.specs.declared.option.Option.{Option}
use Rattle.std.specs.declared.option.Option.TheVariants.{None}
use Rattle.terms.specs.Figures.{most_sweeps}
use Rattle.terms.specs.Term.{Term, size}
use Rattle.terms.specs.Table.{encode}
use Rattle.terms.specs.Sweep.{sweep}
use Rattle.terms.specs.Normalization.{FirstNormal}
use Rattle.terms.specs.Refusal.{Passed, Filled, swept_form_rows, output_rows, normal_form_rows, normal_output_rows}
use Rattle.terms.proofs.Refusal.{filled_one, refused_first, refused_later, passed_both}
use Rattle.terms.proofs.Normalization.{first_normal_one}
use Rattle.terms.proofs.Table.{encode_length}
use Rattle.normalizing.specs.Normalized.{of_fault, Begins, Normalized}
use Rattle.normalizing.proofs.Rows.{rows_long, rows_none, rows_form, rows_passed}
use Rattle.refusals.specs.declared.Refusal.{Refusal}
use Rattle.refusals.specs.Judged.{FilledTables}
use Rattle.refusals.specs.Lent.{overwritten}
use Rattle.sides.specs.Sides.{SweptSide, NormalSide}
use Rattle.sides.proofs.Sides.{SideForm, swept_passed, too_long}
use Rattle.rewriting.specs.Steps.{FormWritten, SideSwept, SideNormalized}

-- the bytes are copied to the start
pub form_written : (f o after : List ℕ) → length f ≤ length o → after ≡ sets o 0 f → FormWritten f o true after
unfolding FormWritten
form_written f o after h e =
    let z : 0 + length f ≡ length f = omega arith in (h, e ∙ sets-eq f o 0 (omega arith) ∙ ap (λ (k : ℕ). f ++ drop k o) z)

pub form_left : (f o : List ℕ) → length o < length f → FormWritten f o false o
unfolding FormWritten
form_left f o h = (h, refl)

-- what was written, of a table that begins with the form u
module _ (f o : List ℕ) (b : Bool) (after : List ℕ) (w : FormWritten f o b after) (u : Term) (e : f ≡ encode u) where
  written_room : b ≡ true → (4 * size u ≤ length o) × (after ≡ overwritten (encode u) o)
  unfolding FormWritten
  written_room p =
      let x = subst (λ (c : Bool). FormWritten f o c after) p w in
      (omega (arith, x.0, ap length e, encode_length u), x.1 ∙ ap (λ (g : List ℕ). overwritten g o) e)

  left_short : b ≡ false → (length o < 4 * size u) × (after ≡ o)
  unfolding FormWritten
  left_short p =
      let x = subst (λ (c : Bool). FormWritten f o c after) p w in (omega (arith, x.0, ap length e, encode_length u), x.1)

-- a swept form
module _ (p l s out : List ℕ) (r : Option ℕ) (table : List ℕ) (x : FilledTables p l s) (w : SweptSide p l s out r table) where
  pub put_long : (o : List ℕ) → r ≡ None → SideSwept p l s o (Err Refusal.SweptForm) o
  unfolding SideSwept
  put_long o e = (refused_first (swept_form_rows p l s) (output_rows p l s o) 12 (too_long p l s out r table x w e), refl)

module _ (p l s : List ℕ) (n : ℕ) (table : List ℕ) (x : SideForm p l s n table) (o : List ℕ) (b : Bool) (after : List ℕ)
    (w : FormWritten (take (n * 4 - 0) (drop 0 table)) o b after) where
  pub put_short : b ≡ false → SideSwept p l s o (Err Refusal.Output) after
  unfolding SideSwept
  put_short e =
      let z = left_short (take (n * 4 - 0) (drop 0 table)) o b after w (sweep x.term) x.bytes e in (
        refused_later (swept_form_rows p l s) (output_rows p l s o) 13 (swept_passed p l s n table x)
            (inl ((x.term, x.filled, z.0), refl)),
        z.1,
      )

  pub put_done : b ≡ true → SideSwept p l s o (Ok n) after
  unfolding SideSwept
  put_done e =
      let z = written_room (take (n * 4 - 0) (drop 0 table)) o b after w (sweep x.term) x.bytes e in (
        passed_both (swept_form_rows p l s) (output_rows p l s o) (swept_passed p l s n table x)
            (λ c. omega (arith, z.0, ap (λ t. size (sweep t)) (filled_one p l s c.0 x.term c.1 x.filled), c.2), tt),
        record { term = x.term; filled = x.filled; records = x.records; bytes = z.1 },
      )

-- a first normal form
module _ (p l s : List ℕ) (x : FilledTables p l s) (r : Result ℕ NormalFault) (table : List ℕ) (w : NormalSide p l s r table) where
  one : (t : Term) → Filled p l s t → t ≡ x.term
  one t f = filled_one p l s t x.term f x.filled

  rows_of : Normalized most_sweeps 1 x.term r table
  rows_of = w x.term x.filled

  normal_put_long : (o : List ℕ) → r ≡ (Err NormalFault.TooLong) → SideNormalized p l s o (Err Refusal.SweptForm) o
  unfolding SideNormalized
  normal_put_long o e = (
    refused_first (normal_form_rows (Filled p l s) 1) (normal_output_rows (Filled p l s) 1 o) 12
        (rows_long (Filled p l s) 1 x.term x.filled one r table rows_of e),
    refl,
  )

  normal_put_none : (o : List ℕ) → r ≡ (Err NormalFault.NotReached) → SideNormalized p l s o (Err Refusal.NoNormalForm) o
  unfolding SideNormalized
  normal_put_none o e = (
    refused_first (normal_form_rows (Filled p l s) 1) (normal_output_rows (Filled p l s) 1 o) 15
        (rows_none (Filled p l s) 1 x.term x.filled one r table rows_of e),
    refl,
  )

  module _ (n : ℕ) (e : r ≡ Ok n) where
    pub normal_form : (u : Term) × FirstNormal most_sweeps 1 x.term u × Begins table n u
    normal_form = rows_form (Filled p l s) 1 x.term x.filled one r table rows_of n e

    form_passed : Passed (normal_form_rows (Filled p l s) 1)
    form_passed = rows_passed (Filled p l s) 1 x.term x.filled one r table rows_of n e

    form_one : (t u : Term) → Filled p l s t → FirstNormal most_sweeps 1 t u → u ≡ normal_form.0
    form_one t u f y =
        first_normal_one most_sweeps 1 x.term u normal_form.0 (subst (λ (v : Term). FirstNormal most_sweeps 1 v u) (one t f) y)
        normal_form.1

    module _ (o : List ℕ) (b : Bool) (after : List ℕ) (v : FormWritten (take (n * 4 - 0) (drop 0 table)) o b after) where
      pub normal_put_short : b ≡ false → SideNormalized p l s o (Err Refusal.Output) after
      unfolding SideNormalized
      normal_put_short h =
          let z = left_short (take (n * 4 - 0) (drop 0 table)) o b after v normal_form.0 normal_form.2.bytes h in (
            refused_later (normal_form_rows (Filled p l s) 1) (normal_output_rows (Filled p l s) 1 o) 13 form_passed
                (inl ((x.term, normal_form.0, x.filled, normal_form.1, z.0), refl)),
            z.1,
          )

      pub normal_put_done : b ≡ true → SideNormalized p l s o (Ok n) after
      unfolding SideNormalized
      normal_put_done h =
          let z = written_room (take (n * 4 - 0) (drop 0 table)) o b after v normal_form.0 normal_form.2.bytes h in (
            passed_both (normal_form_rows (Filled p l s) 1) (normal_output_rows (Filled p l s) 1 o) form_passed
                (λ c. omega (arith, z.0, ap size (form_one c.0 c.1 c.2 c.3), c.4), tt),
            record {
              term = x.term;
              filled = x.filled;
              form = normal_form.0;
              first = normal_form.1;
              records = normal_form.2.records;
              bytes = z.1;
            },
          )

pub normal_put_fault : (p l s : List ℕ) (x : FilledTables p l s) (f : NormalFault) (table : List ℕ) → NormalSide p l s (Err f) table
    → (o : List ℕ) → SideNormalized p l s o (Err (of_fault f)) o
normal_put_fault p l s x NormalFault.TooLong table w o = normal_put_long p l s x (Err NormalFault.TooLong) table w o refl
normal_put_fault p l s x NormalFault.NotReached table w o = normal_put_none p l s x (Err NormalFault.NotReached) table w o refl
