-- The operations' answers, from what their steps say. Each step's rows are the next ones of the operation's. Assumes nothing.
use mathlib.Core.Path.{◌≡◌, refl, sym, subst}
use mathlib.Core.List.{List, ◌++◌, append_assoc}
use mathlib.Core.Logic.{inl}
use Prim.Native.Nat.{ℕ}
use Rattle.std.specs.declared.result.Result.{Result}
use Rattle.std.specs.declared.result.Result.TheVariants.{Ok, Err}
use Rattle.std.specs.Prelude.{Bool, true, false}
use Rattle.terms.specs.Refusal.{Row, Refused, Passed, swept_form_rows, output_rows, unmatched_rows, Matches}
use Rattle.terms.proofs.Refusal.{refused_first, refused_later, passed_both}
use Rattle.refusals.specs.declared.Refusal.{Refusal}
use Rattle.refusals.proofs.Judging.{passed, refused}
use Rattle.records.proofs.Tests.{says}
use Rattle.refusals.specs.Judged.{number, Judged}
use Rattle.sides.specs.Sides.{Matched}
use Rattle.rewriting.specs.Operations.{lent_for_check, lent_for_sweep, lent_for_rewrite, right_side_rows, Checked, Swept, Rewritten}
use Rattle.rewriting.specs.Steps.{SideSwept, SideNormalized}

module _ (p r l s w : List ℕ) (W : Type 0) where
  pub checked_lent : (c : Refusal) → Judged (lent_for_check p r l s w) W (Err c) → Checked p r l s w (Err c)
  unfolding Checked
  checked_lent c x = refused_first (lent_for_check p r l s w) (swept_form_rows p l s) (number c) (refused _ W c x)

  pub checked_matched : (m : Result Bool Refusal) → Judged (lent_for_check p r l s w) W (Ok tt) → Matched p l s r m → Checked p r l s w m
  unfolding Checked Matched
  checked_matched (Ok true) x y = (passed_both (lent_for_check p r l s w) (swept_form_rows p l s) (passed _ W x) y.0, y.1)
  checked_matched (Ok false) x y = (passed_both (lent_for_check p r l s w) (swept_form_rows p l s) (passed _ W x) y.0, y.1)
  checked_matched (Err c) x y = refused_later (lent_for_check p r l s w) (swept_form_rows p l s) (number c) (passed _ W x) y

module _ (p l s o w : List ℕ) (W : Type 0) where
  abbrev behind : List Row
  behind = swept_form_rows p l s ++ output_rows p l s o

  pub swept_lent : (c : Refusal) → Judged (lent_for_sweep p l s o w) W (Err c) → Swept p l s o w (Err c) o
  unfolding Swept
  swept_lent c x = (refused_first (lent_for_sweep p l s o w) behind (number c) (refused _ W c x), refl)

  pub swept_put : (a : Result ℕ Refusal) (after : List ℕ) → Judged (lent_for_sweep p l s o w) W (Ok tt) → SideSwept p l s o a after
      → Swept p l s o w a after
  unfolding Swept SideSwept
  swept_put (Ok n) after x z = (passed_both (lent_for_sweep p l s o w) behind (passed _ W x) z.0, z.1)
  swept_put (Err c) after x z = (refused_later (lent_for_sweep p l s o w) behind (number c) (passed _ W x) z.0, z.1)

module _ (p q r l s o w : List ℕ) (W : Type 0) where
  abbrev lent : List Row
  lent = lent_for_rewrite p q r l s o w

  -- the rows behind the left side's swept forms
  abbrev right : List Row
  right = right_side_rows q l s o

  pub rewritten_lent : (c : Refusal) → Judged (lent_for_rewrite p q r l s o w) W (Err c) → Rewritten p q r l s o w (Err c) o
  unfolding Rewritten
  rewritten_lent c x =
      (refused_first lent (swept_form_rows p l s ++ (unmatched_rows p l s r ++ right)) (number c) (refused _ W c x), refl)

  module _ (x : Judged (lent_for_rewrite p q r l s o w) W (Ok tt)) where
    pub rewritten_long : (c : Refusal) → Matched p l s r (Err c) → Rewritten p q r l s o w (Err c) o
    unfolding Rewritten Matched
    rewritten_long c y = (
      refused_later lent (swept_form_rows p l s ++ (unmatched_rows p l s r ++ right)) (number c) (passed _ W x)
          (refused_first (swept_form_rows p l s) (unmatched_rows p l s r ++ right) (number c) y),
      refl,
    )

    module _ (b : Bool) (y : Matched p l s r (Ok b)) where
      pub rewritten_no : b ≡ false → Rewritten p q r l s o w (Err Refusal.NoMatch) o
      unfolding Rewritten Matched
      rewritten_no z =
          let k = says (Matches p l s r) b false y.1 z in (
            refused_later lent (swept_form_rows p l s ++ (unmatched_rows p l s r ++ right)) 14 (passed _ W x)
                (refused_later (swept_form_rows p l s) (unmatched_rows p l s r ++ right) 14 y.0 (inl (k, refl))),
            refl,
          )

      -- the left side matches, and the right side is written or refused
      module _ (z : b ≡ true) where
        left_passed : Passed (lent ++ (swept_form_rows p l s ++ unmatched_rows p l s r))
        unfolding Matched
        left_passed =
            let k = says (Matches p l s r) b true y.1 z in
            passed_both lent (swept_form_rows p l s ++ unmatched_rows p l s r) (passed _ W x)
            (passed_both (swept_form_rows p l s) (unmatched_rows p l s r) y.0 (λ n. n k, tt))

        regroup :
            lent ++ (swept_form_rows p l s ++ (unmatched_rows p l s r ++ right))
            ≡ (lent ++ (swept_form_rows p l s ++ unmatched_rows p l s r)) ++ right
        regroup = simp append_assoc

        pub rewritten_put : (a : Result ℕ Refusal) (after : List ℕ) → SideNormalized q l s o a after → Rewritten p q r l s o w a after
        unfolding Rewritten SideNormalized
        rewritten_put (Ok n) after k = (
          subst Passed (sym regroup) (passed_both (lent ++ (swept_form_rows p l s ++ unmatched_rows p l s r)) right left_passed k.0),
          k.1,
        )
        rewritten_put (Err c) after k = (
          subst (λ (rows : List Row). Refused rows (number c)) (sym regroup)
              (refused_later (lent ++ (swept_form_rows p l s ++ unmatched_rows p l s r)) right (number c) left_passed k.0),
          k.1,
        )
