-- Nothing is left free: two answers that meet what check, sweep or rewrite promises on the same lent tables are equal, and so are two
-- contents of the output table. At most one row of refusal is given, none where all pass, a table is filled in one way only, and a
-- term has one first normal form.
-- Assumes nothing.
use mathlib.Core.Path.{◌≡◌, refl, sym, ap, ◌∙◌, subst}
use mathlib.Core.List.{List}
use Prim.Native.Nat.{ℕ}
use Rattle.std.specs.declared.result.Result.{Result}
use Rattle.std.specs.declared.result.Result.TheVariants.{Ok, Err}
use Rattle.refusals.specs.declared.Refusal.{Refusal}
use Rattle.std.specs.Prelude.{Bool, true, false}
use Rattle.terms.specs.Figures.{most_sweeps}
use Rattle.terms.specs.Term.{Term, size}
use Rattle.terms.specs.Table.{encode}
use Rattle.terms.specs.Sweep.{sweep}
use Rattle.terms.specs.Normalization.{FirstNormal}
use Rattle.terms.specs.Refusal.{Row}
use Rattle.terms.proofs.Refusal.{refused_passed, filled_one}
use Rattle.terms.proofs.Normalization.{first_normal_one}
use Rattle.refusals.specs.Judged.{number}
use Rattle.refusals.specs.Lent.{overwritten}
use Rattle.refusals.proofs.Numbers.{refusal_one}
use Rattle.rewriting.specs.Operations.{check_rows, sweep_rows, rewrite_rows, Written, WrittenNormal, Checked, Swept, Rewritten}

module _ (p r l s w : List ℕ) where
  abbrev checked_rows : List Row
  checked_rows = check_rows p r l s w

  pub checked_one : (a b : Result Bool Refusal) → Checked p r l s w a → Checked p r l s w b → a ≡ b
  unfolding Checked
  checked_one (Ok true) (Ok true) x y = refl
  checked_one (Ok true) (Ok false) x y = absurd (y.1 x.1)
  checked_one (Ok true) (Err d) x y = absurd (refused_passed checked_rows (number d) y x.0)
  checked_one (Ok false) (Ok true) x y = absurd (x.1 y.1)
  checked_one (Ok false) (Ok false) x y = refl
  checked_one (Ok false) (Err d) x y = absurd (refused_passed checked_rows (number d) y x.0)
  checked_one (Err c) (Ok true) x y = absurd (refused_passed checked_rows (number c) x y.0)
  checked_one (Err c) (Ok false) x y = absurd (refused_passed checked_rows (number c) x y.0)
  checked_one (Err c) (Err d) x y = ap Err (refusal_one checked_rows c d x y)

-- the records that are written, and the bytes
written_one : (p l s o : List ℕ) (j k : ℕ) (m n : List ℕ) → Written p l s o j m → Written p l s o k n → (j ≡ k) × (m ≡ n)
written_one p l s o j k m n x y =
    let e : x.term ≡ y.term = filled_one p l s x.term y.term x.filled y.filled in (
      x.records ∙ ap (λ (t : Term). size (sweep t)) e ∙ sym y.records,
      x.bytes ∙ ap (λ (t : Term). overwritten (encode (sweep t)) o) e ∙ sym y.bytes,
    )

module _ (p l s o w : List ℕ) where
  abbrev swept_rows : List Row
  swept_rows = sweep_rows p l s o w

  pub swept_one : (a b : Result ℕ Refusal) (m n : List ℕ) → Swept p l s o w a m → Swept p l s o w b n → (a ≡ b) × (m ≡ n)
  unfolding Swept
  swept_one (Ok j) (Ok k) m n x y =
      let e = written_one p l s o j k m n x.1 y.1 in (ap Ok e.0, e.1)
  swept_one (Ok j) (Err d) m n x y = absurd (refused_passed swept_rows (number d) y.0 x.0)
  swept_one (Err c) (Ok k) m n x y = absurd (refused_passed swept_rows (number c) x.0 y.0)
  swept_one (Err c) (Err d) m n x y =
      (ap Err (refusal_one swept_rows c d x.0 y.0), x.1 ∙ sym y.1)

normal_one : (p l s o : List ℕ) (j k : ℕ) (m n : List ℕ) → WrittenNormal p l s o j m → WrittenNormal p l s o k n → (j ≡ k) × (m ≡ n)
normal_one p l s o j k m n x y =
    let e : x.term ≡ y.term = filled_one p l s x.term y.term x.filled y.filled in
    let f : x.form ≡ y.form = first_normal_one most_sweeps 1 y.term x.form y.form
    (subst (λ (t : Term). FirstNormal most_sweeps 1 t x.form) e x.first) y.first in (
      x.records ∙ ap size f ∙ sym y.records,
      x.bytes ∙ ap (λ (t : Term). overwritten (encode t) o) f ∙ sym y.bytes,
    )

module _ (p q r l s o w : List ℕ) where
  abbrev rewritten_rows : List Row
  rewritten_rows = rewrite_rows p q r l s o w

  pub rewritten_one : (a b : Result ℕ Refusal) (m n : List ℕ) → Rewritten p q r l s o w a m → Rewritten p q r l s o w b n
      → (a ≡ b) × (m ≡ n)
  unfolding Rewritten
  rewritten_one (Ok j) (Ok k) m n x y =
      let e = normal_one q l s o j k m n x.1 y.1 in (ap Ok e.0, e.1)
  rewritten_one (Ok j) (Err d) m n x y =
      absurd (refused_passed rewritten_rows (number d) y.0 x.0)
  rewritten_one (Err c) (Ok k) m n x y =
      absurd (refused_passed rewritten_rows (number c) x.0 y.0)
  rewritten_one (Err c) (Err d) m n x y =
      (ap Err (refusal_one rewritten_rows c d x.0 y.0), x.1 ∙ sym y.1)
