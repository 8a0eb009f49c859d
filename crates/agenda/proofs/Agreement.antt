-- Whether the head of a rigid argument is that of a part of the target, read from their records one after the other. Records of other kinds
-- and other constants tell them apart, and of two applications the heads do. Assumes nothing.
use mathlib.Core.Path.{◌≡◌, refl, sym, ◌∙◌, subst}
use mathlib.Core.Bool.{Bool, true, false}
use mathlib.Core.List.{List}
use Prim.Native.Nat.{ℕ}
use lib.Dec.{eqb}
use lib.ListN.{get_or}
use borrow.Author.Tests.{eqb-false}
use Rattle.terms.specs.Term.{Term, app}
use Rattle.terms.specs.Heads.{rigid}
use Rattle.matching.specs.Occurrences.{Unlike}
use Rattle.matching.proofs.Cuts.{unlike_kind, unlike_head, unlike_constant}
use Rattle.records.specs.Record.{number_at}
use Rattle.records.specs.Parts.{slice, Part, Whole}
use Rattle.records.proofs.Parts.{kind_at, number_at_lem}
use Rattle.records.proofs.Slices.{part_slice, head_slice}
use Rattle.shifting.proofs.Slices.{application_slices}
use Rattle.agenda.specs.Heads.{Agree}

module _ (P W : List ℕ) where
  pub agree : Agree P W true
  unfolding Agree
  agree = tt

  pub agree_other : ¬ (get_or P 0 0 ≡ get_or W 0 0) → Agree P W false
  unfolding Agree
  agree_other n q t x y r = unlike_kind q t r (λ e. n (kind_at P 0 q x ∙ e ∙ sym (kind_at W 0 t y)))

  pub target_head : Whole W 0 → get_or P 0 0 ≡ 0 → get_or P 0 0 ≡ get_or W 0 0 → Whole (slice W 4) 0
  target_head x z k = head_slice W x (sym k ∙ z)

  pub agree_application : (b : Bool) → get_or P 0 0 ≡ 0 → get_or P 0 0 ≡ get_or W 0 0 → Agree (slice P 4) (slice W 4) b → Agree P W b
  unfolding Agree
  agree_application true z k h = tt
  agree_application false z k h = λ q t x y r.
      let u = application_slices P q x z in
      let v = application_slices W t y (sym k ∙ z) in
      subst (λ (m : Term). rigid m ≡ true → Unlike m t) (sym u.is)
      (subst (λ (m : Term). rigid (app u.f u.a) ≡ true → Unlike (app u.f u.a) m) (sym v.is)
      (λ g. unlike_head u.f u.a v.f v.a g (h u.f v.f u.head v.head g))) r

  pub agree_constant : (m n : ℕ) → get_or P 0 0 ≡ 3 → m ≡ number_at P 0 → n ≡ number_at W 0 → Agree P W (eqb m n)
  unfolding Agree
  agree_constant m n k g h = go (eqb m n) refl
    where
      go : (b : Bool) → eqb m n ≡ b → Agree P W b
      go true e = tt
      go false e = λ q t x y r. unlike_constant q t (sym (kind_at P 0 q x) ∙ k) (λ o.
          eqb-false m n e (g ∙ number_at_lem P 0 q x ∙ o ∙ sym (number_at_lem W 0 t y) ∙ sym h))

-- parts of tables, handed on as slices
pub unlike_at : (P : List ℕ) (i : ℕ) (W : List ℕ) (j : ℕ) (b : Bool) → b ≡ false → Agree (slice P i) (slice W j) b
    → (q t : Term) → Part P i q → Part W j t → rigid q ≡ true → Unlike q t
unfolding Agree
unlike_at P i W j b e x q t y z =
    let n : Agree (slice P i) (slice W j) false = subst (Agree (slice P i) (slice W j)) e x in
    n q t (part_slice P i q y) (part_slice W j t z)
