-- Tests of a skeleton: holes, and whether the abstraction over it is sure to contract or not. By the term's kind, which its first record
-- shows. Assumes nothing.
use mathlib.Core.Path.{◌≡◌, refl, sym, ap, ◌∙◌, subst}
use mathlib.Core.Bool.{Bool, true, false, not, ◌&&◌, ◌||◌}
use mathlib.Core.Logic.{◌↔◌}
use mathlib.Core.List.{List}
use Prim.Native.Nat.{ℕ}
use lib.Dec.{T, eqb}
use lib.ListN.{get_or}
use borrow.Author.Tests.{eq-eqb, ne_eqb, not-true}
use Rattle.std.specs.Prelude.{is_some, is_none}
use Rattle.std.specs.declared.option.Option.{Option}
use Rattle.std.specs.declared.option.Option.TheVariants.{Some, None}
use Rattle.terms.specs.Term.{Term, app, lam, loc, con, var, is_innermost}
use Rattle.terms.specs.Table.{encode}
use Rattle.terms.proofs.Tests.{or_false}
use Rattle.matching.specs.Skeletons.{has_variable, is_any, is_unsure}
use Rattle.matching.proofs.Skeletons.{is_variable}
use Rattle.records.specs.Record.{number_at}
use Rattle.records.specs.Parts.{slice, Part, Whole, Tree}
use Rattle.records.specs.Tests.{Equals, Walked}
use Rattle.records.proofs.Parts.{kind_at, variable_at, at_start, application, tree_whole, whole_head}
use Rattle.records.proofs.Slices.{part_slice}
use Rattle.records.proofs.Tests.{not_false_true}
use Rattle.substitution.proofs.Writers.{local_at}
use Rattle.skeletons.specs.Contracted.{Exact}

-- a hole, and a record that is none
module _ (l : List ℕ) (at : ℕ) where
  pub hole_at : (t : Term) → Part l at t → get_or l at 0 ≡ 4 → t ≡ var (number_at l at)
  hole_at t x k = variable_at l at (number_at l at) t x k refl

  pub not_variable : (t : Term) → Part l at t → ¬ (get_or l at 0 ≡ 4) → is_variable t ≡ false
  not_variable (app f a) x n = refl
  not_variable (lam b) x n = refl
  not_variable (loc i) x n = refl
  not_variable (con i) x n = refl
  not_variable (var i) x n = absurd (n (kind_at l at (var i) x))

  pub hole_inexact : get_or l at 0 ≡ 4 → (t : Term) → Part l at t → ¬ Exact t
  hole_inexact k t x e = let q : true ≡ false = sym (ap has_variable (hole_at t x k)) ∙ e in subst T q tt

  pub leaf_exact : ¬ (get_or l at 0 ≡ 0) → ¬ (get_or l at 0 ≡ 1) → ¬ (get_or l at 0 ≡ 4) → (t : Term) → Part l at t → Exact t
  leaf_exact n m v (app f a) x = absurd (n (kind_at l at (app f a) x))
  leaf_exact n m v (lam b) x = absurd (m (kind_at l at (lam b) x))
  leaf_exact n m v (loc i) x = refl
  leaf_exact n m v (con i) x = refl
  leaf_exact n m v (var i) x = absurd (v (kind_at l at (var i) x))

-- holes go by the parts
pub exact_two : (f a : Term) → Exact (app f a) ↔ (Exact f × Exact a)
exact_two f a = (λ p. or_false (has_variable f) (has_variable a) p, λ p. rw (p.0, p.1))

pub exact_under : (b : Term) → Exact (lam b) ↔ Exact b
exact_under b = (λ p. p, λ p. p)

-- what `is_none` answers
pub none_is : (w : Option ℕ) (r : Bool) → is_some w ≡ not r → r ≡ is_none w
none_is (Some n) r e = not-true r (sym e)
none_is None true e = refl
none_is None false e = absurd (subst T (sym e) tt)

-- whether the abstraction is sure
module _ (b : List ℕ) where
  module _ (z : get_or b 0 0 ≡ 0) where
    pub tree_head_whole : Tree b → Whole b 4
    tree_head_whole x = whole_head b 0 (tree_whole b x) z

    -- g is the table of its argument
    module _ (g : List ℕ) (u : (f a : Term) → b ≡ encode (app f a) → g ≡ encode a) where
      argument : (t : Term) (e : b ≡ encode t) → let v = application b 0 t (at_start b t e) z in Part g 0 v.a
      argument t e = let v = application b 0 t (at_start b t e) z in at_start g v.a (u v.f v.a (e ∙ ap encode v.is))

      module _ (k : get_or g 0 0 ≡ 2) (m : ℕ) (i : m ≡ number_at g 0) where
        pub sure_exact : m ≡ 0 → (w : Option ℕ) → Walked (slice b 4) 0 Exact w → Equals b is_unsure (is_none w)
        unfolding Walked
        sure_exact h (Some j) x t e =
            let v = application b 0 t (at_start b t e) z in
            rw (v.is, local_at g 0 m v.a (argument t e) k i, eq-eqb m 0 h, x.1 v.f (part_slice b 4 v.f v.head))
        sure_exact h None x t e =
            let v = application b 0 t (at_start b t e) z in
            rw (v.is, local_at g 0 m v.a (argument t e) k i, eq-eqb m 0 h)
            (not_false_true (has_variable v.f) (x v.f (part_slice b 4 v.f v.head)))
