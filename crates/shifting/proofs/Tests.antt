-- Two parts compared: what each kind of first record gives. By the kind of the terms, which the two first records show; where a term is the
-- other shifted, the two have the same size, so the second's argument stands as far on as the first's. Assumes nothing.
use mathlib.Core.Path.{◌≡◌, refl, sym, ap, ap₂, ◌∙◌, subst}
use mathlib.Core.Bool.{Bool, true, false, cond}
use mathlib.Core.List.{List}
use Prim.Native.Nat.{ℕ, suc, ◌+◌, ◌≤◌, ◌<◌}
use native.Mathlib.Omega.{arith}
use native.Mathlib.Numerals.{add-one}
use lib.Dec.{eqb, ltb}
use lib.ListN.{length, get_or}
use borrow.Author.Tests.{lt-ltb, le-ltb, eqb-true, eqb-false}
use Rattle.std.specs.Bool.{then_some}
use Rattle.std.specs.declared.option.Option.{Option}
use Rattle.std.specs.declared.option.Option.TheVariants.{Some, None}
use Rattle.terms.specs.Term.{Term, app, lam, loc, con, var, size, shift}
use Rattle.terms.specs.Heads.{rigid}
use Rattle.terms.proofs.Table.{kind, number_of, app_inj, lam_inj}
use Rattle.terms.proofs.Shift.{size_shift}
use Rattle.records.specs.Record.{number_at}
use Rattle.records.specs.Parts.{slice, Part, Whole, Ends}
use Rattle.records.specs.Tests.{Says}
use Rattle.records.proofs.Parts.{whole, kind_at, number_at_lem}
use Rattle.records.proofs.Slices.{further, part_slice, slice_length}
use Rattle.substitution.proofs.Writers.{Other, local_at}
use Rattle.shifting.specs.Tests.{PartsComparable, Shifted, PartsCompared}
use Rattle.shifting.proofs.Slices.{ApplicationSlices, application_slices, abstraction_slices, slices_argument}
use Rattle.shifting.proofs.Slices.{slices_app, slices_lam, slices_leaf}

-- a test of two numbers
kind_shift : (d c : ℕ) (t : Term) → kind (shift d c t) ≡ kind t
kind_shift d c (app f a) = refl
kind_shift d c (lam b) = refl
kind_shift d c (loc n) = go (ltb n c)
  where
    go : (b : Bool) → kind (cond b (loc n) (loc (n + d))) ≡ 2
    go true = refl
    go false = refl
kind_shift d c (con n) = refl
kind_shift d c (var n) = refl

-- a term with no parts that is no local stays
other_shift : (d c : ℕ) (t : Term) → 2 < kind t → shift d c t ≡ t
other_shift d c (app f a) h = absurd (omega arith)
other_shift d c (lam b) h = absurd (omega arith)
other_shift d c (loc n) h = absurd (omega arith)
other_shift d c (con n) h = refl
other_shift d c (var n) h = refl

-- such a term is known from its first record
abbrev leaf : ℕ → ℕ → Term
leaf k n = cond (eqb k 3) (con n) (var n)

is_leaf : (t : Term) → 2 < kind t → t ≡ leaf (kind t) (number_of t)
is_leaf (app f a) h = absurd (omega arith)
is_leaf (lam b) h = absurd (omega arith)
is_leaf (loc n) h = absurd (omega arith)
is_leaf (con n) h = refl
is_leaf (var n) h = refl

pub same_first : (x y : Term) → 2 < kind x → kind x ≡ kind y → number_of x ≡ number_of y → x ≡ y
same_first x y h k e = is_leaf x h ∙ ap₂ leaf k e ∙ sym (is_leaf y (subst (λ (i : ℕ). 2 < i) k h))

-- what an answer says of the terms that stand there
module _ (s e : List ℕ) (P : Term → Term → Type 0) where
  pub compared_ends : (h : ℕ) → PartsCompared s e P (Some h) → Ends s 0 h
  unfolding PartsCompared
  compared_ends h q = q.0

  module _ (x y : Term) (p : Part s 0 x) (t : Part e 0 y) where
    pub compared_yes : (h : ℕ) → PartsCompared s e P (Some h) → P x y
    unfolding PartsCompared
    compared_yes h q = q.1 x y p t

    pub compared_no : PartsCompared s e P None → ¬ P x y
    unfolding PartsCompared
    compared_no q = q x y p t

-- a walk further on ends within the part
pub compared_within : (s f : List ℕ) (n h : ℕ) (P : Term → Term → Type 0) → PartsCompared (slice s n) f P (Some h) → n + h ≤ length s
compared_within s f n h P q =
    let e = compared_ends (slice s n) f P h q in
    omega (arith, e.more, e.within, slice_length s n)

module _ (s e : List ℕ) (c d : ℕ) where
  -- first records of different kinds
  pub compared_kinds : ¬ (get_or s 0 0 ≡ get_or e 0 0) → PartsCompared s e (Shifted d c) None
  unfolding PartsCompared
  compared_kinds n = λ x y p q i. n (kind_at s 0 x p ∙ ap kind i ∙ kind_shift d c y ∙ sym (kind_at e 0 y q))

  module _ (k : get_or s 0 0 ≡ get_or e 0 0) where
    module _ (z : get_or s 0 0 ≡ 0) where
      w : get_or e 0 0 ≡ 0
      w = sym k ∙ z

      module _ (h : ℕ) (m : PartsCompared (slice s 4) (slice e 4) (Shifted d c) (Some h)) where
        -- where the first's head ends, the second's does as far on
        pub second_argument : (x y : Term) → (u : ApplicationSlices s x) → (v : ApplicationSlices e y) → Part (slice e (4 + h)) 0 v.a
        unfolding PartsCompared
        second_argument x y u v =
            let n : size u.f ≡ size v.f = ap size (m.1 u.f v.f u.head v.head) ∙ size_shift d c v.f in
            v.argument h (omega (arith, m.0.exact u.f u.head))

        pub compared_app : (v : Option ℕ) → PartsCompared (slice s (4 + h)) (slice e (4 + h)) (Shifted d c) v
            → PartsCompared s e (Shifted d c) (further (4 + h) v)
        unfolding PartsCompared
        compared_app (Some r) o = (
          slices_app s h r z m.0 o.0,
          λ x y p t.
              let u = application_slices s x p z in
              let v = application_slices e y t w in
              u.is
              ∙ ap₂ app (m.1 u.f v.f u.head v.head)
              (o.1 u.a v.a (slices_argument s h x m.0 u) (second_argument x y u v))
              ∙ ap (shift d c) (sym v.is),
        )
        compared_app None o = λ x y p t g.
            let u = application_slices s x p z in
            let v = application_slices e y t w in
            o u.a v.a (slices_argument s h x m.0 u) (second_argument x y u v)
            (app_inj u.f u.a (shift d c v.f) (shift d c v.a) (sym u.is ∙ g ∙ ap (shift d c) v.is)).1

        pub compares_argument : PartsComparable s e c d → PartsComparable (slice s (4 + h)) (slice e (4 + h)) c d
        compares_argument x =
            let u = application_slices s x.first.tree x.first.part z in
            let v = application_slices e x.second.tree x.second.part w in
            let n = compared_ends (slice s 4) (slice e 4) (Shifted d c) h m in
            record {
              first = whole (slice s (4 + h)) 0 u.a (slices_argument s h x.first.tree n u);
              second = whole (slice e (4 + h)) 0 v.a (second_argument x.first.tree x.second.tree u v);
              shallow = omega (arith, x.shallow, slice_length s (4 + h));
              few = x.few;
            }

        -- where the heads end
        pub compared_passed : PartsComparable s e c d → (4 + h ≤ length s) × (4 + h ≤ length e)
        compared_passed x =
            let y = compares_argument x in
            (omega (arith, y.first.least, slice_length s (4 + h)), omega (arith, y.second.least, slice_length e (4 + h)))

      pub compared_stop : PartsCompared (slice s 4) (slice e 4) (Shifted d c) None → PartsCompared s e (Shifted d c) None
      unfolding PartsCompared
      compared_stop m = λ x y p t g.
          let u = application_slices s x p z in
          let v = application_slices e y t w in
          m u.f v.f u.head v.head
          (app_inj u.f u.a (shift d c v.f) (shift d c v.a) (sym u.is ∙ g ∙ ap (shift d c) v.is)).0

      -- what the walk over the heads needs
      pub compares_head : PartsComparable s e c d → PartsComparable (slice s 4) (slice e 4) c d
      compares_head x =
          let u = application_slices s x.first.tree x.first.part z in
          let v = application_slices e x.second.tree x.second.part w in
          record {
            first = whole (slice s 4) 0 u.f u.head;
            second = whole (slice e 4) 0 v.f v.head;
            shallow = omega (arith, x.shallow, slice_length s 4);
            few = x.few;
          }

    module _ (z : get_or s 0 0 ≡ 1) where
      pub compares_body : PartsComparable s e c d → PartsComparable (slice s 4) (slice e 4) (c + 1) d
      compares_body x =
          let u = abstraction_slices s x.first.tree x.first.part z in
          let v = abstraction_slices e x.second.tree x.second.part (sym k ∙ z) in
          record {
            first = whole (slice s 4) 0 u.b u.body;
            second = whole (slice e 4) 0 v.b v.body;
            shallow = omega (arith, x.shallow, x.first.least, slice_length s 4);
            few = x.few;
          }

      pub compared_lam : (v : Option ℕ) → PartsCompared (slice s 4) (slice e 4) (Shifted d (c + 1)) v
          → PartsCompared s e (Shifted d c) (further 4 v)
      unfolding PartsCompared
      compared_lam (Some h) q = (
        slices_lam s h z q.0,
        λ x y p t.
            let u = abstraction_slices s x p z in
            let v = abstraction_slices e y t (sym k ∙ z) in
            u.is ∙ ap lam (q.1 u.b v.b u.body v.body ∙ ap (λ (j : ℕ). shift d j v.b) (add-one c))
            ∙ ap (shift d c) (sym v.is),
      )
      compared_lam None q = λ x y p t g.
          let u = abstraction_slices s x p z in
          let v = abstraction_slices e y t (sym k ∙ z) in
          q u.b v.b u.body v.body
          (lam_inj u.b (shift d (suc c) v.b) (sym u.is ∙ g ∙ ap (shift d c) v.is)
          ∙ ap (λ (j : ℕ). shift d j v.b) (sym (add-one c)))

    module _ (m n : ℕ) (i : m ≡ number_at s 0) (j : n ≡ number_at e 0) where
      compared_local : Whole s 0 → get_or s 0 0 ≡ 2 → loc m ≡ shift d c (loc n) → PartsCompared s e (Shifted d c) (Some 4)
      unfolding PartsCompared
      compared_local o z g = (
        slices_leaf s (λ q. omega arith) (λ q. omega arith) o,
        λ x y p t. local_at s 0 m x p z i ∙ g ∙ ap (shift d c) (sym (local_at e 0 n y t (sym k ∙ z) j)),
      )

      compared_local_no : get_or s 0 0 ≡ 2 → ¬ (loc m ≡ shift d c (loc n)) → PartsCompared s e (Shifted d c) None
      unfolding PartsCompared
      compared_local_no z g = λ x y p t f. g (sym (local_at s 0 m x p z i) ∙ f ∙ ap (shift d c) (local_at e 0 n y t (sym k ∙ z) j))

      pub compared_local_says : Whole s 0 → get_or s 0 0 ≡ 2 → (b : Bool) → Says b (loc m ≡ shift d c (loc n))
          → PartsCompared s e (Shifted d c) (then_some b 4)
      compared_local_says o z true g = compared_local o z g
      compared_local_says o z false g = compared_local_no z g

      module _ (o : Other s 0) where
        above : (x : Term) → Part s 0 x → 2 < kind x
        above x p = omega (arith, kind_at s 0 x p, o.no_application, o.no_abstraction, o.no_local)

        compared_other : Whole s 0 → m ≡ n → PartsCompared s e (Shifted d c) (Some 4)
        unfolding PartsCompared
        compared_other a g = (
          slices_leaf s o.no_application o.no_abstraction a,
          λ x y p t.
              let a : kind x ≡ kind y = sym (kind_at s 0 x p) ∙ k ∙ kind_at e 0 y t in
              let b : number_of x ≡ number_of y = sym (number_at_lem s 0 x p) ∙ sym i ∙ g ∙ j ∙ number_at_lem e 0 y t in
              same_first x y (above x p) a b ∙ sym (other_shift d c y (subst (λ (q : ℕ). 2 < q) a (above x p))),
        )

        compared_other_no : ¬ (m ≡ n) → PartsCompared s e (Shifted d c) None
        unfolding PartsCompared
        compared_other_no g = λ x y p t f.
            let a : kind x ≡ kind y = sym (kind_at s 0 x p) ∙ k ∙ kind_at e 0 y t in
            let b : x ≡ y = f ∙ other_shift d c y (subst (λ (q : ℕ). 2 < q) a (above x p)) in
            g (i ∙ number_at_lem s 0 x p ∙ ap number_of b ∙ sym (number_at_lem e 0 y t) ∙ sym j)

        pub compared_other_says : Whole s 0 → PartsCompared s e (Shifted d c) (then_some (eqb m n) 4)
        compared_other_says a = go (eqb m n) refl
          where
            go : (b : Bool) → eqb m n ≡ b → PartsCompared s e (Shifted d c) (then_some b 4)
            go true g = compared_other a (eqb-true m n g)
            go false g = compared_other_no (eqb-false m n g)

-- a rigid head, by the first record
module _ (s : List ℕ) where
  pub rigid_application_part : (r : Bool) → get_or s 0 0 ≡ 0 → ((t : Term) → Part (slice s 4) 0 t → r ≡ rigid t) → (t : Term)
      → Part s 0 t → r ≡ rigid t
  rigid_application_part r z f t p = let v = application_slices s t p z in f v.f v.head ∙ ap rigid (sym v.is)

  pub rigid_local : get_or s 0 0 ≡ 2 → (t : Term) → Part s 0 t → true ≡ rigid t
  rigid_local z t p = ap rigid (sym (local_at s 0 (number_at s 0) t p z refl))

  pub rigid_other : ¬ (get_or s 0 0 ≡ 0) → ¬ (get_or s 0 0 ≡ 2) → (t : Term) → Part s 0 t → eqb (get_or s 0 0) 3 ≡ rigid t
  rigid_other n m t p = ap (λ (k : ℕ). eqb k 3) (kind_at s 0 t p) ∙ go t (λ q. n (kind_at s 0 t p ∙ q)) (λ q. m (kind_at s 0 t p ∙ q))
    where
      go : (t : Term) → ¬ (kind t ≡ 0) → ¬ (kind t ≡ 2) → eqb (kind t) 3 ≡ rigid t
      go (app f a) n m = absurd (n refl)
      go (lam b) n m = refl
      go (loc i) n m = absurd (m refl)
      go (con i) n m = refl
      go (var i) n m = refl

-- a part of a table, handed on as a slice
pub rigid_at : (l : List ℕ) (at : ℕ) (r : Bool) → ((t : Term) → Part (slice l at) 0 t → r ≡ rigid t) → (t : Term) → Part l at t
    → r ≡ rigid t
rigid_at l at r f t p = f t (part_slice l at t p)
