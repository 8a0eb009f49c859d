-- A part compared with another that has a term put for a local: what each kind of first record gives. By the kind of the first part, which
-- the second shares unless the local stands there; what was put there is the argument shifted. Assumes nothing.
use mathlib.Core.Path.{◌≡◌, refl, sym, ap, ap₂, ◌∙◌}
use mathlib.Core.Bool.{Bool, true, false}
use mathlib.Core.List.{List}
use Prim.Native.Nat.{ℕ, suc, ◌+◌, ◌≤◌, ◌<◌}
use native.Mathlib.Omega.{arith}
use native.Mathlib.Numerals.{add-one}
use native.Mathlib.Decide.{dec_lt}
use lib.Dec.{eqb}
use lib.ListN.{length, get_or}
use borrow.Author.Tests.{eqb-true, eqb-false}
use Rattle.std.specs.Bool.{then_some}
use Rattle.std.specs.declared.option.Option.{Option}
use Rattle.std.specs.declared.option.Option.TheVariants.{Some, None}
use Rattle.terms.specs.Figures.{table_bytes}
use Rattle.terms.specs.Term.{Term, app, lam, loc, con, var, unshift, substitute}
use Rattle.terms.proofs.Table.{kind, number_of, app_inj, lam_inj}
use Rattle.terms.proofs.Substitute.{substitute_here, substitute_low, substitute_high}
use Rattle.records.specs.Record.{number_at}
use Rattle.records.specs.Parts.{slice, Part, Whole, Ends}
use Rattle.records.proofs.Parts.{whole, kind_at, number_at_lem}
use Rattle.records.proofs.Slices.{slice_length}
use Rattle.substitution.proofs.Writers.{Other, local_at}
use Rattle.instances.specs.declared.Places.{Places}
use Rattle.shifting.specs.Tests.{Shifted, PartsCompared}
use Rattle.instances.specs.Instances.{behind, Substitutes, Replaced, Substituted}
use Rattle.shifting.proofs.Slices.{application_slices, abstraction_slices, slices_argument, slices_app, slices_lam, slices_leaf}
use Rattle.shifting.proofs.Tests.{same_first, compared_ends, compared_yes, compared_no}
use Rattle.shifting.proofs.Lowering.{unshifted_low, unshifted_high}

-- substitution by kinds
kind_substitute : (k : ℕ) (y x : Term) → ¬ (kind x ≡ 2) → kind (substitute k y x) ≡ kind x
kind_substitute k y (app f a) n = refl
kind_substitute k y (lam b) n = refl
kind_substitute k y (loc i) n = absurd (n refl)
kind_substitute k y (con i) n = refl
kind_substitute k y (var i) n = refl

other_substitute : (k : ℕ) (y x : Term) → 2 < kind x → substitute k y x ≡ x
other_substitute k y (app f a) h = absurd (omega arith)
other_substitute k y (lam b) h = absurd (omega arith)
other_substitute k y (loc n) h = absurd (omega arith)
other_substitute k y (con n) h = refl
other_substitute k y (var n) h = refl

-- a local that is not k has the number that it has outside of one binder
local_substitute : (n k : ℕ) (y : Term) → ¬ (n ≡ k) → substitute k y (loc n) ≡ unshift 1 k (loc n)
local_substitute n k y h = go (dec_lt n k)
  where
    go : Dec (n < k) → substitute k y (loc n) ≡ unshift 1 k (loc n)
    go (yes l) = substitute_low n k y l ∙ unshifted_low n k 1 l
    go (no l) = substitute_high n k y (omega arith) ∙ unshifted_high n k 1 (omega arith)

-- a walk over two parts that began further on
abbrev pub walk_behind : ℕ → ℕ → Option Places → Option Places
walk_behind n m (Some p) = Some (behind n m p)
walk_behind n m None = None

-- what a walk came to
pub record WalkReached (b : List ℕ) (k : ℕ) (e t : List ℕ) (p : Places) : Type 0 where
  pub body_ends : Ends b 0 p.first
  pub target_ends : Ends t 0 p.second
  pub replaced : (x y z : Term) → Part b 0 x → Part e 0 y → Part t 0 z → Replaced k x y z

pub walk_reached : (b : List ℕ) (k : ℕ) (e t : List ℕ) (p : Places) → Substituted b k e t (Some p) → WalkReached b k e t p
unfolding Substituted
walk_reached b k e t p m = record { body_ends = m.0; target_ends = m.1; replaced = m.2 }

pub refused : (b : List ℕ) (k : ℕ) (e t : List ℕ) → Substituted b k e t None → (x y z : Term) → Part b 0 x → Part e 0 y → Part t 0 z
    → ¬ Replaced k x y z
unfolding Substituted
refused b k e t m = m

-- a walk further on in two parts ends within a table
pub substituted_near : (b : List ℕ) (k : ℕ) (e t : List ℕ) (n m j : ℕ) (p : Places) → Substitutes b k e t
    → Substituted (slice b n) j e (slice t m) (Some p) → (n + p.first ≤ table_bytes) × (m + p.second ≤ table_bytes)
unfolding Substituted
substituted_near b k e t n m j p x q = (
  omega (arith, x.shallow, q.0.more, q.0.within, slice_length b n),
  omega (arith, x.most, q.1.more, q.1.within, slice_length t m),
)

module _ (b : List ℕ) (k : ℕ) (e t : List ℕ) where
  pub substituted_kinds : ¬ (get_or b 0 0 ≡ 2) → ¬ (get_or b 0 0 ≡ get_or t 0 0) → Substituted b k e t None
  unfolding Substituted
  substituted_kinds m n = λ x y z p q s i.
      n (kind_at b 0 x p ∙ sym (kind_substitute k y x (λ j. m (kind_at b 0 x p ∙ j))) ∙ ap kind (sym i) ∙ sym (kind_at t 0 z s))

  -- what a local at the first part's place gives
  module _ (n : ℕ) (w : get_or b 0 0 ≡ 2) (i : n ≡ number_at b 0) where
    at_local : (x : Term) → Part b 0 x → x ≡ loc n
    at_local x p = local_at b 0 n x p w i

    ends_local : Whole b 0 → Ends b 0 4
    ends_local a = slices_leaf b (λ q. omega arith) (λ q. omega arith) a

    module _ (h : n ≡ k) where
      pub substituted_copy : (j : ℕ) → Whole b 0 → PartsCompared t e (Shifted k 0) (Some j)
          → Substituted b k e t (Some (record { first = 4; second = j }))
      unfolding Substituted
      substituted_copy j a q = (
        ends_local a,
        compared_ends t e (Shifted k 0) j q,
        λ x y z p s v. compared_yes t e (Shifted k 0) z y v s j q ∙ sym (ap (substitute k y) (at_local x p) ∙ substitute_here k y n h),
      )

      pub substituted_copy_no : PartsCompared t e (Shifted k 0) None → Substituted b k e t None
      unfolding Substituted
      substituted_copy_no q = λ x y z p s v g.
          compared_no t e (Shifted k 0) z y v s q (g ∙ ap (substitute k y) (at_local x p) ∙ substitute_here k y n h)

    module _ (h : ¬ (n ≡ k)) (m : ℕ) (f : loc m ≡ unshift 1 k (loc n)) where
      other_local : (x y : Term) → Part b 0 x → substitute k y x ≡ loc m
      other_local x y p = ap (substitute k y) (at_local x p) ∙ local_substitute n k y h ∙ sym f

      pub substituted_local_kind : ¬ (get_or t 0 0 ≡ 2) → Substituted b k e t None
      unfolding Substituted
      substituted_local_kind o = λ x y z p s v g. o (kind_at t 0 z v ∙ ap kind (g ∙ other_local x y p))

      substituted_local : (j : ℕ) → Whole b 0 → Whole t 0 → get_or t 0 0 ≡ 2 → j ≡ number_at t 0 → j ≡ m
          → Substituted b k e t (Some (record { first = 4; second = 4 }))
      unfolding Substituted
      substituted_local j a c o u q = (
        ends_local a,
        slices_leaf t (λ q. omega arith) (λ q. omega arith) c,
        λ x y z p s v. local_at t 0 j z v o u ∙ ap loc q ∙ sym (other_local x y p),
      )

      substituted_local_no : (j : ℕ) → get_or t 0 0 ≡ 2 → j ≡ number_at t 0 → ¬ (j ≡ m) → Substituted b k e t None
      unfolding Substituted
      substituted_local_no j o u q = λ x y z p s v g. q (ap number_of (sym (local_at t 0 j z v o u) ∙ g ∙ other_local x y p))

      pub substituted_local_says : (j : ℕ) → Whole b 0 → Whole t 0 → get_or t 0 0 ≡ 2 → j ≡ number_at t 0
          → Substituted b k e t (then_some (eqb j m) (record { first = 4; second = 4 }))
      substituted_local_says j a c o u = go (eqb j m) refl
        where
          go : (x : Bool) → eqb j m ≡ x → Substituted b k e t (then_some x (record { first = 4; second = 4 }))
          go true q = substituted_local j a c o u (eqb-true j m q)
          go false q = substituted_local_no j o u (eqb-false j m q)

  module _ (c : get_or b 0 0 ≡ get_or t 0 0) where
    module _ (w : get_or b 0 0 ≡ 0) where
      pub substitutes_head : Substitutes b k e t → Substitutes (slice b 4) k e (slice t 4)
      substitutes_head x =
          let u = application_slices b x.body.tree x.body.part w in
          let v = application_slices t x.target.tree x.target.part (sym c ∙ w) in
          record {
            body = whole (slice b 4) 0 u.f u.head;
            argument = x.argument;
            target = whole (slice t 4) 0 v.f v.head;
            most = omega (arith, x.most, slice_length t 4);
            shallow = omega (arith, x.shallow, slice_length b 4);
          }

      module _ (p : Places) (q : Substituted (slice b 4) k e (slice t 4) (Some p)) where
        come : WalkReached (slice b 4) k e (slice t 4) p
        come = walk_reached (slice b 4) k e (slice t 4) p q

        pub substitutes_argument : Substitutes b k e t → Substitutes (slice b (4 + p.first)) k e (slice t (4 + p.second))
        substitutes_argument x =
            let u = application_slices b x.body.tree x.body.part w in
            let v = application_slices t x.target.tree x.target.part (sym c ∙ w) in
            record {
              body = whole (slice b (4 + p.first)) 0 u.a (slices_argument b p.first x.body.tree come.body_ends u);
              argument = x.argument;
              target = whole (slice t (4 + p.second)) 0 v.a (slices_argument t p.second x.target.tree come.target_ends v);
              most = omega (arith, x.most, slice_length t (4 + p.second));
              shallow = omega (arith, x.shallow, slice_length b (4 + p.first));
            }

        -- where the heads end
        pub substituted_passed : Substitutes b k e t → (4 + p.first ≤ length b) × (4 + p.second ≤ length t)
        substituted_passed x =
            let y = substitutes_argument x in (
              omega (arith, y.body.least, slice_length b (4 + p.first)),
              omega (arith, y.target.least, slice_length t (4 + p.second)),
            )

        pub substituted_app : (o : Option Places) → Substituted (slice b (4 + p.first)) k e (slice t (4 + p.second)) o
            → Substituted b k e t (walk_behind (4 + p.first) (4 + p.second) o)
        unfolding Substituted
        substituted_app (Some j) m = (
          slices_app b p.first j.first w come.body_ends m.0,
          slices_app t p.second j.second (sym c ∙ w) come.target_ends m.1,
          λ x y z f s g.
              let u = application_slices b x f w in
              let v = application_slices t z g (sym c ∙ w) in
              v.is
              ∙ ap₂ app (come.replaced u.f y v.f u.head s v.head)
              (m.2 u.a y v.a (slices_argument b p.first x come.body_ends u) s
              (slices_argument t p.second z come.target_ends v))
              ∙ ap (substitute k y) (sym u.is),
        )
        substituted_app None m = λ x y z f s g h.
            let u = application_slices b x f w in
            let v = application_slices t z g (sym c ∙ w) in
            m u.a y v.a (slices_argument b p.first x come.body_ends u) s
            (slices_argument t p.second z come.target_ends v)
            (app_inj v.f v.a (substitute k y u.f) (substitute k y u.a)
            (sym v.is ∙ h ∙ ap (substitute k y) u.is)).1

      pub substituted_stop : Substituted (slice b 4) k e (slice t 4) None → Substituted b k e t None
      unfolding Substituted
      substituted_stop q = λ x y z f s g h.
          let u = application_slices b x f w in
          let v = application_slices t z g (sym c ∙ w) in
          refused (slice b 4) k e (slice t 4) q u.f y v.f u.head s v.head
          (app_inj v.f v.a (substitute k y u.f) (substitute k y u.a) (sym v.is ∙ h ∙ ap (substitute k y) u.is)).0

    module _ (w : get_or b 0 0 ≡ 1) where
      pub substitutes_body : Substitutes b k e t → Substitutes (slice b 4) (k + 1) e (slice t 4)
      substitutes_body x =
          let u = abstraction_slices b x.body.tree x.body.part w in
          let v = abstraction_slices t x.target.tree x.target.part (sym c ∙ w) in
          record {
            body = whole (slice b 4) 0 u.b u.body;
            argument = x.argument;
            target = whole (slice t 4) 0 v.b v.body;
            most = omega (arith, x.most, slice_length t 4);
            shallow = omega (arith, x.shallow, x.body.least, slice_length b 4);
          }

      pub substituted_lam : (o : Option Places) → Substituted (slice b 4) (k + 1) e (slice t 4) o → Substituted b k e t (walk_behind 4 4 o)
      unfolding Substituted
      substituted_lam (Some j) q = (
        slices_lam b j.first w q.0,
        slices_lam t j.second (sym c ∙ w) q.1,
        λ x y z f s g.
            let u = abstraction_slices b x f w in
            let v = abstraction_slices t z g (sym c ∙ w) in
            v.is ∙ ap lam (q.2 u.b y v.b u.body s v.body ∙ ap (λ (i : ℕ). substitute i y u.b) (add-one k))
            ∙ ap (substitute k y) (sym u.is),
      )
      substituted_lam None q = λ x y z f s g h.
          let u = abstraction_slices b x f w in
          let v = abstraction_slices t z g (sym c ∙ w) in
          q u.b y v.b u.body s v.body
          (lam_inj v.b (substitute (suc k) y u.b) (sym v.is ∙ h ∙ ap (substitute k y) u.is)
          ∙ ap (λ (i : ℕ). substitute i y u.b) (sym (add-one k)))

    module _ (n m : ℕ) (i : n ≡ number_at b 0) (j : m ≡ number_at t 0) (o : Other b 0) where
      above : (x : Term) → Part b 0 x → 2 < kind x
      above x p = omega (arith, kind_at b 0 x p, o.no_application, o.no_abstraction, o.no_local)

      substituted_other : Whole b 0 → Whole t 0 → n ≡ m → Substituted b k e t (Some (record { first = 4; second = 4 }))
      unfolding Substituted
      substituted_other a d h = (
        slices_leaf b o.no_application o.no_abstraction a,
        slices_leaf t (λ q. o.no_application (c ∙ q)) (λ q. o.no_abstraction (c ∙ q)) d,
        λ x y z p s v.
            let f : kind x ≡ kind z = sym (kind_at b 0 x p) ∙ c ∙ kind_at t 0 z v in
            let g : number_of x ≡ number_of z = sym (number_at_lem b 0 x p) ∙ sym i ∙ h ∙ j ∙ number_at_lem t 0 z v in
            sym (same_first x z (above x p) f g) ∙ sym (other_substitute k y x (above x p)),
      )

      substituted_other_no : ¬ (n ≡ m) → Substituted b k e t None
      unfolding Substituted
      substituted_other_no h = λ x y z p s v g.
          h (i ∙ number_at_lem b 0 x p ∙ ap number_of (sym (g ∙ other_substitute k y x (above x p))) ∙ sym (number_at_lem t 0 z v) ∙ sym j)

      pub substituted_other_says : Whole b 0 → Whole t 0
          → Substituted b k e t (then_some (eqb n m) (record { first = 4; second = 4 }))
      substituted_other_says a d = go (eqb n m) refl
        where
          go : (x : Bool) → eqb n m ≡ x → Substituted b k e t (then_some x (record { first = 4; second = 4 }))
          go true q = substituted_other a d (eqb-true n m q)
          go false q = substituted_other_no (eqb-false n m q)
