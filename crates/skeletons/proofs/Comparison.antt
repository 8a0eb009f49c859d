-- A term compared with a skeleton: what each kind of first record gives. By the skeleton's kind, which the term shares unless it is a hole;
-- at a hole for closed terms the term's height tells. Assumes nothing.
use mathlib.Core.Path.{◌≡◌, refl, sym, ap, ap₂, ◌∙◌, subst}
use mathlib.Core.Bool.{Bool, false}
use mathlib.Core.List.{List, []}
use Prim.Native.Nat.{ℕ, ◌+◌, ◌/◌, ◌≤◌}
use native.Mathlib.Omega.{arith}
use lib.Dec.{T}
use lib.ListN.{length, get_or}
use Rattle.std.specs.Prelude.{is_some}
use Rattle.std.specs.declared.option.Option.{Option}
use Rattle.std.specs.declared.option.Option.TheVariants.{Some, None}
use Rattle.terms.specs.Figures.{table_bytes}
use Rattle.terms.specs.Term.{Term, app, lam, loc, con, var, size}
use Rattle.terms.specs.Table.{record_bytes, encode}
use Rattle.terms.proofs.Table.{kind, number_of, encode_one}
use Rattle.terms.proofs.Substitute.{size_pos}
use Rattle.matching.specs.Skeletons.{Fills, Fits}
use Rattle.matching.proofs.Skeletons.{is_variable, fills_closed, filled_closed, fits_refl}
use Rattle.records.specs.Record.{number_at}
use Rattle.records.specs.Parts.{slice, Part, Whole, Ends}
use Rattle.records.proofs.Parts.{part_one, whole, kind_at, number_at_lem, leaf_size}
use Rattle.records.proofs.Slices.{part_slice, slice_length}
use Rattle.heights.specs.Heights.{height, HeightsAt}
use Rattle.heights.proofs.Heights.{closed_height, height_closed, heights_first, heights_within, heights_head, heights_argument}
use Rattle.heights.proofs.Heights.{heights_body, heights_slice}
use Rattle.instances.specs.declared.Places.{Places}
use Rattle.instances.proofs.Instances.{walk_behind}
use Rattle.shifting.proofs.Slices.{application_slices, abstraction_slices, slices_argument, slices_app, slices_lam, slices_leaf}
use Rattle.skeletons.specs.Skeleton.{SkeletonComparable, MayBe}
use Rattle.skeletons.specs.Compared.{SkeletonCompared}
use Rattle.skeletons.proofs.Tests.{hole_at, not_variable}

-- what fits has the first record of the skeleton, if that is no hole
fits_kind : (x y : Term) → is_variable x ≡ false → Fits x y → kind x ≡ kind y
fits_kind (app f a) (app g b) n h = refl
fits_kind (lam b) (lam c) n h = refl
fits_kind (loc i) (loc j) n h = refl
fits_kind (con i) (con j) n h = refl
fits_kind (var i) y n h = absurd (subst T n tt)
fits_kind (con i) (var _) n h = elim h [ ]
fits_kind (con i) (loc j) n h = elim h [ ]
fits_kind (con i) (lam c) n h = elim h [ ]
fits_kind (con i) (app g b) n h = elim h [ ]
fits_kind (loc i) (var _) n h = elim h [ ]
fits_kind (loc i) (con j) n h = elim h [ ]
fits_kind (loc i) (lam c) n h = elim h [ ]
fits_kind (loc i) (app g b) n h = elim h [ ]
fits_kind (lam b) (var _) n h = elim h [ ]
fits_kind (lam b) (con j) n h = elim h [ ]
fits_kind (lam b) (loc j) n h = elim h [ ]
fits_kind (lam b) (app g _) n h = elim h [ ]
fits_kind (app f a) (var _) n h = elim h [ ]
fits_kind (app f a) (con j) n h = elim h [ ]
fits_kind (app f a) (loc j) n h = elim h [ ]
fits_kind (app f a) (lam c) n h = elim h [ ]

fits_number : (x y : Term) → is_variable x ≡ false → Fits x y → number_of x ≡ number_of y
fits_number (app f a) (app g b) n h = refl
fits_number (lam b) (lam c) n h = refl
fits_number (loc i) (loc j) n h = h
fits_number (con i) (con j) n h = h
fits_number (var i) y n h = absurd (subst T n tt)
fits_number (con i) (var _) n h = elim h [ ]
fits_number (con i) (loc j) n h = elim h [ ]
fits_number (con i) (lam c) n h = elim h [ ]
fits_number (con i) (app g b) n h = elim h [ ]
fits_number (loc i) (var _) n h = elim h [ ]
fits_number (loc i) (con j) n h = elim h [ ]
fits_number (loc i) (lam c) n h = elim h [ ]
fits_number (loc i) (app g b) n h = elim h [ ]
fits_number (lam b) (var _) n h = elim h [ ]
fits_number (lam b) (con j) n h = elim h [ ]
fits_number (lam b) (loc j) n h = elim h [ ]
fits_number (lam b) (app g _) n h = elim h [ ]
fits_number (app f a) (var _) n h = elim h [ ]
fits_number (app f a) (con j) n h = elim h [ ]
fits_number (app f a) (loc j) n h = elim h [ ]
fits_number (app f a) (lam c) n h = elim h [ ]

same_fits : (x y u v : Term) → x ≡ u → y ≡ v → Fits x y → Fits u v
same_fits x y u v p q h = subst (λ (t : Term). Fits t v) p (subst (Fits x) q h)

-- a single record is known by its kind and its number
single : (t : Term) → size t ≡ 1 → encode t ≡ record_bytes (kind t) (number_of t) []
single (app f a) e = absurd (omega (arith, size_pos f, size_pos a))
single (lam b) e = absurd (omega (arith, size_pos b))
single (loc n) e = refl
single (con n) e = refl
single (var n) e = refl

single_same : (x y : Term) → size x ≡ 1 → size y ≡ 1 → kind x ≡ kind y → number_of x ≡ number_of y → x ≡ y
single_same x y n m k i = encode_one x y (single x n ∙ ap₂ (λ (a b : ℕ). record_bytes a b []) k i ∙ sym (single y m))

-- what a walk came to
record FitReached (c s : List ℕ) (p : Places) : Type 0 where
  skeleton_ends : Ends c 0 p.first
  term_ends : Ends s 0 p.second
  fits : (x y : Term) → Part c 0 x → Part s 0 y → Fits x y

module _ (c s : List ℕ) where
  reached : (p : Places) → SkeletonCompared c s (Some p) → FitReached c s p
  unfolding SkeletonCompared
  reached p m = record { skeleton_ends = m.0; term_ends = m.1; fits = m.2 }

-- a skeleton and a term, with the term's heights from index k on
comparable : (c s h : List ℕ) (k : ℕ) → Whole c 0 → (y : Term) → Part s 0 y → HeightsAt h k y → length c ≤ table_bytes
    → length s ≤ table_bytes → SkeletonComparable c s (slice h k)
comparable c s h k x y q i n m = record {
  skeleton = x;
  term = record { tree = y; part = q; least = omega (arith, q.some, q.within) };
  skeleton_most = n;
  term_most = m;
  heights = heights_slice h k y i;
}

module _ (c s : List ℕ) where
  -- the parts behind byte n of the one slice and byte m of the other, with the heights behind index k
  compares : (h : List ℕ) (n m k : ℕ) (x y : Term) → Part (slice c n) 0 x → Part (slice s m) 0 y → HeightsAt h k y
      → SkeletonComparable c s h → SkeletonComparable (slice c n) (slice s m) (slice h k)
  compares h n m k x y p q i z =
      comparable (slice c n) (slice s m) h k (whole (slice c n) 0 x p) y q i (omega (arith, z.skeleton_most, slice_length c n))
      (omega (arith, z.term_most, slice_length s m))

  -- the term has a height
  pub heights_some : (h : List ℕ) → SkeletonComparable c s h → 1 ≤ length h
  heights_some h z = omega (arith, heights_within h 0 z.term.tree z.heights, z.term.part.some)

  height_is : (h : List ℕ) → SkeletonComparable c s h → (y : Term) → Part s 0 y → get_or h 0 0 ≡ height y
  height_is h z y q =
      heights_first h 0 z.term.tree z.heights ∙ ap height (part_one s 0 z.term.tree y z.term.part q)

  -- a walk further on in two parts ends within a table
  pub skeleton_compared_near : (h : List ℕ) (n m : ℕ) (p : Places) → SkeletonComparable c s h
      → SkeletonCompared (slice c n) (slice s m) (Some p) → (n + p.first ≤ table_bytes) × (m + p.second ≤ table_bytes)
  unfolding SkeletonCompared
  skeleton_compared_near h n m p x q = (
    omega (arith, x.skeleton_most, q.0.more, q.0.within, slice_length c n),
    omega (arith, x.term_most, q.1.more, q.1.within, slice_length s m),
  )

  module _ (k : get_or c 0 0 ≡ 4) where
    filled : (x y : Term) → Part c 0 x → Fills (number_at c 0) y → Fits x y
    filled x y p f = same_fits (var (number_at c 0)) y x y (sym (hole_at c 0 x p k)) refl f

    module _ (h : List ℕ) (z : SkeletonComparable c s h) where
      passed : (r : ℕ) → Ends s 0 r → ((y : Term) → Part s 0 y → Fills (number_at c 0) y)
          → SkeletonCompared c s (Some (record { first = 4; second = r }))
      unfolding SkeletonCompared
      passed r e f = (slices_leaf c (λ q. omega arith) (λ q. omega arith) z.skeleton, e, λ x y p q. filled x y p (f y q))

      pub compared_any : (m r : ℕ) → m ≡ number_at c 0 → m ≡ 0 → Ends s 0 r
          → SkeletonCompared c s (Some (record { first = 4; second = r }))
      compared_any m r i o e = passed r e (λ y q. subst (λ (n : ℕ). Fills n y) (sym o ∙ i) tt)

      pub compared_closed : (r : ℕ) → get_or h 0 0 ≡ 0 → Ends s 0 r → SkeletonCompared c s (Some (record { first = 4; second = r }))
      compared_closed r o e =
          passed r e (λ y q. fills_closed (number_at c 0) y (height_closed 0 y (omega (arith, o, height_is h z y q))))

      pub compared_loose : (m : ℕ) → m ≡ number_at c 0 → ¬ (m ≡ 0) → ¬ (get_or h 0 0 ≡ 0) → SkeletonCompared c s None
      unfolding SkeletonCompared
      compared_loose m j o l x y p q f =
          let d = filled_closed (number_at c 0) y (λ n. o (j ∙ n)) (same_fits x y (var (number_at c 0)) y (hole_at c 0 x p k) refl f) in
          l (omega (arith, closed_height 0 y d, height_is h z y q))

  pub skeleton_compared_kinds : ¬ (get_or c 0 0 ≡ 4) → ¬ (get_or c 0 0 ≡ get_or s 0 0) → SkeletonCompared c s None
  unfolding SkeletonCompared
  skeleton_compared_kinds v n = λ x y p q h. n (kind_at c 0 x p ∙ fits_kind x y (not_variable c 0 x p v) h ∙ sym (kind_at s 0 y q))

  module _ (e : get_or c 0 0 ≡ get_or s 0 0) where
    module _ (w : get_or c 0 0 ≡ 0) where
      pub skeleton_compares_head : (h : List ℕ) → SkeletonComparable c s h → SkeletonComparable (slice c 4) (slice s 4) (slice h 1)
      skeleton_compares_head h x =
          let u = application_slices c x.skeleton.tree x.skeleton.part w in
          let v = application_slices s x.term.tree x.term.part (sym e ∙ w) in
          compares h 4 4 1 u.f v.f u.head v.head (heights_head h 0 x.term.tree x.heights v.f v.a v.is) x

      pub skeleton_compared_stop : SkeletonCompared (slice c 4) (slice s 4) None → SkeletonCompared c s None
      unfolding SkeletonCompared
      skeleton_compared_stop q = λ x y f g h.
          let u = application_slices c x f w in
          let v = application_slices s y g (sym e ∙ w) in
          let k : Fits (app u.f u.a) (app v.f v.a) = same_fits x y (app u.f u.a) (app v.f v.a) u.is v.is h in
          q u.f v.f u.head v.head k.0

      module _ (p : Places) (q : SkeletonCompared (slice c 4) (slice s 4) (Some p)) where
        come : FitReached (slice c 4) (slice s 4) p
        come = reached (slice c 4) (slice s 4) p q

        -- where the heads and the heights of the term's head end
        pub heads_passed : (h : List ℕ) → SkeletonComparable c s h
            → (4 + p.first ≤ length c) × (4 + p.second ≤ length s) × ((4 + p.second) / 4 ≤ length h)
        heads_passed h x =
            let v = application_slices s x.term.tree x.term.part (sym e ∙ w) in (
              omega (arith, come.skeleton_ends.within, slice_length c 4, x.skeleton.least),
              omega (arith, come.term_ends.within, slice_length s 4, x.term.least),
              omega (arith, come.term_ends.exact v.f v.head, heights_within h 0 x.term.tree x.heights, ap size v.is),
            )

        pub skeleton_compares_argument : (h : List ℕ) → SkeletonComparable c s h
            → SkeletonComparable (slice c (4 + p.first)) (slice s (4 + p.second)) (slice h ((4 + p.second) / 4))
        skeleton_compares_argument h x =
            let u = application_slices c x.skeleton.tree x.skeleton.part w in
            let v = application_slices s x.term.tree x.term.part (sym e ∙ w) in
            let k : 0 + 1 + size v.f ≡ (4 + p.second) / 4 = omega (arith, come.term_ends.exact v.f v.head) in
            compares h (4 + p.first) (4 + p.second) ((4 + p.second) / 4) u.a v.a
            (slices_argument c p.first x.skeleton.tree come.skeleton_ends u)
            (slices_argument s p.second x.term.tree come.term_ends v)
            (subst (λ (i : ℕ). HeightsAt h i v.a) k (heights_argument h 0 x.term.tree x.heights v.f v.a v.is)) x

        pub skeleton_compared_app : (o : Option Places) → SkeletonCompared (slice c (4 + p.first)) (slice s (4 + p.second)) o
            → SkeletonCompared c s (walk_behind (4 + p.first) (4 + p.second) o)
        unfolding SkeletonCompared
        skeleton_compared_app (Some j) m = (
          slices_app c p.first j.first w come.skeleton_ends m.0,
          slices_app s p.second j.second (sym e ∙ w) come.term_ends m.1,
          λ x y f g.
              let u = application_slices c x f w in
              let v = application_slices s y g (sym e ∙ w) in
              same_fits (app u.f u.a) (app v.f v.a) x y (sym u.is) (sym v.is) (
                come.fits u.f v.f u.head v.head,
                m.2 u.a v.a (slices_argument c p.first x come.skeleton_ends u)
                    (slices_argument s p.second y come.term_ends v),
              ),
        )
        skeleton_compared_app None m = λ x y f g h.
            let u = application_slices c x f w in
            let v = application_slices s y g (sym e ∙ w) in
            let k : Fits (app u.f u.a) (app v.f v.a) =
            same_fits x y (app u.f u.a) (app v.f v.a) u.is v.is h in
            m u.a v.a (slices_argument c p.first x come.skeleton_ends u)
            (slices_argument s p.second y come.term_ends v) k.1

    module _ (w : get_or c 0 0 ≡ 1) where
      pub skeleton_compares_body : (h : List ℕ) → SkeletonComparable c s h → SkeletonComparable (slice c 4) (slice s 4) (slice h 1)
      skeleton_compares_body h x =
          let u = abstraction_slices c x.skeleton.tree x.skeleton.part w in
          let v = abstraction_slices s x.term.tree x.term.part (sym e ∙ w) in
          compares h 4 4 1 u.b v.b u.body v.body (heights_body h 0 x.term.tree x.heights v.b v.is) x

      pub skeleton_compared_lam : (o : Option Places) → SkeletonCompared (slice c 4) (slice s 4) o
          → SkeletonCompared c s (walk_behind 4 4 o)
      unfolding SkeletonCompared
      skeleton_compared_lam (Some j) m = (
        slices_lam c j.first w m.0,
        slices_lam s j.second (sym e ∙ w) m.1,
        λ x y f g.
            let u = abstraction_slices c x f w in
            let v = abstraction_slices s y g (sym e ∙ w) in
            same_fits (lam u.b) (lam v.b) x y (sym u.is) (sym v.is) (m.2 u.b v.b u.body v.body),
      )
      skeleton_compared_lam None m = λ x y f g h.
          let u = abstraction_slices c x f w in
          let v = abstraction_slices s y g (sym e ∙ w) in
          m u.b v.b u.body v.body (same_fits x y (lam u.b) (lam v.b) u.is v.is h)

    module _ (n m : ℕ) (i : n ≡ number_at c 0) (j : m ≡ number_at s 0) where
      pub compared_same : ¬ (get_or c 0 0 ≡ 0) → ¬ (get_or c 0 0 ≡ 1) → (h : List ℕ) → SkeletonComparable c s h → n ≡ m
          → SkeletonCompared c s (Some (record { first = 4; second = 4 }))
      unfolding SkeletonCompared
      compared_same o l h z b = (
        slices_leaf c o l z.skeleton,
        slices_leaf s (λ q. o (e ∙ q)) (λ q. l (e ∙ q)) z.term,
        λ x y p q. subst (Fits x)
            (single_same x y (leaf_size c 0 x p o l) (leaf_size s 0 y q (λ k. o (e ∙ k)) (λ k. l (e ∙ k)))
            (sym (kind_at c 0 x p) ∙ e ∙ kind_at s 0 y q) (sym (number_at_lem c 0 x p) ∙ sym i ∙ b ∙ j ∙ number_at_lem s 0 y q))
            (fits_refl x),
      )

      pub skeleton_compared_other : ¬ (get_or c 0 0 ≡ 4) → ¬ (n ≡ m) → SkeletonCompared c s None
      unfolding SkeletonCompared
      skeleton_compared_other v h = λ x y p q g.
          h (i ∙ number_at_lem c 0 x p ∙ fits_number x y (not_variable c 0 x p v) g ∙ sym (number_at_lem s 0 y q) ∙ sym j)

  -- what a walk says of the whole skeleton
  pub may_be_says : (r : Option Places) → SkeletonCompared c s r → MayBe c s (is_some r)
  unfolding MayBe SkeletonCompared
  may_be_says (Some p) q = tt
  may_be_says None q = q

-- a part of a table, handed on as a slice, and its heights
module _ (c s : List ℕ) (t : ℕ) where
  pub skeleton_comparable_at : (h : List ℕ) (k : ℕ) → Whole c 0 → (y : Term) → Part s t y → HeightsAt h k y → length c ≤ table_bytes
      → length s ≤ t + table_bytes → SkeletonComparable c (slice s t) (slice h k)
  skeleton_comparable_at h k x y p i n m = comparable c (slice s t) h k x y (part_slice s t y p) i n (omega (arith, slice_length s t))

  pub may_be_at : (r : Bool) → r ≡ false → MayBe c (slice s t) r → (x y : Term) → Part c 0 x → Part s t y → ¬ Fits x y
  unfolding MayBe
  may_be_at r i q x y p k =
      let m : MayBe c (slice s t) false = subst (MayBe c (slice s t)) i q in
      m x y p (part_slice s t y k)
