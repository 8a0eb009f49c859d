-- The parts of a part: the j-th one stands 4 * j bytes on, and whether it is a copy of a term. By the term's kind, which its first record
-- shows; the parts of a head come before those of the argument. Assumes nothing.
use mathlib.Core.Path.{◌≡◌, refl, sym, ap, ap₂, ◌∙◌, subst}
use mathlib.Core.Bool.{Bool, true, false, not}
use lib.Dec.{T}
use mathlib.Core.List.{List}
use Prim.Native.Nat.{ℕ, zero, suc, ◌+◌, ◌-◌, ◌*◌, ◌≤◌, ◌<◌}
use native.Mathlib.Omega.{arith}
use native.Mathlib.Decide.{dec_lt}
use lib.ListN.{length, get_or}
use Rattle.std.specs.Prelude.{is_some}
use Rattle.std.specs.declared.option.Option.{Option}
use Rattle.std.specs.declared.option.Option.TheVariants.{Some, None}
use Rattle.terms.specs.Figures.{table_bytes}
use Rattle.terms.specs.Term.{Term, app, lam, loc, con, var, size}
use Rattle.matching.specs.Occurrences.{part_at, Copy}
use Rattle.matching.proofs.Occurrences.{part_at_head, part_at_argument, part_at_first}
use Rattle.records.specs.Parts.{slice, Part, Whole}
use Rattle.records.proofs.Parts.{whole, leaf_size, application_parts, abstraction_part}
use Rattle.records.proofs.Slices.{part_slice, whole_slice, slice_length, head_slice, body_slice}
use Rattle.shifting.specs.Tests.{PartsComparable, Shifted, PartsCompared}
use Rattle.shifting.proofs.Slices.{ApplicationSlices, application_slices, abstraction_slices}
use Rattle.shifting.proofs.Tests.{compared_yes, compared_no}
use Rattle.abstractions.specs.Occurrences.{Looks, CopyAt, NoneBefore, CopyBefore, Earlier}

-- the j-th part of a term is the term itself, or a part of its own parts
module _ (R : ℕ → ℕ × Term → Type 0) (d : ℕ) where
  pub index_app : (f a : Term) → R 0 (d, app f a) → ((i : ℕ) → i < size f → R (suc i) (part_at d f i))
      → ((i : ℕ) → i < size a → R (suc (size f + i)) (part_at d a i)) → (j : ℕ) → j < size (app f a) → R j (part_at d (app f a) j)
  index_app f a q x y zero h = q
  index_app f a q x y (suc j) h = go (dec_lt j (size f))
    where
      go : Dec (j < size f) → R (suc j) (part_at d (app f a) (suc j))
      go (yes m) = subst (R (suc j)) (sym (part_at_head d f a j m)) (x j m)
      go (no m) =
          let e : suc (size f + (j - size f)) ≡ suc j = omega arith in
          subst (λ (k : ℕ). R k (part_at d (app f a) k)) e
          (subst (R (suc (size f + (j - size f)))) (sym (part_at_argument d f a (j - size f))) (y (j - size f) (omega arith)))

  pub index_lam : (b : Term) → R 0 (d, lam b) → ((i : ℕ) → i < size b → R (suc i) (part_at (suc d) b i)) → (j : ℕ) → j < size (lam b)
      → R j (part_at d (lam b) j)
  index_lam b q x zero h = q
  index_lam b q x (suc j) h = x j (omega arith)

  pub index_first : (t : Term) → R 0 (d, t) → R 0 (part_at d t 0)
  index_first t q = subst (R 0) (sym (part_at_first d t)) q

  pub index_leaf : (t : Term) → R 0 (d, t) → (j : ℕ) → j < 1 → R j (part_at d t j)
  index_leaf t q zero h = index_first t q
  index_leaf t q (suc j) h = absurd (omega arith)

moved : (l : List ℕ) (i j : ℕ) (t : Term) → i ≡ j → Part l i t → Part l j t
moved l i j t e p = subst (λ (k : ℕ). Part l k t) e p

-- the j-th part stands 4 * j bytes on
pub part_at_lem : (l : List ℕ) (at d : ℕ) (t : Term) (j : ℕ) → Part l at t → j < size t → Part l (at + 4 * j) (part_at d t j).1
part_at_lem l at d (app f a) j p h =
    let s = application_parts l at f a p in
    index_app (λ i q. Part l (at + 4 * i) q.1) d f a (moved l at (at + 4 * 0) (app f a) (omega arith) p)
    (λ i m. moved l (at + 4 + 4 * i) (at + 4 * suc i) (part_at d f i).1 (omega arith) (part_at_lem l (at + 4) d f i s.0 m))
    (λ i m.
    moved l (at + 4 + 4 * size f + 4 * i) (at + 4 * suc (size f + i)) (part_at d a i).1 (omega arith)
    (part_at_lem l (at + 4 + 4 * size f) d a i s.1 m))
    j h
part_at_lem l at d (lam b) j p h =
    index_lam (λ i q. Part l (at + 4 * i) q.1) d b (moved l at (at + 4 * 0) (lam b) (omega arith) p)
    (λ i m. moved l (at + 4 + 4 * i) (at + 4 * suc i) (part_at (suc d) b i).1 (omega arith)
    (part_at_lem l (at + 4) (suc d) b i (abstraction_part l at b p) m))
    j h
part_at_lem l at d (loc n) j p h =
    index_leaf (λ i q. Part l (at + 4 * i) q.1) d (loc n) (moved l at (at + 4 * 0) (loc n) (omega arith) p) j h
part_at_lem l at d (con n) j p h =
    index_leaf (λ i q. Part l (at + 4 * i) q.1) d (con n) (moved l at (at + 4 * 0) (con n) (omega arith) p) j h
part_at_lem l at d (var n) j p h =
    index_leaf (λ i q. Part l (at + 4 * i) q.1) d (var n) (moved l at (at + 4 * 0) (var n) (omega arith) p) j h

-- a part behind the first of an application: one of the head's, or one of the argument's
head_index : (d : ℕ) (t f a : Term) (i k : ℕ) → t ≡ app f a → i ≡ suc k → k < size f → part_at d t i ≡ part_at d f k
head_index d t f a i k e n h = ap₂ (part_at d) e n ∙ part_at_head d f a k h

argument_index : (d : ℕ) (t f a : Term) (i k : ℕ) → t ≡ app f a → i ≡ suc (size f + k) → part_at d t i ≡ part_at d a k
argument_index d t f a i k e n = ap₂ (part_at d) e n ∙ part_at_argument d f a k

-- whether a part is a copy
module _ (s e : List ℕ) (d : ℕ) where
  pub copy_says : (w : Option ℕ) → PartsCompared s e (Shifted d 0) w → CopyAt s e d (is_some w)
  unfolding CopyAt
  copy_says (Some h) q = λ x y p t. compared_yes s e (Shifted d 0) x y p t h q
  copy_says None q = λ x y p t. compared_no s e (Shifted d 0) x y p t q

  pub copy_answer : (b r : Bool) → CopyAt s e d b → b ≡ r → CopyAt s e d r
  copy_answer b r x g = subst (CopyAt s e d) g x

-- looking for a copy among the first parts
none_before : (s : List ℕ) (goal : ℕ) (e : List ℕ) (d left : ℕ) (w : Option ℕ) → w ≡ Some left → CopyBefore s goal e d w
    → NoneBefore s goal e d left
unfolding CopyBefore
none_before s goal e d left w g q = let m : CopyBefore s goal e d (Some left) = subst (CopyBefore s goal e d) g q in m

-- what looking for a copy needs of the parts
module _ (s e : List ℕ) (d : ℕ) (x : Looks s e d) where
  pub looks_head : get_or s 0 0 ≡ 0 → Looks (slice s 4) e d
  looks_head z = record {
    first = head_slice s x.first z;
    second = x.second;
    shallow = omega (arith, x.shallow, slice_length s 4);
  }

  pub looks_body : get_or s 0 0 ≡ 1 → Looks (slice s 4) e (d + 1)
  looks_body z = record {
    first = body_slice s x.first z;
    second = x.second;
    shallow = omega (arith, x.shallow, x.first.least, slice_length s 4);
  }

-- where some parts are left behind a head, the others are the application's own and the head's: behind so many stands the argument
module _ (s : List ℕ) (goal : ℕ) (e : List ℕ) (d left : ℕ) (w : Option ℕ) (z : get_or s 0 0 ≡ 0) (g : w ≡ Some left) (m : ¬ (left ≡ 0))
    (q : CopyBefore (slice s 4) (goal - 1) e d w) where
  passed_head : (x : Term) → (v : ApplicationSlices s x) → goal - left ≡ 1 + size v.f
  passed_head x v = omega (arith, (none_before (slice s 4) (goal - 1) e d left w g q).behind v.f v.head)

  behind_head : (x : Term) → (v : ApplicationSlices s x) → Part (slice s (4 * (goal - left))) 0 v.a
  behind_head x v =
      let n = passed_head x v in
      let k : 4 + 4 * size v.f ≡ 4 * (goal - left) = omega arith in
      subst (λ (i : ℕ). Part (slice s i) 0 v.a) k (v.argument (4 * size v.f) refl)

  pub head_passed : Looks s e d
      → (left < goal) × (4 * (goal - left) ≤ length s) × (length (slice s (4 * (goal - left))) < length s) × (length s ≤ table_bytes)
  head_passed x =
      let v = application_slices s x.first.tree x.first.part z in
      let p = behind_head x.first.tree v in
      let n = passed_head x.first.tree v in
      let m = slice_length s (4 * (goal - left)) in
      (omega arith, omega (arith, p.some, p.within), omega (arith, x.first.least), omega (arith, x.shallow))

  pub looks_argument : Looks s e d → Looks (slice s (4 * (goal - left))) e d
  looks_argument x =
      let v = application_slices s x.first.tree x.first.part z in
      record {
        first = whole (slice s (4 * (goal - left))) 0 v.a (behind_head x.first.tree v);
        second = x.second;
        shallow = omega (arith, x.shallow, slice_length s (4 * (goal - left)));
      }

module _ (s : List ℕ) (goal : ℕ) (e : List ℕ) (d : ℕ) where
  pub before_none : goal ≡ 0 → CopyBefore s goal e d (Some 0)
  unfolding CopyBefore
  before_none h = record { behind = λ x p. omega arith; none = λ x y p q i n m. absurd (omega arith) }

  module _ (some : ¬ (goal ≡ 0)) where
    pub before_here : CopyAt s e d true → CopyBefore s goal e d None
    unfolding CopyBefore CopyAt
    before_here f = λ x y p q. (0, omega (arith, p.some), omega arith, index_first (λ i u. Copy u y) d x (f x y p q))

    module _ (f : CopyAt s e d false) where
      module _ (w : Option ℕ) (z : get_or s 0 0 ≡ 0) (q : CopyBefore (slice s 4) (goal - 1) e d w) where
        pub before_stop : w ≡ None → CopyBefore s goal e d None
        unfolding CopyBefore
        before_stop g = λ x y p t.
            let m : CopyBefore (slice s 4) (goal - 1) e d None = subst (CopyBefore (slice s 4) (goal - 1) e d) g q in
            let v = application_slices s x p z in
            let (i, h, n, c) = m v.f y v.head t in (
              suc i,
              omega (arith, ap size v.is),
              omega arith,
              subst (λ (u : ℕ × Term). Copy u y) (sym (head_index d x v.f v.a (suc i) i v.is refl h)) c,
            )

        -- the parts of the head and those of the argument
        none_app : (left : ℕ) → NoneBefore (slice s 4) (goal - 1) e d left
            → ((x y : Term) → Part s 0 x → Part e 0 y → (v : ApplicationSlices s x) → (i : ℕ) → i < size v.a
            → suc (size v.f + i) < goal → ¬ Copy (part_at d v.a i) y)
            → (x y : Term) → Part s 0 x → Part e 0 y → (i : ℕ) → i < size x → i < goal → ¬ Copy (part_at d x i) y
        unfolding CopyAt
        none_app left o k x y p t i n =
            let v = application_slices s x p z in
            let g = index_app (λ j u. j < goal → ¬ Copy u y) d v.f v.a
            (λ m c. f x y p t (v.is ∙ c))
            (λ j r m. o.none v.f y v.head t j r (omega arith))
            (k x y p t v) in
            subst (λ (u : Term). (j : ℕ) → j < size u → j < goal → ¬ Copy (part_at d u j) y) (sym v.is) g i n

        module _ (left : ℕ) (g : w ≡ Some left) where
          in_head : NoneBefore (slice s 4) (goal - 1) e d left
          in_head = none_before (slice s 4) (goal - 1) e d left w g q

          pub before_cut : left ≡ 0 → CopyBefore s goal e d (Some 0)
          unfolding CopyBefore
          before_cut h = record {
            behind = λ x p.
                let v = application_slices s x p z in
                omega (arith, ap size v.is, in_head.behind v.f v.head);
            none = none_app left in_head (λ x y p t v i r n. absurd (omega (arith, in_head.behind v.f v.head)));
          }

          pub before_argument : (r : Option ℕ) → ¬ (left ≡ 0) → CopyBefore (slice s (4 * (goal - left))) left e d r
              → CopyBefore s goal e d r
          unfolding CopyBefore
          before_argument (Some j) h o = record {
            behind = λ x p.
                let v = application_slices s x p z in
                let k = passed_head s goal e d left w z g h q x v in
                omega (arith, ap size v.is, o.behind v.a (behind_head s goal e d left w z g h q x v));
            none = none_app left in_head (λ x y p t v i r n.
                let k = passed_head s goal e d left w z g h q x v in
                o.none v.a y (behind_head s goal e d left w z g h q x v) t i r (omega arith));
          }
          before_argument None h o = λ x y p t.
              let v = application_slices s x p z in
              let k = passed_head s goal e d left w z g h q x v in
              let (i, r, n, c) = o v.a y (behind_head s goal e d left w z g h q x v) t in (
                suc (size v.f + i),
                omega (arith, ap size v.is),
                omega arith,
                subst (λ (u : ℕ × Term). Copy u y) (sym (argument_index d x v.f v.a (suc (size v.f + i)) i v.is refl)) c,
              )

      pub before_body : (r : Option ℕ) → get_or s 0 0 ≡ 1 → CopyBefore (slice s 4) (goal - 1) e (d + 1) r → CopyBefore s goal e d r
      unfolding CopyBefore CopyAt
      before_body (Some left) z o = record {
        behind = λ x p. let v = abstraction_slices s x p z in omega (arith, ap size v.is, o.behind v.b v.body);
        none = λ x y p t i n.
            let v = abstraction_slices s x p z in
            let k : d + 1 ≡ suc d = omega arith in
            let g = index_lam (λ j u. j < goal → ¬ Copy u y) d v.b
            (λ m c. f x y p t (v.is ∙ c))
            (λ j r m. subst (λ (n : ℕ). ¬ Copy (part_at n v.b j) y) k (o.none v.b y v.body t j r (omega arith))) in
            subst (λ (u : Term). (j : ℕ) → j < size u → j < goal → ¬ Copy (part_at d u j) y) (sym v.is) g i n;
      }
      before_body None z o = λ x y p t.
          let v = abstraction_slices s x p z in
          let k : d + 1 ≡ suc d = omega arith in
          let (i, r, n, c) = o v.b y v.body t in
          let q : Copy (part_at d (lam v.b) (suc i)) y = subst (λ (n : ℕ). Copy (part_at n v.b i) y) k c in
          (suc i, omega (arith, ap size v.is), omega arith, subst (λ (u : Term). Copy (part_at d u (suc i)) y) (sym v.is) q)

      pub before_leaf : ¬ (get_or s 0 0 ≡ 0) → ¬ (get_or s 0 0 ≡ 1) → CopyBefore s goal e d (Some (goal - 1))
      unfolding CopyBefore CopyAt
      before_leaf n m = record {
        behind = λ x p. omega (arith, leaf_size s 0 x p n m);
        none = λ x y p t i h r. index_leaf (λ j u. ¬ Copy u y) d x (f x y p t) i (omega (arith, leaf_size s 0 x p n m));
      }

-- what looking among the first j parts gives
module _ (s : List ℕ) (j : ℕ) (e : List ℕ) where
  pub earlier_says : (w : Option ℕ) (b : Bool) → is_some w ≡ not b → CopyBefore s j e 0 w → Earlier s j e b
  unfolding Earlier CopyBefore
  earlier_says (Some left) true g q = absurd (subst T g tt)
  earlier_says (Some left) false g q = λ x y p t i r n. q.none x y p t i n r
  earlier_says None true g q = λ x y p t. let (i, n, r, c) = q x y p t in (i, r, n, c)
  earlier_says None false g q = absurd (subst T (sym g) tt)

-- parts of tables, handed on as slices
module _ (l m : List ℕ) (at e : ℕ) where
  pub looks_at : (d : ℕ) → Whole l at → Whole m e → d + length l ≤ at + table_bytes → Looks (slice l at) (slice m e) d
  looks_at d x y h = record {
    first = whole_slice l at x;
    second = whole_slice m e y;
    shallow = omega (arith, x.least, slice_length l at);
  }

  module _ (j : ℕ) (r : Bool) (q : Earlier (slice l at) j (slice m e) r) (x y : Term) (p : Part l at x) (t : Part m e y) where
    pub earlier_yes_at : r ≡ true → (i : ℕ) × (i < j) × (i < size x) × Copy (part_at 0 x i) y
    unfolding Earlier
    earlier_yes_at g =
        let n : Earlier (slice l at) j (slice m e) true = subst (Earlier (slice l at) j (slice m e)) g q in
        n x y (part_slice l at x p) (part_slice m e y t)

    pub earlier_no_at : r ≡ false → (i : ℕ) → i < j → i < size x → ¬ Copy (part_at 0 x i) y
    unfolding Earlier
    earlier_no_at g =
        let n : Earlier (slice l at) j (slice m e) false = subst (Earlier (slice l at) j (slice m e)) g q in
        n x y (part_slice l at x p) (part_slice m e y t)
