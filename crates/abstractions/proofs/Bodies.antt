-- Copies counted and a body written, part by part: at a copy one choice is used, and elsewhere the parts' counts and bytes follow one
-- another. By the term's kind, which its first record shows; parts are handed on as slices. Assumes nothing.
use mathlib.Core.Path.{◌≡◌, refl, sym, ap, ap₂, ◌∙◌, subst}
use mathlib.Core.Bool.{Bool, true, false}
use mathlib.Core.List.{List, []}
use Prim.Native.Nat.{ℕ, suc, ◌+◌, ◌*◌, ◌≤◌, ◌<◌}
use native.Mathlib.Omega.{arith}
use native.Mathlib.Numerals.{add-one}
use lib.ListN.{length, get_or}
use lib.Seq.{sets}
use borrow.Author.Tests.{lt-ltb, le-ltb}
use Rattle.std.specs.declared.option.Option.TheVariants.{Some, None}
use Rattle.terms.specs.Figures.{numbers, table_bytes}
use Rattle.terms.specs.Term.{Term, app, lam, loc, con, var, size, shift}
use Rattle.terms.specs.Table.{record_bytes, encode}
use Rattle.terms.proofs.Shift.{size_shift}
use Rattle.terms.proofs.Table.{encode_length}
use Rattle.terms.proofs.Substitute.{size_pos}
use Rattle.matching.specs.Bodies.{copies, choose, body}
use Rattle.matching.proofs.Bodies.{Leaf, copies_here, body_here, copies_app, body_app, copies_lam, body_lam, copies_leaf, body_leaf}
use Rattle.records.specs.Parts.{slice, Part, Whole, Ends}
use Rattle.records.proofs.Parts.{whole, kind_at}
use Rattle.records.proofs.Slices.{part_slice, whole_slice, slice_length, head_slice, body_slice}
use Rattle.substitution.specs.Writers.{NumbersFit, Wrote}
use Rattle.copying.proofs.Stores.{written_then}
use Rattle.shifting.specs.Tests.{PartsComparable, Shifted, PartsCompared}
use Rattle.shifting.proofs.Slices.{application_slices, abstraction_slices, slices_argument, slices_app, slices_lam, slices_leaf}
use Rattle.shifting.proofs.Tests.{compared_ends, compared_yes, compared_no}
use Rattle.abstractions.specs.Bodies.{chosen_in, Counting, CopiesCounted, BodySource, Chose, Body}

-- what is neither application nor abstraction has no parts
leaf_at : (l : List ℕ) (at : ℕ) (t : Term) → Part l at t → ¬ (get_or l at 0 ≡ 0) → ¬ (get_or l at 0 ≡ 1) → Leaf t
leaf_at l at (app f a) x n m = absurd (n (kind_at l at (app f a) x))
leaf_at l at (lam b) x n m = absurd (m (kind_at l at (lam b) x))
leaf_at l at (loc i) x n m = tt
leaf_at l at (con i) x n m = tt
leaf_at l at (var i) x n m = tt

size_choose : (b : Bool) (d : ℕ) (t : Term) → size (choose b d t) ≤ size t
size_choose true d t = size_pos t
size_choose false d t = omega (arith, size_shift 1 d t)

-- the term that s begins with, below d binders, is no copy of the one that e begins with
pub record NoCopy (s : List ℕ) (d : ℕ) (e : List ℕ) : Type 0 where
  pub differs : (t y : Term) → Part s 0 t → Part e 0 y → ¬ (t ≡ shift d 0 y)

module _ (s : List ℕ) (d : ℕ) (e : List ℕ) where
  pub no_copy : PartsCompared s e (Shifted d 0) None → NoCopy s d e
  no_copy x = record { differs = λ t y u v. compared_no s e (Shifted d 0) t y u v x }

  -- the count, part by part
  pub counts_copy : (h : ℕ) → PartsCompared s e (Shifted d 0) (Some h) → CopiesCounted s d e h 1
  counts_copy h x = let n = compared_ends s e (Shifted d 0) h x in record {
    ends = n;
    few = n.more;
    exact = λ t y u v. sym (copies_here y d t (compared_yes s e (Shifted d 0) t y u v h x));
  }

  pub counts_application : (h r n m : ℕ) → NoCopy s d e → get_or s 0 0 ≡ 0 → CopiesCounted (slice s 4) d e h n
      → CopiesCounted (slice s (4 + h)) d e r m → CopiesCounted s d e (4 + h + r) (n + m)
  counts_application h r n m far z x y = record {
    ends = slices_app s h r z x.ends y.ends;
    few = omega (arith, x.few, y.few);
    exact = λ t b u v.
        let a = application_slices s t u z in
        let p : copies b d t ≡ copies b d a.f + copies b d a.a =
        ap (copies b d) a.is ∙ copies_app b d a.f a.a (λ q. far.differs t b u v (a.is ∙ q)) in
        ap₂ ◌+◌ (x.exact a.f b a.head v) (y.exact a.a b (slices_argument s h t x.ends a) v) ∙ sym p;
  }

  pub counts_abstraction : (r n : ℕ) → NoCopy s d e → get_or s 0 0 ≡ 1 → CopiesCounted (slice s 4) (d + 1) e r n
      → CopiesCounted s d e (4 + r) n
  counts_abstraction r n far z x = record {
    ends = slices_lam s r z x.ends;
    few = omega (arith, x.few);
    exact = λ t b u v.
        let a = abstraction_slices s t u z in
        let p : copies b d t ≡ copies b (suc d) a.b =
        ap (copies b d) a.is ∙ copies_lam b d a.b (λ q. far.differs t b u v (a.is ∙ q)) in
        x.exact a.b b a.body v ∙ ap (λ (j : ℕ). copies b j a.b) (add-one d) ∙ sym p;
  }

  pub counts_leaf : NoCopy s d e → Whole s 0 → ¬ (get_or s 0 0 ≡ 0) → ¬ (get_or s 0 0 ≡ 1) → CopiesCounted s d e 4 0
  counts_leaf far x n m = record {
    ends = slices_leaf s n m x;
    few = omega arith;
    exact = λ t b u v. sym (copies_leaf b d t (leaf_at s 0 t u n m) (far.differs t b u v));
  }

  -- what counting the parts needs
  module _ (x : Counting s d e) where
    pub counting_head : get_or s 0 0 ≡ 0 → Counting (slice s 4) d e
    counting_head z = record {
      target = head_slice s x.target z;
      argument = x.argument;
      shallow = omega (arith, x.shallow, slice_length s 4);
    }

    pub counting_argument : (h n : ℕ) → get_or s 0 0 ≡ 0 → CopiesCounted (slice s 4) d e h n → Counting (slice s (4 + h)) d e
    counting_argument h n z y =
        let a = application_slices s x.target.tree x.target.part z in
        record {
          target = whole (slice s (4 + h)) 0 a.a (slices_argument s h x.target.tree y.ends a);
          argument = x.argument;
          shallow = omega (arith, x.shallow, slice_length s (4 + h));
        }

    pub counting_body : get_or s 0 0 ≡ 1 → Counting (slice s 4) (d + 1) e
    counting_body z = record {
      target = body_slice s x.target z;
      argument = x.argument;
      shallow = omega (arith, x.shallow, x.target.least, slice_length s 4);
    }

-- the bytes of a body, part by part
module _ (s : List ℕ) (d : ℕ) (e m : List ℕ) (k : ℕ) (out : List ℕ) (o : ℕ) where
  pub body_copy : (p : List ℕ) (h end : ℕ) → PartsCompared s e (Shifted d 0) (Some h) → Whole s 0 → Chose s d m k out o p end
      → Body s d e m k out o p h end (k + 1)
  body_copy p h end x a y =
      let n = compared_ends s e (Shifted d 0) h x in
      let c : (t b : Term) → Part s 0 t → Part e 0 b → t ≡ shift d 0 b = λ t b u v. compared_yes s e (Shifted d 0) t b u v h x in
      let f : (t b : Term) → Part s 0 t → Part e 0 b → body b d t (chosen_in m) k ≡ choose (chosen_in m k) d t =
      λ t b u v. body_here b d t (chosen_in m) k (c t b u v) in
      record {
        ends = n;
        short = omega (arith, n.exact a.tree a.part, y.exact a.tree a.part, size_choose (chosen_in m k) d a.tree);
        few = omega (arith, n.more);
        number = λ t b u v. ap (k +◌) (sym (copies_here b d t (c t b u v)));
        exact = λ t b u v. y.exact t u ∙ ap (λ (z : Term). o + 4 * size z) (sym (f t b u v));
        bytes = λ t b u v. y.bytes t u ∙ ap (λ (z : Term). sets out o (encode z)) (sym (f t b u v));
      }

  module _ (far : NoCopy s d e) where
    module _ (p q w : List ℕ) (h n i r end j : ℕ) (z : get_or s 0 0 ≡ 0) (first : p ≡ sets out o (record_bytes 0 0 []))
        (x : Body (slice s 4) d e m k p (o + 4) q h n i) (y : Body (slice s (4 + h)) d e m i q n w r end j) where
      body_parts : (t b : Term) → Part s 0 t → Part e 0 b → (j ≡ k + copies b d t) × (end ≡ o + 4 * size (body b d t (chosen_in m) k))
          × (w ≡ sets out o (encode (body b d t (chosen_in m) k)))
      body_parts t b u v =
          let a = application_slices s t u z in
          let c = slices_argument s h t x.ends a in
          let apart : ¬ (app a.f a.a ≡ shift d 0 b) = λ g. far.differs t b u v (a.is ∙ g) in
          let number : i ≡ k + copies b d a.f = x.number a.f b a.head v in
          let count : copies b d t ≡ copies b d a.f + copies b d a.a =
          ap (copies b d) a.is ∙ copies_app b d a.f a.a apart in
          let is : body b d t (chosen_in m) k ≡ app (body b d a.f (chosen_in m) k) (body b d a.a (chosen_in m) i) =
          ap (λ (g : Term). body b d g (chosen_in m) k) a.is ∙ body_app b d a.f a.a (chosen_in m) k apart
          ∙ ap (λ (g : ℕ). app (body b d a.f (chosen_in m) k) (body b d a.a (chosen_in m) g)) (sym number) in
          let f = x.exact a.f b a.head v in
          let g = y.exact a.a b c v in
          let last : n ≡ o + length (record_bytes 0 0 (encode (body b d a.f (chosen_in m) k))) =
          omega (arith, encode_length (body b d a.f (chosen_in m) k)) in
          let before = written_then (record_bytes 0 0 []) (encode (body b d a.f (chosen_in m) k)) out p q o (o + 4) first
          (x.bytes a.f b a.head v) refl in (
            omega (arith, y.number a.a b c v),
            rw is (omega arith),
            rw is (written_then (record_bytes 0 0 (encode (body b d a.f (chosen_in m) k))) (encode (body b d a.a (chosen_in m) i))
                out q w o n before (y.bytes a.a b c v) last),
          )

      pub body_application : (r' end' j' : ℕ) → r' ≡ 4 + h + r → end' ≡ end → j' ≡ j → Body s d e m k out o w r' end' j'
      body_application r' end' j' er ee ej = record {
        ends = subst (Ends s 0) (sym er) (slices_app s h r z x.ends y.ends);
        short = omega (arith, x.short, y.short);
        few = omega (arith, x.few, y.few);
        number = λ t b u v. ej ∙ (body_parts t b u v).0;
        exact = λ t b u v. ee ∙ (body_parts t b u v).1;
        bytes = λ t b u v. (body_parts t b u v).2;
      }

    module _ (p q : List ℕ) (r end j : ℕ) (z : get_or s 0 0 ≡ 1) (first : p ≡ sets out o (record_bytes 1 0 []))
        (x : Body (slice s 4) (d + 1) e m k p (o + 4) q r end j) where
      body_below : (t b : Term) → Part s 0 t → Part e 0 b → (j ≡ k + copies b d t) × (end ≡ o + 4 * size (body b d t (chosen_in m) k))
          × (q ≡ sets out o (encode (body b d t (chosen_in m) k)))
      body_below t b u v =
          let a = abstraction_slices s t u z in
          let apart : ¬ (lam a.b ≡ shift d 0 b) = λ g. far.differs t b u v (a.is ∙ g) in
          let count : copies b d t ≡ copies b (d + 1) a.b =
          ap (copies b d) a.is ∙ copies_lam b d a.b apart ∙ ap (λ (i : ℕ). copies b i a.b) (sym (add-one d)) in
          let is : body b d t (chosen_in m) k ≡ lam (body b (d + 1) a.b (chosen_in m) k) =
          ap (λ (g : Term). body b d g (chosen_in m) k) a.is ∙ body_lam b d a.b (chosen_in m) k apart
          ∙ ap (λ (i : ℕ). lam (body b i a.b (chosen_in m) k)) (sym (add-one d)) in
          let f = x.exact a.b b a.body v in (
            x.number a.b b a.body v ∙ ap (k +◌) (sym count),
            rw is (omega arith),
            rw is (written_then (record_bytes 1 0 []) (encode (body b (d + 1) a.b (chosen_in m) k)) out p q o (o + 4) first
                (x.bytes a.b b a.body v) refl),
          )

      pub body_abstraction : (r' end' j' : ℕ) → r' ≡ 4 + r → end' ≡ end → j' ≡ j → Body s d e m k out o q r' end' j'
      body_abstraction r' end' j' er ee ej = record {
        ends = subst (Ends s 0) (sym er) (slices_lam s r z x.ends);
        short = omega (arith, x.short);
        few = omega (arith, x.few);
        number = λ t b u v. ej ∙ (body_below t b u v).0;
        exact = λ t b u v. ee ∙ (body_below t b u v).1;
        bytes = λ t b u v. (body_below t b u v).2;
      }

    pub body_other : (p : List ℕ) (r end : ℕ) → Whole s 0 → ¬ (get_or s 0 0 ≡ 0) → ¬ (get_or s 0 0 ≡ 1)
        → Wrote (shift 1) s 0 d out o p r end → Body s d e m k out o p r end k
    body_other p r end a z i w = record {
      ends = w.ends;
      short = omega (arith, w.ends.exact a.tree a.part, w.exact a.tree a.part, size_shift 1 d a.tree);
      few = omega arith;
      number = λ t b u v. omega (arith, copies_leaf b d t (leaf_at s 0 t u z i) (far.differs t b u v));
      exact = λ t b u v. w.exact t u ∙ ap (λ (x : Term). o + 4 * size x) (is t b u v);
      bytes = λ t b u v. w.bytes t u ∙ ap (λ (x : Term). sets out o (encode x)) (is t b u v);
    }
      where
        is : (t b : Term) → Part s 0 t → Part e 0 b → shift 1 d t ≡ body b d t (chosen_in m) k
        is t b u v = sym (body_leaf b d t (chosen_in m) k (leaf_at s 0 t u z i) (far.differs t b u v))

-- what writing a body needs: the locals of a term with few binders above it have numbers that fit
choosing : (s : List ℕ) (d : ℕ) (e : List ℕ) (last k room o : ℕ) (t : Term) → Part s 0 t → Whole e 0 → length s ≤ table_bytes
    → NumbersFit (shift 1 d t) → d + size t ≤ numbers → o + 4 * size t ≤ room → k + size t ≤ last → BodySource s d e last k room o
choosing s d e last k room o t p a h f n r c = record {
  source = record {
    tree = t;
    part = p;
    fits = f;
    shallow = n;
    enough = omega (arith, size_shift 1 d t);
    least = omega (arith, p.some, p.within);
    first = omega (arith, p.some);
  };
  argument = a;
  most = h;
  choices = c;
}

-- what writing the parts' bodies needs
module _ (s : List ℕ) (d : ℕ) (e : List ℕ) (last k room o : ℕ) (x : BodySource s d e last k room o) where
  pub choosing_whole : Whole s 0
  choosing_whole = whole s 0 x.source.tree x.source.part

  module _ (rest : ℕ) (same_room : rest ≡ room) where
    pub choosing_head : get_or s 0 0 ≡ 0 → BodySource (slice s 4) d e last k rest (o + 4)
    choosing_head z =
        let b = x.source in
        let a = application_slices s b.tree b.part z in
        let n = ap size a.is in
        let f : NumbersFit (shift 1 d (app a.f a.a)) = subst (λ (t : Term). NumbersFit (shift 1 d t)) a.is b.fits in
        choosing (slice s 4) d e last k rest (o + 4) a.f a.head x.argument (omega (arith, x.most, slice_length s 4)) f.0
        (omega (arith, b.shallow)) (omega (arith, b.enough, size_shift 1 d b.tree)) (omega (arith, x.choices))

    pub choosing_argument : (m p q : List ℕ) (h n i : ℕ) → get_or s 0 0 ≡ 0 → Body (slice s 4) d e m k p (o + 4) q h n i
        → BodySource (slice s (4 + h)) d e last i rest n
    choosing_argument m p q h n i z y =
        let b = x.source in
        let a = application_slices s b.tree b.part z in
        let c = ap size a.is in
        let g = y.ends.exact a.f a.head in
        let f : NumbersFit (shift 1 d (app a.f a.a)) = subst (λ (t : Term). NumbersFit (shift 1 d t)) a.is b.fits in
        choosing (slice s (4 + h)) d e last i rest n a.a (slices_argument s h b.tree y.ends a) x.argument
        (omega (arith, x.most, slice_length s (4 + h))) f.1 (omega (arith, b.shallow))
        (omega (arith, b.enough, size_shift 1 d b.tree, y.short)) (omega (arith, x.choices, y.few))

    pub choosing_body : get_or s 0 0 ≡ 1 → BodySource (slice s 4) (d + 1) e last k rest (o + 4)
    choosing_body z =
        let b = x.source in
        let a = abstraction_slices s b.tree b.part z in
        let n = ap size a.is in
        let f : NumbersFit (shift 1 (suc d) a.b) = subst (λ (t : Term). NumbersFit (shift 1 d t)) a.is b.fits in
        choosing (slice s 4) (d + 1) e last k rest (o + 4) a.b a.body x.argument (omega (arith, x.most, slice_length s 4))
        (subst (λ (j : ℕ). NumbersFit (shift 1 j a.b)) (sym (add-one d)) f)
        (omega (arith, b.shallow)) (omega (arith, b.enough, size_shift 1 d b.tree)) (omega (arith, x.choices))

-- parts of tables, handed on as slices
module _ (l m : List ℕ) (at e : ℕ) (d : ℕ) where
  pub counting_at : Whole l at → Whole m e → d + length l ≤ at + table_bytes → Counting (slice l at) d (slice m e)
  counting_at x y h = record {
    target = whole_slice l at x;
    argument = whole_slice m e y;
    shallow = omega (arith, x.least, slice_length l at);
  }

  module _ (r n : ℕ) (x : CopiesCounted (slice l at) d (slice m e) r n) where
    pub counted_at : (t y : Term) → Part l at t → Part m e y → n ≡ copies y d t
    counted_at t y u v = x.exact t y (part_slice l at t u) (part_slice m e y v)

  pub choosing_at : (last k room o : ℕ) (t : Term) → Part l at t → Whole m e → length l ≤ at + table_bytes → NumbersFit (shift 1 d t)
      → d + size t ≤ numbers → o + 4 * size t ≤ room → k + size t ≤ last → BodySource (slice l at) d (slice m e) last k room o
  choosing_at last k room o t x y h =
      choosing (slice l at) d (slice m e) last k room o t (part_slice l at t x) (whole_slice m e y) (omega (arith, slice_length l at))

  module _ (c : List ℕ) (k : ℕ) (out : List ℕ) (o : ℕ) (after : List ℕ) (r end j : ℕ)
      (x : Body (slice l at) d (slice m e) c k out o after r end j) where
    pub body_number_at : (t y : Term) → Part l at t → Part m e y → j ≡ k + copies y d t
    body_number_at t y u v = x.number t y (part_slice l at t u) (part_slice m e y v)

    pub body_exact_at : (t y : Term) → Part l at t → Part m e y → end ≡ o + 4 * size (body y d t (chosen_in c) k)
    body_exact_at t y u v = x.exact t y (part_slice l at t u) (part_slice m e y v)

    pub body_bytes_at : (t y : Term) → Part l at t → Part m e y → after ≡ sets out o (encode (body y d t (chosen_in c) k))
    body_bytes_at t y u v = x.bytes t y (part_slice l at t u) (part_slice m e y v)
