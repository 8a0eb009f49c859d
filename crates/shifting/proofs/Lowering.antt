-- A part moved out of binders: what its parts need, which locals allow it, and what was written for a term when its parts were. By the
-- term's kind, which its first record shows; a local of a shifted term is none of the binders that were put in. Assumes nothing.
use mathlib.Core.Path.{◌≡◌, refl, sym, ap, ap₂, ◌∙◌, subst}
use mathlib.Core.Bool.{Bool, true, false}
use mathlib.Core.Logic.{◌↔◌}
use mathlib.Core.List.{List, []}
use Prim.Native.Nat.{ℕ, suc, ◌+◌, ◌-◌, ◌*◌, ◌≤◌, ◌<◌}
use native.Mathlib.Omega.{arith}
use native.Mathlib.Decide.{dec_lt}
use lib.Dec.{T, ltb}
use lib.ListN.{length, get_or, take, length-take}
use lib.Seq.{sets, take-take}
use borrow.Author.Tests.{lt-ltb, le-ltb, eq-eqb, ltb-true, ltb-false}
use Rattle.std.specs.declared.option.Option.{Option}
use Rattle.std.specs.declared.option.Option.TheVariants.{Some, None}
use Rattle.terms.specs.Figures.{numbers}
use Rattle.terms.specs.Term.{Term, app, lam, loc, size, shift, unshift, uses}
use Rattle.terms.specs.Table.{record_bytes, encode}
use Rattle.terms.proofs.Shift.{uses_below}
use Rattle.terms.proofs.Table.{app_inj, lam_inj}
use Rattle.records.specs.Record.{number_at}
use Rattle.records.specs.Parts.{slice, Part, Whole, Ends}
use Rattle.records.specs.Tests.{Says, Walked}
use Rattle.records.proofs.Parts.{whole, application, part_bytes, leaf_size}
use Rattle.records.proofs.Slices.{further, part_slice, slice_length, slice_walked}
use Rattle.records.proofs.Tests.{walked_ends, walked_app, walked_stop, walked_lam, walked_leaf, walked_no, part_local, part_other}
use Rattle.copying.proofs.Stores.{take_sets}
use Rattle.substitution.specs.Writers.{Wrote}
use Rattle.substitution.proofs.Writers.{Change, Other, wrote_application, wrote_abstraction, wrote_local, slice_wrote}
use Rattle.shifting.specs.Lowering.{Movable, Inside, Lowers, Leaves, Lowered}
use Rattle.shifting.proofs.Slices.{application_slices, abstraction_slices, slices_argument, slices_app, slices_lam, slices_leaf}

pub movable_two : (d c : ℕ) (f a : Term) → Movable d c (app f a) ↔ (Movable d c f × Movable d c a)
movable_two d c f a = (λ p. app_inj f a (shift d c (unshift d c f)) (shift d c (unshift d c a)) p, λ p. ap₂ app p.0 p.1)

pub movable_under : (d c : ℕ) (b : Term) → Movable d c (lam b) ↔ Movable d (c + 1) b
movable_under d c b =
    let e : suc c ≡ c + 1 = omega arith in (
      λ p. subst (λ (k : ℕ). Movable d k b) e (lam_inj b (shift d (suc c) (unshift d (suc c) b)) p),
      λ p. ap lam (subst (λ (k : ℕ). Movable d k b) (sym e) p),
    )

pub unshifted_low : (n c d : ℕ) → n < c → loc n ≡ unshift d c (loc n)
unshifted_low n c d h = rw (lt-ltb n c h)

pub unshifted_high : (n c d : ℕ) → c ≤ n → loc (n - d) ≡ unshift d c (loc n)
unshifted_high n c d h = rw (le-ltb n c h)

pub outside : (n c d : ℕ) → ¬ Inside c d n → c ≤ n → c + d ≤ n
outside n c d i h = go (dec_lt n (c + d))
  where
    go : Dec (n < c + d) → c + d ≤ n
    go (yes l) = absurd (i (h, l))
    go (no l) = omega arith

pub movable_local : (n c d : ℕ) → ¬ Inside c d n → Movable d c (loc n)
movable_local n c d i = go (dec_lt n c)
  where
    go : Dec (n < c) → Movable d c (loc n)
    go (yes l) = rw (lt-ltb n c l) (rw (lt-ltb n c l) refl)
    go (no l) =
        let h : c + d ≤ n = outside n c d i (omega arith) in
        rw (le-ltb n c (omega arith)) (rw (le-ltb (n - d) c (omega arith)) (ap loc (omega arith)))

pub movable_local_no : (n c d : ℕ) → Inside c d n → ¬ Movable d c (loc n)
movable_local_no n c d i e =
    let p : true ≡ false = sym (eq-eqb n n refl) ∙ ap (uses n) e ∙ uses_below n d c (unshift d c (loc n)) i.0 i.1 in
    subst T p tt

unshifts : (d : ℕ) → Change (unshift d)
unshifts d = record { application = λ k f a. refl; abstraction = λ k b. refl; constant = λ k n. refl; variable = λ k n. refl }

take_less : (p q : List ℕ) (n m : ℕ) → n ≤ m → take m p ≡ take m q → take n p ≡ take n q
take_less p q n m h e = sym (take-take n m p h) ∙ ap (take n) e ∙ take-take n m q h

-- the byte behind what was written, under another name
wrote_end : (l : List ℕ) (at c d : ℕ) (out : List ℕ) (o : ℕ) (p : List ℕ) (h m n : ℕ) → m ≡ n → Wrote (unshift d) l at c out o p h m
    → Wrote (unshift d) l at c out o p h n
wrote_end l at c d out o p h m n e w = subst (Wrote (unshift d) l at c out o p h) e w

module _ (l : List ℕ) (c d o : ℕ) where
  pub lowers_whole : (room : ℕ) → Lowers l c d room o → Whole l 0
  lowers_whole room x = whole l 0 x.tree x.part

  -- the parts of what is moved out, and the room, as the length of what a writer left
  module _ (room rest : ℕ) (s : rest ≡ room) (x : Lowers l c d room o) where
    pub lowers_head : get_or l 0 0 ≡ 0 → Lowers (slice l 4) c d rest (o + 4)
    lowers_head z =
        let v = application_slices l x.tree x.part z in
        record {
          tree = v.f;
          part = v.head;
          enough = omega (arith, ap size v.is, x.enough);
          shallow = omega (arith, ap size v.is, x.shallow);
          few = x.few;
          least = omega (arith, v.head.some, v.head.within);
          first = omega (arith, ap size v.is, x.enough, v.head.some);
        }

    pub lowers_argument : (h : ℕ) → get_or l 0 0 ≡ 0 → Ends (slice l 4) 0 h → Lowers (slice l (4 + h)) c d rest (o + (4 + h))
    lowers_argument h z e =
        let v = application_slices l x.tree x.part z in
        let p = slices_argument l h x.tree e v in
        let m = e.exact v.f v.head in
        record {
          tree = v.a;
          part = p;
          enough = omega (arith, ap size v.is, x.enough);
          shallow = omega (arith, ap size v.is, x.shallow);
          few = x.few;
          least = omega (arith, p.some, p.within);
          first = omega (arith, ap size v.is, x.enough, p.some);
        }

    pub lowers_body : get_or l 0 0 ≡ 1 → Lowers (slice l 4) (c + 1) d rest (o + 4)
    lowers_body z =
        let v = abstraction_slices l x.tree x.part z in
        record {
          tree = v.b;
          part = v.body;
          enough = omega (arith, ap size v.is, x.enough);
          shallow = omega (arith, ap size v.is, x.shallow);
          few = x.few;
          least = omega (arith, v.body.some, v.body.within);
          first = omega (arith, ap size v.is, x.enough, v.body.some);
        }

  -- where the head ends, in what is read and in what is written
  pub lowered_passed : (p q : List ℕ) (room h : ℕ) → Lowers l c d room o → get_or l 0 0 ≡ 0
      → Lowered (slice l 4) c d p (o + 4) q (Some h) → (4 + h ≤ length l) × (o + (4 + h) ≤ room)
  lowered_passed p q room h x z y =
      let n = walked_ends (slice l 4) 0 (Movable d c) h y.walked in
      let w = lowers_argument room room refl x h z n in
      (omega (arith, w.least, slice_length l (4 + h)), omega (arith, w.first))

  -- what was written
  module _ (out : List ℕ) where
    pub lowered_ends : (after : List ℕ) (h : ℕ) → Lowered l c d out o after (Some h) → Ends l 0 h
    lowered_ends after h x = walked_ends l 0 (Movable d c) h x.walked

    -- by cases of the walk, with what was written
    leaves_upto : (after : List ℕ) (h m : ℕ) → m ≡ o + h → Wrote (unshift d) l 0 c out o after h m → Leaves l c d out o after (Some h)
    unfolding Leaves
    leaves_upto after h m e w = wrote_end l 0 c d out o after h m (o + h) e w

    leaves_no : (after : List ℕ) → take o after ≡ take o out → Leaves l c d out o after None
    unfolding Leaves
    leaves_no after e = e

    module _ (p q : List ℕ) (z : get_or l 0 0 ≡ 0) (e : p ≡ sets out o (record_bytes 0 0 [])) where
      -- the head's bytes end where the argument's begin
      head_wrote : (h : ℕ) → Leaves (slice l 4) c d p (o + 4) q (Some h) → Wrote (unshift d) l 4 c p (o + 4) q (4 + h) (o + (4 + h))
      unfolding Leaves
      head_wrote h w =
          wrote_end l 4 c d p (o + 4) q (4 + h) (o + 4 + h) (o + (4 + h)) (omega arith)
          (slice_wrote (unshift d) l 4 c p (o + 4) q h (o + 4 + h) w)

      -- nothing before byte o is written
      before : (h m : ℕ) → Wrote (unshift d) l 4 c p (o + 4) q h m → Whole l 0 → take o q ≡ take o out
      before h m w x =
          let v = application l 0 x.tree x.part z in
          ap (take o) (w.bytes v.f v.head) ∙ take_sets (encode (unshift d c v.f)) p o (o + 4) (omega arith) ∙ ap (take o) e
          ∙ take_sets (record_bytes 0 0 []) out o o (omega arith)

      module _ (h : ℕ) (x : Lowered (slice l 4) c d p (o + 4) q (Some h)) where
        -- the argument ends where the whole does
        pub lowered_near : (after : List ℕ) (room j : ℕ) → Lowers l c d room o
            → Lowered (slice l (4 + h)) c d q (o + (4 + h)) after (Some j) → 4 + h + j ≤ 4 * numbers
        lowered_near after room j w y =
            let m = walked_ends (slice l 4) 0 (Movable d c) h x.walked in
            let n = walked_ends (slice l (4 + h)) 0 (Movable d c) j y.walked in
            omega (arith, (slices_app l h j z m n).exact w.tree w.part, w.shallow)

        pub lowered_application : (after : List ℕ) (s : Option ℕ) → Whole l 0 → Lowered (slice l (4 + h)) c d q (o + (4 + h)) after s
            → Lowered l c d out o after (further (4 + h) s)
        unfolding Leaves
        lowered_application after s b y = record { walked = walked; leaves = go s y.leaves }
          where
            walked : Walked l 0 (Movable d c) (further (4 + h) s)
            walked =
                walked_app l 0 (Movable d c) (Movable d c) (Movable d c) (4 + h) (further (4 + h) s) z (movable_two d c)
                (slice_walked l 4 (Movable d c) (Some h) x.walked)
                (slice_walked l (4 + h) (Movable d c) s y.walked)

            head : Wrote (unshift d) l 4 c p (o + 4) q (4 + h) (o + (4 + h))
            head = head_wrote h x.leaves

            go : (s : Option ℕ) → Leaves (slice l (4 + h)) c d q (o + (4 + h)) after s → Leaves l c d out o after (further (4 + h) s)
            go (Some j) y =
                leaves_upto after (4 + h + j) (o + (4 + h) + j) (omega arith)
                (wrote_application (unshift d) (unshifts d) l 0 c out o p q after (4 + h) (o + (4 + h)) (4 + h + j) (o + (4 + h) + j) z e
                head
                (slice_wrote (unshift d) l (4 + h) c q (o + (4 + h)) after j (o + (4 + h) + j) y))
            go None y = take_less after q o (o + (4 + h)) (omega arith) y ∙ before (4 + h) (o + (4 + h)) head b

      pub lowered_stop : Lowered (slice l 4) c d p (o + 4) q None → Lowered l c d out o q None
      unfolding Leaves
      lowered_stop x = record {
        walked = walked_stop l 0 (Movable d c) (Movable d c) (Movable d c) z (movable_two d c)
            (slice_walked l 4 (Movable d c) None x.walked);
        leaves = take_less q p o (o + 4) (omega arith) x.leaves ∙ ap (take o) e ∙ take_sets (record_bytes 0 0 []) out o o (omega arith);
      }

    module _ (p q : List ℕ) (z : get_or l 0 0 ≡ 1) where
      pub lowered_near_body : (room j : ℕ) → Lowers l c d room o → Lowered (slice l 4) (c + 1) d p (o + 4) q (Some j) → 4 + j ≤ 4 * numbers
      lowered_near_body room j w x =
          let n = walked_ends (slice l 4) 0 (Movable d (c + 1)) j x.walked in
          omega (arith, (slices_lam l j z n).exact w.tree w.part, w.shallow)

      pub lowered_abstraction : (r : Option ℕ) → p ≡ sets out o (record_bytes 1 0 []) → Lowered (slice l 4) (c + 1) d p (o + 4) q r
          → Lowered l c d out o q (further 4 r)
      unfolding Leaves
      lowered_abstraction r e x =
          record {
            walked = walked_lam l 0 (Movable d c) (Movable d (c + 1)) (further 4 r) z (movable_under d c)
                (slice_walked l 4 (Movable d (c + 1)) r x.walked);
            leaves = go r x.leaves;
          }
        where
          go : (r : Option ℕ) → Leaves (slice l 4) (c + 1) d p (o + 4) q r → Leaves l c d out o q (further 4 r)
          go (Some h) y =
              leaves_upto q (4 + h) (o + 4 + h) (omega arith)
              (wrote_abstraction (unshift d) (unshifts d) l 0 c out o p q (4 + h) (o + 4 + h) z e
              (slice_wrote (unshift d) l 4 (c + 1) p (o + 4) q h (o + 4 + h) y))
          go None y = take_less q p o (o + 4) (omega arith) y ∙ ap (take o) e ∙ take_sets (record_bytes 1 0 []) out o o (omega arith)

    module _ (n : ℕ) (i : n ≡ number_at l 0) where
      pub lowered_local : (p : List ℕ) (m : ℕ) → Whole l 0 → get_or l 0 0 ≡ 2 → ¬ Inside c d n → loc m ≡ unshift d c (loc n)
          → p ≡ sets out o (record_bytes 2 m []) → Lowered l c d out o p (Some 4)
      lowered_local p m x z j u e = record {
        walked = walked_leaf l 0 (Movable d c) x (λ q. omega arith) (λ q. omega arith)
            (part_local l 0 (Movable d c) z (subst (λ (k : ℕ). Movable d c (loc k)) i (movable_local n c d j)));
        leaves = leaves_upto p 4 (o + 4) refl
            (wrote_local (unshift d) (unshifts d) l 0 c out o p n (o + 4) (loc m) x z i u e (omega arith));
      }

      pub lowered_local_no : get_or l 0 0 ≡ 2 → Inside c d n → Lowered l c d out o out None
      lowered_local_no z j = record {
        walked = walked_no l 0 (Movable d c)
            (part_local l 0 (λ t. ¬ Movable d c t) z (subst (λ (k : ℕ). ¬ Movable d c (loc k)) i (movable_local_no n c d j)));
        leaves = leaves_no out refl;
      }

    -- any other record is copied as it is
    pub lowered_other : (p : List ℕ) → Whole l 0 → Other l 0 → p ≡ sets out o (take 4 l) → Lowered l c d out o p (Some 4)
    lowered_other p x z e =
        record {
          walked = walked_leaf l 0 (Movable d c) x z.no_application z.no_abstraction
              (part_other l 0 (Movable d c) z.no_application z.no_abstraction z.no_local (λ k. refl) (λ k. refl));
          leaves = leaves_upto p 4 (o + 4) refl (record {
            ends = slices_leaf l z.no_application z.no_abstraction x;
            exact = λ t w. omega (arith, ap size (stays t w), one t w);
            bytes = λ t w. e ∙ ap (sets out o) (part_bytes l 0 4 t w (omega (arith, one t w)) ∙ ap encode (sym (stays t w)));
          });
        }
      where
        one : (t : Term) → Part l 0 t → size t ≡ 1
        one t w = leaf_size l 0 t w z.no_application z.no_abstraction

        stays : (t : Term) → Part l 0 t → unshift d c t ≡ t
        stays = part_other l 0 (λ t. unshift d c t ≡ t) z.no_application z.no_abstraction z.no_local (λ k. refl) (λ k. refl)

-- a part of a table, handed on as a slice
module _ (l : List ℕ) (at c d o : ℕ) where
  pub lowers_at : (room : ℕ) (t : Term) → Part l at t → o + 4 * size t ≤ room → c + size t ≤ numbers → d ≤ numbers
      → Lowers (slice l at) c d room o
  lowers_at room t x e s f = record {
    tree = t;
    part = part_slice l at t x;
    enough = e;
    shallow = s;
    few = f;
    least = omega (arith, slice_length l at, x.some, x.within);
    first = omega (arith, x.some);
  }

  module _ (out after : List ℕ) (r : Option ℕ) (x : Lowered (slice l at) c d out o after r) where
    pub lowered_wrote_at : (h : ℕ) → r ≡ Some h → Wrote (unshift d) l at c out o after (at + h) (o + h)
    unfolding Leaves
    lowered_wrote_at h i =
        let w : Leaves (slice l at) c d out o after (Some h) = subst (Leaves (slice l at) c d out o after) i x.leaves in
        slice_wrote (unshift d) l at c out o after h (o + h) w
