-- The skeleton of a part, from those of its own parts: the swept part is contracted from the swept parts, which fit their skeletons. By the
-- part's kind, which its first record shows. Assumes nothing.
use mathlib.Core.Path.{◌≡◌, refl, sym, ap, ◌∙◌, subst}
use mathlib.Core.Bool.{Bool, true}
use mathlib.Core.Logic.{inl, inr}
use mathlib.Core.List.{List}
use Prim.Native.Nat.{ℕ, suc, ◌+◌, ◌-◌, ◌*◌, ◌≤◌}
use native.Mathlib.Omega.{arith}
use lib.ListN.{length, get_or, take, drop}
use lib.Seq.{sets, sets-eq, length-sets}
use Rattle.terms.specs.Figures.{variables, numbers, swept_records}
use Rattle.terms.specs.Term.{Term, app, lam, loc, con, var, size, Closed, Below}
use Rattle.terms.specs.Sweep.{sweep, fill}
use Rattle.terms.specs.Table.{encode}
use Rattle.terms.proofs.Sweep.{sweep_normal}
use Rattle.terms.proofs.Locals.{closed_more, closed_sweep}
use Rattle.terms.proofs.Table.{encode_one, encode_length}
use Rattle.terms.proofs.Substitute.{size_pos}
use Rattle.matching.specs.Skeletons.{Fits}
use Rattle.matching.proofs.Skeletons.{fits_refl, closed_apply}
use Rattle.matching.proofs.Repeated.{closed_contract}
use Rattle.records.specs.Record.{number_at}
use Rattle.records.specs.Parts.{Part}
use Rattle.records.specs.Tests.{Says, Tells}
use Rattle.records.proofs.Parts.{part, kind_at, variable_at, at_start, leaf_size, application_of, abstraction_of}
use Rattle.assignments.specs.declared.Span.{Span}
use Rattle.assignments.specs.declared.Entry.{Entry}
use Rattle.assignments.specs.declared.Entry.TheVariants.{Open, Assigned}
use Rattle.sweeping.specs.Swept.{swept_bytes, SweptParts, SweptBody}
use Rattle.copying.proofs.Stores.{stored}
use Rattle.sweeping.proofs.Contraction.{table_length}
use Rattle.sweeping.proofs.Values.{ValueBytes, given_bytes}
use Rattle.skeletons.specs.Skeleton.{GivenValues, SkeletonInput, IsSkeleton, SkeletonWritten, WritesSkeleton}
use Rattle.skeletons.specs.Contracted.{WritesApplication, WritesAbstraction, Known, Entered}
use Rattle.skeletons.proofs.Contractions.{Hole, ClosedHole}

-- a hole is a skeleton of everything, and one for closed terms is a skeleton of what is closed
module _ (s : List ℕ) (a : List Entry) (out : List ℕ) (n : ℕ) (after : List ℕ) where
  pub skeleton_hole : Hole out n after → (l : List ℕ) → WritesSkeleton l s a out n after
  skeleton_hole h l = record {
    written = λ t e. record { skeleton = var 0; bytes = h.1; sized = h.0; closed = λ d c. tt; is_skeleton = λ φ v g. tt };
    some = omega (arith, h.0);
    few = omega (arith, h.0);
  }

  module _ (h : ClosedHole out n after) where
    closed_written : (t : Term) → Closed 0 t → SkeletonWritten s a t out n after
    closed_written t c = record {
      skeleton = var 1;
      bytes = h.1;
      sized = h.0;
      closed = λ d c. tt;
      is_skeleton = λ φ v g. closed_sweep φ v 0 t c;
    }

    pub skeleton_closed : (l : List ℕ) (b : Bool) → Tells l (Closed 0) b → b ≡ true → WritesSkeleton l s a out n after
    skeleton_closed l b tells e = record {
      written = λ t q. closed_written t (subst (λ (i : Bool). Says i (Closed 0 t)) e (tells t q));
      some = omega (arith, h.0);
      few = omega (arith, h.0);
    }

    pub entered_hole : (i : ℕ) → Entered s a i out n after
    entered_hole i = record { written = closed_written (var i) tt; some = omega (arith, h.0); few = omega (arith, h.0) }

-- an assigned variable
module _ (s : List ℕ) (a : List Entry) (i : ℕ) (x : Span) (e : get_or a i Open ≡ Assigned x) (k : Known s a i) where
  abbrev value : Term
  value = (k.given x e).0

  pub value_held : ValueBytes s x value
  value_held = given_bytes s a i value (k.given x e).1 x e

  pub entered_value : (out b after : List ℕ) → b ≡ take (4 * x.count) (drop (4 * x.first) s) → after ≡ sets out 0 b
      → Entered s a i out x.count after
  entered_value out b after p q =
      let h = value_held in
      record {
        written = record {
          skeleton = value;
          bytes = q ∙ ap (sets out 0) (p ∙ h.bytes);
          sized = h.exact;
          closed = λ d c. closed_more 0 d value (omega arith) (k.given x e).1.value.0;
          is_skeleton = is_skeleton;
        };
        some = omega (arith, h.exact, size_pos value);
        few = h.most;
      }
    where
      is_skeleton : IsSkeleton s a (var i) value
      is_skeleton φ v g =
          let y = g i x refl e in
          let r : value ≡ φ i = encode_one value (φ i) (sym value_held.bytes ∙ (given_bytes s a i (φ i) y x e).bytes) in
          subst (Fits value) (r ∙ sym (sweep_normal (φ i) y.value.1)) (fits_refl value)

  pub value_bytes : (b : List ℕ) → b ≡ take (4 * x.count) (drop (4 * x.first) s) → length b ≤ swept_bytes
  value_bytes b p = omega (arith, value_held.most, value_held.exact, table_length b value (p ∙ value_held.bytes))

-- the parts of what has a skeleton
module _ (l m s : List ℕ) (a : List Entry) (x : SkeletonInput l s a) where
  skeleton_input : (t : Term) (d : ℕ) → m ≡ encode t → size t ≤ size x.tree → d + size t + swept_records ≤ numbers → Closed d t
      → Below variables t → GivenValues s a x.φ t → SkeletonInput m s a
  skeleton_input t d e o h c b g = record {
    tree = t;
    bytes = e;
    least = omega (arith, table_length m t e, size_pos t);
    most = omega (arith, table_length m t e, o, table_length l x.tree x.bytes, x.most);
    depth = d;
    shallow = h;
    closed = c;
    below = b;
    φ = x.φ;
    gives = g;
  }

  module _ (z : get_or l 0 0 ≡ 0) where
    pub input_head : ((f b : Term) → l ≡ encode (app f b) → m ≡ encode f) → SkeletonInput m s a
    input_head h =
        let v = application_of l x.tree x.bytes z in
        let c : Closed x.depth (app v.f v.a) = subst (Closed x.depth) v.is x.closed in
        let b : Below variables (app v.f v.a) = subst (Below variables) v.is x.below in
        let g : GivenValues s a x.φ (app v.f v.a) = subst (GivenValues s a x.φ) v.is x.gives in
        skeleton_input v.f x.depth (h v.f v.a v.bytes) (omega (arith, ap size v.is))
        (omega (arith, ap size v.is, x.shallow)) c.0 b.0 (λ i y o. g i y (inl o))

    pub input_argument : ((f b : Term) → l ≡ encode (app f b) → m ≡ encode b) → SkeletonInput m s a
    input_argument h =
        let v = application_of l x.tree x.bytes z in
        let c : Closed x.depth (app v.f v.a) = subst (Closed x.depth) v.is x.closed in
        let b : Below variables (app v.f v.a) = subst (Below variables) v.is x.below in
        let g : GivenValues s a x.φ (app v.f v.a) = subst (GivenValues s a x.φ) v.is x.gives in
        skeleton_input v.a x.depth (h v.f v.a v.bytes) (omega (arith, ap size v.is))
        (omega (arith, ap size v.is, x.shallow)) c.1 b.1 (λ i y o. g i y (inr o))

  pub input_body : get_or l 0 0 ≡ 1 → ((b : Term) → l ≡ encode (lam b) → m ≡ encode b) → SkeletonInput m s a
  input_body z h =
      let v = abstraction_of l x.tree x.bytes z in
      let c : Closed x.depth (lam v.b) = subst (Closed x.depth) v.is x.closed in
      let b : Below variables (lam v.b) = subst (Below variables) v.is x.below in
      let g : GivenValues s a x.φ (lam v.b) = subst (GivenValues s a x.φ) v.is x.gives in
      skeleton_input v.b (suc x.depth) (h v.b v.bytes) (omega (arith, ap size v.is))
      (omega (arith, ap size v.is, x.shallow)) c b g

-- a skeleton of n records that stands in p from byte 0 on
record Result (s : List ℕ) (a : List Entry) (t : Term) (p : List ℕ) (n : ℕ) : Type 0 where
  skeleton : Term
  bytes : take (n * 4 - 0) (drop 0 p) ≡ encode skeleton
  fills : length (take (n * 4 - 0) (drop 0 p)) ≡ 4 * n
  first : get_or (take (n * 4 - 0) (drop 0 p)) 0 0 ≡ get_or p 0 0
  closed : (d : ℕ) → Closed d t → Closed d skeleton
  is_skeleton : IsSkeleton s a t skeleton

result : (s : List ℕ) (a : List Entry) (t : Term) (u p : List ℕ) (n : ℕ) → SkeletonWritten s a t u n p → n ≤ swept_records
    → length u ≡ swept_bytes → Result s a t p n
result s a t u p n w m h =
    let x = w.skeleton in
    let i : 0 + length (encode x) ≤ length u = omega (arith, w.sized, encode_length x) in
    let b = stored u p (encode x) (n * 4) w.bytes (omega (arith, w.sized, encode_length x)) (omega arith) in
    let y : Part p 0 x = part p 0 x (drop (0 + length (encode x)) u) (w.bytes ∙ sets-eq (encode x) u 0 i) in
    record {
      skeleton = x;
      bytes = b;
      fills = omega (arith, w.sized, table_length (take (n * 4 - 0) (drop 0 p)) x b);
      first = kind_at (take (n * 4 - 0) (drop 0 p)) 0 x (at_start (take (n * 4 - 0) (drop 0 p)) x b) ∙ sym (kind_at p 0 x y);
      closed = w.closed;
      is_skeleton = w.is_skeleton;
    }

-- an application
module _ (l s : List ℕ) (a : List Entry) (z : get_or l 0 0 ≡ 0) (m : List ℕ) (head : (f b : Term) → l ≡ encode (app f b) → m ≡ encode f)
    (u p : List ℕ) (n : ℕ) (w : WritesSkeleton m s a u n p) (h : length u ≡ swept_bytes) where
  first_part : (t : Term) (q : l ≡ encode t) → Result s a (application_of l t q z).f p n
  first_part t q =
      let v = application_of l t q z in
      result s a v.f u p n (w.written v.f (head v.f v.a v.bytes)) w.few h

  pub head_no_hole : SkeletonInput l s a → ¬ (get_or p 0 0 ≡ 4) → ¬ (get_or (take (n * 4 - 0) (drop 0 p)) 0 0 ≡ 4)
  head_no_hole x o q = o (sym (first_part x.tree x.bytes).first ∙ q)

  module _ (j : List ℕ) (argument : (f b : Term) → l ≡ encode (app f b)
      → j ≡ encode b) (c b : List ℕ) (k : ℕ) (y : WritesSkeleton j s a c k b)
      (i : length c ≡ swept_bytes) where
    second_part_lem : (t : Term) (q : l ≡ encode t) → Result s a (application_of l t q z).a b k
    second_part_lem t q =
        let v = application_of l t q z in
        result s a v.a c b k (y.written v.a (argument v.f v.a v.bytes)) y.few i

    pub skeleton_parts_swept : SkeletonInput l s a → SweptParts (take (n * 4 - 0) (drop 0 p)) (take (k * 4 - 0) (drop 0 b))
    skeleton_parts_swept x =
        let v = application_of l x.tree x.bytes z in
        let f = first_part x.tree x.bytes in
        let g = second_part_lem x.tree x.bytes in
        let o : Closed x.depth (app v.f v.a) = subst (Closed x.depth) v.is x.closed in
        record {
          head = f.skeleton;
          argument = g.skeleton;
          head_bytes = f.bytes;
          argument_bytes = g.bytes;
          head_least = omega (arith, f.fills, w.some);
          argument_least = omega (arith, g.fills, y.some);
          head_most = omega (arith, f.fills, w.few);
          argument_most = omega (arith, g.fills, y.few);
          depth = x.depth;
          shallow = omega (arith, x.shallow);
          closed = closed_apply x.depth f.skeleton g.skeleton (f.closed x.depth o.0) (g.closed x.depth o.1);
        }

    pub skeleton_application : (out : List ℕ) (r : ℕ) (after : List ℕ)
        → WritesApplication (take (n * 4 - 0) (drop 0 p)) (take (k * 4 - 0) (drop 0 b)) out r after → WritesSkeleton l s a out r after
    skeleton_application out r after x = record { written = each; some = x.some; few = x.few }
      where
        each : (t : Term) → l ≡ encode t → SkeletonWritten s a t out r after
        each t q =
            let v = application_of l t q z in
            let f = first_part t q in
            let g = second_part_lem t q in
            let o = x.written f.skeleton g.skeleton f.bytes g.bytes in
            subst (λ (e : Term). SkeletonWritten s a e out r after) (sym v.is) (record {
              skeleton = o.skeleton;
              bytes = o.bytes;
              sized = o.sized;
              closed = λ d e. o.holds.closed d (f.closed d e.0) (g.closed d e.1);
              is_skeleton = λ φ j e.
                  o.holds.fits (sweep (fill φ v.f)) (sweep (fill φ v.a)) (f.is_skeleton φ j (λ i y o. e i y (inl o)))
                  (g.is_skeleton φ j (λ i y o. e i y (inr o)));
            })

-- an abstraction
module _ (l s : List ℕ) (a : List Entry) (z : get_or l 0 0 ≡ 1) (m : List ℕ) (body : (b : Term) → l ≡ encode (lam b) → m ≡ encode b)
    (u p : List ℕ) (n : ℕ) (w : WritesSkeleton m s a u n p) (h : length u ≡ swept_bytes) where
  one_part : (t : Term) (q : l ≡ encode t) → Result s a (abstraction_of l t q z).b p n
  one_part t q =
      let v = abstraction_of l t q z in
      result s a v.b u p n (w.written v.b (body v.b v.bytes)) w.few h

  pub skeleton_body_swept : SkeletonInput l s a → SweptBody (take (n * 4 - 0) (drop 0 p))
  skeleton_body_swept x =
      let v = abstraction_of l x.tree x.bytes z in
      let f = one_part x.tree x.bytes in
      let o : Closed x.depth (lam v.b) = subst (Closed x.depth) v.is x.closed in
      record {
        body = f.skeleton;
        bytes = f.bytes;
        least = omega (arith, f.fills, w.some);
        most = omega (arith, f.fills, w.few);
        depth = x.depth;
        shallow = omega (arith, x.shallow);
        closed = closed_contract x.depth f.skeleton (f.closed (suc x.depth) o);
      }

  pub skeleton_abstraction : (out : List ℕ) (r : ℕ) (after : List ℕ) → WritesAbstraction (take (n * 4 - 0) (drop 0 p)) out r after
      → WritesSkeleton l s a out r after
  skeleton_abstraction out r after x = record { written = each; some = x.some; few = x.few }
    where
      each : (t : Term) → l ≡ encode t → SkeletonWritten s a t out r after
      each t q =
          let v = abstraction_of l t q z in
          let f = one_part t q in
          let o = x.written f.skeleton f.bytes in
          subst (λ (e : Term). SkeletonWritten s a e out r after) (sym v.is) (record {
            skeleton = o.skeleton;
            bytes = o.bytes;
            sized = o.sized;
            closed = λ d e. o.holds.closed d (f.closed (suc d) e);
            is_skeleton = λ φ j e. o.holds.fits (sweep (fill φ v.b)) (f.is_skeleton φ j e);
          })

-- a variable
module _ (l s : List ℕ) (a : List Entry) (i : ℕ) (z : get_or l 0 0 ≡ 4) (q : i ≡ number_at l 0) where
  variable_is : (t : Term) → l ≡ encode t → t ≡ var i
  variable_is t e = variable_at l 0 i t (at_start l t e) z q

  pub variable_known : SkeletonInput l s a → Known s a i
  variable_known x =
      let v = variable_is x.tree x.bytes in
      let b : Below variables (var i) = subst (Below variables) v x.below in
      let g : GivenValues s a x.φ (var i) = subst (GivenValues s a x.φ) v x.gives in
      record { below = b; given = λ y e. (x.φ i, g i y refl e) }

  pub skeleton_variable : (out : List ℕ) (n : ℕ) (after : List ℕ) → Entered s a i out n after → WritesSkeleton l s a out n after
  skeleton_variable out n after x = record {
    written = λ t e. subst (λ (u : Term). SkeletonWritten s a u out n after) (sym (variable_is t e)) x.written;
    some = x.some;
    few = x.few;
  }

-- a constant or a local
module _ (l s : List ℕ) (a : List Entry) (n : ¬ (get_or l 0 0 ≡ 0)) (m : ¬ (get_or l 0 0 ≡ 1)) where
  pub skeleton_leaf_length : SkeletonInput l s a → length l ≡ 4
  skeleton_leaf_length x = omega (arith, table_length l x.tree x.bytes, leaf_size l 0 x.tree (at_start l x.tree x.bytes) n m)

  pub skeleton_leaf : (out after : List ℕ) → ¬ (get_or l 0 0 ≡ 4) → after ≡ sets out 0 l → WritesSkeleton l s a out 1 after
  skeleton_leaf out after v w = record { written = each; some = omega arith; few = omega arith }
    where
      own : (t : Term) → l ≡ encode t → size t ≡ 1 → IsSkeleton s a t t → SkeletonWritten s a t out 1 after
      own t e h o = record { skeleton = t; bytes = w ∙ ap (sets out 0) e; sized = sym h; closed = λ d c. c; is_skeleton = o }

      each : (t : Term) → l ≡ encode t → SkeletonWritten s a t out 1 after
      each (app f b) e = absurd (n (kind_at l 0 (app f b) (at_start l (app f b) e)))
      each (lam b) e = absurd (m (kind_at l 0 (lam b) (at_start l (lam b) e)))
      each (loc i) e = own (loc i) e refl (λ φ v g. refl)
      each (con i) e = own (con i) e refl (λ φ v g. refl)
      each (var i) e = absurd (v (kind_at l 0 (var i) (at_start l (var i) e)))
