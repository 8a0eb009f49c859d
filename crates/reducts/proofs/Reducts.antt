-- The reduct of a part from the reducts of its own parts: an application by the tests that the code makes, which are the definition's, and
-- everything else as it is. By the part's kind, which its first record shows. Assumes nothing.
use mathlib.Core.Path.{◌≡◌, refl, sym, ap, ◌∙◌, subst}
use mathlib.Core.Bool.{Bool, true, false, ◌||◌}
use mathlib.Core.List.{List, []}
use Prim.Native.Nat.{ℕ, suc, ◌+◌, ◌-◌, ◌*◌, ◌/◌, ◌≤◌}
use native.Mathlib.Omega.{arith}
use lib.ListN.{length, get_or, take, drop}
use lib.Seq.{sets, length-sets}
use Rattle.std.specs.declared.option.Option.{Option}
use Rattle.std.specs.declared.option.Option.TheVariants.{Some, None}
use Rattle.terms.specs.Figures.{variables, numbers, pattern_records, swept_records}
use Rattle.terms.specs.Term.{Term, app, lam, loc, con, var, size, Closed}
use Rattle.terms.specs.Sweep.{contract}
use Rattle.terms.specs.Table.{record_bytes, encode, IsTable}
use Rattle.terms.specs.Heads.{rigid}
use Rattle.terms.proofs.Table.{encode_length}
use Rattle.terms.proofs.Substitute.{size_pos}
use Rattle.matching.specs.Reducts.{guarded, is_passed, applied, reduct}
use Rattle.matching.proofs.Reducts.{closed_redex, reduct_closed, reduct_below}
use Rattle.records.specs.Parts.{slice, Part, Tree}
use Rattle.records.specs.Tests.{Equals}
use Rattle.records.specs.Checks.{Pattern}
use Rattle.records.proofs.Parts.{whole, kind_at, at_start, leaf_size, application_of, abstraction_of}
use Rattle.sweeping.specs.Swept.{SweptParts}
use Rattle.substitution.specs.Writers.{substitute_for, Wrote, UsesCounted}
use Rattle.copying.proofs.Stores.{stored, written_then}
use Rattle.sweeping.proofs.Contraction.{table_length, application_bytes, redex_size, redex_bytes}
use Rattle.reducts.specs.Reduced.{pattern_bytes, Reduced, Contracts, ReducesApplication, ReducibleParts, ReducesRedex, Reducible, Reduces}

-- the two answers
pub reduced : (t : Term) (out after : List ℕ) (n : ℕ) → 4 * n ≡ 4 * size t → n ≤ pattern_records → after ≡ sets out 0 (encode t)
    → Reduced t out (Some n) after
unfolding Reduced
reduced t out after n e h b = (omega arith, h, b)

pub reduct_too_long : (t : Term) (out after : List ℕ) → Reduced t out None after
unfolding Reduced
reduct_too_long t out after = tt

-- an application as it is
pub joined :
    (f a out p q r : List ℕ) → 4 + length f + length a ≤ pattern_bytes → p ≡ sets out 0 (record_bytes 0 0 []) → q ≡ sets p 4 f
    → r ≡ sets q (4 + length f) a → ReducesApplication f a out (Some ((4 + length f + length a) / 4)) r
joined f a out p q r h u v w x y e g =
    reduced (app x y) out r ((4 + length f + length a) / 4) (omega (arith, table_length f x e, table_length a y g)) (omega arith)
    (application_bytes f a out p q r u v w x y e g)

-- an application whose head is an abstraction, contracted
module _ (f a : List ℕ) (z : get_or f 0 0 ≡ 1) (next n : ℕ) (u : UsesCounted (slice f 4) 0 next n) where
  pub contracted :
      (out after : List ℕ) (to end : ℕ) → length f - 4 + n * (length a - 4) ≤ pattern_bytes
      → ((t : Term) → a ≡ encode t → Wrote (substitute_for t) (slice f 4) 0 0 out 0 after to end)
      → Contracts f a out (Some ((length f - 4 + n * (length a - 4)) / 4)) after
  contracted out after to end m w x y e g =
      let s = redex_size f a z next n u x y e g in
      reduced (contract (app x y)) out after ((length f - 4 + n * (length a - 4)) / 4) (omega arith) (omega arith)
      (redex_bytes f a z next n u out after to end w x y e g)

-- which of the two is an application's reduct
module _ (f a out : List ℕ) (r : Option ℕ) (after : List ℕ) where
  module _ (z : get_or f 0 0 ≡ 1) (t : Bool) (test : (y : Term) → Part a 0 y → t ≡ rigid y) where
    contracts : Contracts f a out r after → (x y : Term) (e : f ≡ encode x) → a ≡ encode y → is_passed y (abstraction_of f x e z).b ≡ true
        → Reduced (applied x y) out r after
    contracts w x y e g k =
        let v = abstraction_of f x e z in
        let i : applied x y ≡ contract (app x y) = rw (v.is, k) in
        rw i (w x y e g)

    pub applies_rigid : t ≡ true → Contracts f a out r after → ReducesRedex f a out r after
    applies_rigid o w x y e g =
        let k : rigid y ≡ true = sym (test y (at_start a y g)) ∙ o in
        contracts w x y e g (ap (λ (i : Bool). i || guarded 0 (abstraction_of f x e z).b) k)

    module _ (o : t ≡ false) (m : List ℕ) (body : (b : Term) → f ≡ encode (lam b) → m ≡ encode b) (u : Bool)
        (guard : Equals m (guarded 0) u) where
      not_rigid : (x y : Term) (e : f ≡ encode x) → a ≡ encode y → is_passed y (abstraction_of f x e z).b ≡ u
      not_rigid x y e g =
          let v = abstraction_of f x e z in
          let k : rigid y ≡ false = sym (test y (at_start a y g)) ∙ o in
          ap (λ (i : Bool). i || guarded 0 v.b) k ∙ sym (guard v.b (body v.b v.bytes))

      pub applies_guarded : u ≡ true → Contracts f a out r after → ReducesRedex f a out r after
      applies_guarded q w x y e g = contracts w x y e g (not_rigid x y e g ∙ q)

      pub applies_kept : u ≡ false → ReducesApplication f a out r after → ReducesRedex f a out r after
      applies_kept q w x y e g =
          let v = abstraction_of f x e z in
          let i : applied x y ≡ app x y = rw (v.is, not_rigid x y e g ∙ q) in
          rw i (w x y e g)

-- the parts of what is reducible
module _ (l m : List ℕ) (x : Reducible l) where
  part : (t : Term) (d : ℕ) → m ≡ encode t → d + size t + swept_records ≤ numbers → Closed d t → Reducible m
  part t d e h c = record {
    tree = t;
    bytes = e;
    least = omega (arith, table_length m t e, size_pos t);
    depth = d;
    shallow = h;
    closed = c;
  }

  pub reducible_head : get_or l 0 0 ≡ 0 → ((f a : Term) → l ≡ encode (app f a) → m ≡ encode f) → Reducible m
  reducible_head z h =
      let v = application_of l x.tree x.bytes z in
      let c : Closed x.depth (app v.f v.a) = subst (Closed x.depth) v.is x.closed in
      part v.f x.depth (h v.f v.a v.bytes) (omega (arith, ap size v.is, x.shallow)) c.0

  pub reducible_argument : get_or l 0 0 ≡ 0 → ((f a : Term) → l ≡ encode (app f a) → m ≡ encode a) → Reducible m
  reducible_argument z h =
      let v = application_of l x.tree x.bytes z in
      let c : Closed x.depth (app v.f v.a) = subst (Closed x.depth) v.is x.closed in
      part v.a x.depth (h v.f v.a v.bytes) (omega (arith, ap size v.is, x.shallow)) c.1

  pub reducible_body : get_or l 0 0 ≡ 1 → ((b : Term) → l ≡ encode (lam b) → m ≡ encode b) → Reducible m
  reducible_body z h =
      let v = abstraction_of l x.tree x.bytes z in
      let c : Closed x.depth (lam v.b) = subst (Closed x.depth) v.is x.closed in
      part v.b (suc x.depth) (h v.b v.bytes) (omega (arith, ap size v.is, x.shallow)) c

-- a pattern is reducible
pub reducible : (l : List ℕ) (t : Term) → IsTable l t → size t ≤ pattern_records → Reducible l
reducible l t x h = record {
  tree = t;
  bytes = x.0;
  least = omega (arith, table_length l t x.0, size_pos t);
  depth = 0;
  shallow = omega arith;
  closed = x.1;
}

-- a pattern's reduct is a pattern, if it is no longer than one may be
abbrev pub reduct_pattern : (p q : List ℕ) (a : Pattern p) → q ≡ encode (reduct a.tree) → length q ≤ 4 * pattern_records → Pattern q
reduct_pattern p q a e h = record {
  tree = reduct a.tree;
  table = (e, reduct_closed 0 a.tree a.table.1);
  below = reduct_below variables a.tree a.below;
  most = omega (arith, table_length q (reduct a.tree) e);
}

-- a reduct of n records that stands in p from byte 0 on
pub record ReductTable (t : Term) (p : List ℕ) (n : ℕ) : Type 0 where
  pub some : 1 ≤ n
  pub few : n ≤ pattern_records
  pub bytes : take (n * 4 - 0) (drop 0 p) ≡ encode t
  pub fills : length (take (n * 4 - 0) (drop 0 p)) ≡ 4 * n
  pub within : n * 4 ≤ length p

pub reduct_table : (t : Term) (out p : List ℕ) (r : Option ℕ) (n : ℕ) → Reduced t out r p → r ≡ Some n → length out ≡ pattern_bytes
    → ReductTable t p n
unfolding Reduced
reduct_table t out p r n x e h =
    let y : Reduced t out (Some n) p = subst (λ (q : Option ℕ). Reduced t out q p) e x in
    let b = stored out p (encode t) (n * 4) y.2 (omega (arith, y.0, encode_length t)) (omega (arith, y.1)) in
    record {
      some = omega (arith, y.0, size_pos t);
      few = y.1;
      bytes = b;
      fills = omega (arith, y.0, table_length (take (n * 4 - 0) (drop 0 p)) t b);
      within = omega (arith, y.1, ap length y.2, length-sets out 0 (encode t));
    }

-- the reduct of the part m, which is reducible
module _ (m out p : List ℕ) (r : Option ℕ) (n : ℕ) (w : Reduces m out r p) (e : r ≡ Some n) (h : length out ≡ pattern_bytes) where
  results : (t : Term) → m ≡ encode t → ReductTable (reduct t) p n
  results t q = reduct_table (reduct t) out p r n (w t q) e h

  pub reduct_few : Reducible m → n ≤ pattern_records
  reduct_few x = (results x.tree x.bytes).few

  pub reduct_within : Reducible m → n * 4 ≤ length p
  reduct_within x = (results x.tree x.bytes).within

-- an application
module _ (l : List ℕ) (z : get_or l 0 0 ≡ 0) (m j : List ℕ) (head : (f a : Term) → l ≡ encode (app f a) → m ≡ encode f)
    (argument : (f a : Term) → l ≡ encode (app f a) → j ≡ encode a) (u p : List ℕ) (r : Option ℕ) (w : Reduces m u r p) (c b : List ℕ)
    (o : Option ℕ) (y : Reduces j c o b) (n k : ℕ) (e : r ≡ Some n) (d : o ≡ Some k) (h : length u ≡ pattern_bytes)
    (i : length c ≡ pattern_bytes) where
  both_reduced : (t : Term) (q : l ≡ encode t) → ReductTable (reduct (application_of l t q z).f) p n
      × ReductTable (reduct (application_of l t q z).a) b k
  both_reduced t q =
      let v = application_of l t q z in
      (results m u p r n w e h v.f (head v.f v.a v.bytes), results j c b o k y d i v.a (argument v.f v.a v.bytes))

  pub parts_applicable : Reducible l → ReducibleParts (take (n * 4 - 0) (drop 0 p)) (take (k * 4 - 0) (drop 0 b))
  parts_applicable x =
      let v = application_of l x.tree x.bytes z in
      let f = (both_reduced x.tree x.bytes).0 in
      let g = (both_reduced x.tree x.bytes).1 in
      let c : Closed x.depth (app v.f v.a) = subst (Closed x.depth) v.is x.closed in
      record {
        head = whole (take (n * 4 - 0) (drop 0 p)) 0 (reduct v.f) (at_start (take (n * 4 - 0) (drop 0 p)) (reduct v.f) f.bytes);
        argument =
            whole (take (k * 4 - 0) (drop 0 b)) 0 (reduct v.a) (at_start (take (k * 4 - 0) (drop 0 b)) (reduct v.a) g.bytes);
        head_most = omega (arith, f.fills, f.few);
        argument_most = omega (arith, g.fills, g.few);
        redex = λ s.
            let t = abstraction_of (take (n * 4 - 0) (drop 0 p)) (reduct v.f) f.bytes s in
            record {
              head = reduct v.f;
              argument = reduct v.a;
              head_bytes = f.bytes;
              argument_bytes = g.bytes;
              head_least = omega (arith, f.fills, f.some);
              argument_least = omega (arith, g.fills, g.some);
              head_most = omega (arith, f.fills, f.few);
              argument_most = omega (arith, g.fills, g.few);
              depth = x.depth;
              shallow = omega (arith, x.shallow);
              closed = rw t.is
                  (closed_redex x.depth (reduct v.a) t.b (reduct_closed x.depth v.a c.1)
                  (subst (Closed x.depth) t.is (reduct_closed x.depth v.f c.0)));
            };
      }

  pub reduces_application :
      (out : List ℕ) (q : Option ℕ) (after : List ℕ) → ReducesRedex (take (n * 4 - 0) (drop 0 p)) (take (k * 4 - 0) (drop 0 b)) out q after
      → Reduces l out q after
  reduces_application out q after x t g =
      let v = application_of l t g z in
      rw v.is (x (reduct v.f) (reduct v.a) (both_reduced t g).0.bytes (both_reduced t g).1.bytes)

-- an abstraction
pub reduces_abstraction :
    (l : List ℕ) → get_or l 0 0 ≡ 1 → (m : List ℕ) → ((b : Term) → l ≡ encode (lam b) → m ≡ encode b) → (u p : List ℕ) (r : Option ℕ)
    → Reduces m u r p → (n : ℕ) → r ≡ Some n → length u ≡ pattern_bytes → ¬ (n * 4 ≡ pattern_bytes) → (out q after : List ℕ)
    → q ≡ sets out 0 (record_bytes 1 0 []) → after ≡ sets q 4 (take (n * 4 - 0) (drop 0 p)) → Reduces l out (Some (n * 4 / 4 + 1)) after
reduces_abstraction l z m body u p r w n e h k out q after b c t g =
    let v = abstraction_of l t g z in
    let x = results m u p r n w e h v.b (body v.b v.bytes) in
    let y : length (take (n * 4 - 0) (drop 0 p)) ≡ 4 * size (reduct v.b) =
    table_length (take (n * 4 - 0) (drop 0 p)) (reduct v.b) x.bytes in
    rw v.is
    (reduced (lam (reduct v.b)) out after (n * 4 / 4 + 1) (omega (arith, x.fills)) (omega (arith, x.few))
    (written_then (record_bytes 1 0 []) (take (n * 4 - 0) (drop 0 p)) out q after 0 4 b c refl
    ∙ ap (λ (s : List ℕ). sets out 0 (record_bytes 1 0 s)) x.bytes))

-- a leaf
module _ (l : List ℕ) (n : ¬ (get_or l 0 0 ≡ 0)) (m : ¬ (get_or l 0 0 ≡ 1)) where
  pub reducible_leaf_length : Reducible l → length l ≡ 4
  reducible_leaf_length x =
      omega (arith, table_length l x.tree x.bytes, leaf_size l 0 x.tree (at_start l x.tree x.bytes) n m)

  own : (t : Term) → l ≡ encode t → reduct t ≡ t
  own (app f a) e = absurd (n (kind_at l 0 (app f a) (at_start l (app f a) e)))
  own (lam b) e = absurd (m (kind_at l 0 (lam b) (at_start l (lam b) e)))
  own (loc i) e = refl
  own (con i) e = refl
  own (var i) e = refl

  pub reduces_leaf : (out after : List ℕ) → after ≡ sets out 0 l → Reduces l out (Some 1) after
  reduces_leaf out after w t e =
      rw (own t e) (reduced t out after 1 (omega (arith, leaf_size l 0 t (at_start l t e) n m)) (omega arith) (w ∙ ap (sets out 0) e))
