-- The sweep of a part from the sweeps of its own parts: its limit is passed where one of theirs is, or where the contracted form is too
-- long. By the part's kind, which its first record shows. Assumes nothing.
use mathlib.Core.Path.{◌≡◌, refl, sym, ap, ◌∙◌, subst}
use mathlib.Core.Bool.{Bool, true, false, cond, ◌||◌}
use mathlib.Core.Logic.{inl, inr, ⊎_elim}
use mathlib.Core.List.{List}
use Prim.Native.Nat.{ℕ, suc, ◌+◌, ◌-◌, ◌*◌, ◌≤◌, ◌<◌}
use native.Mathlib.Omega.{arith}
use lib.Dec.{T, eqb}
use lib.ListN.{length, get_or, take, drop}
use lib.Seq.{sets, length-sets}
use borrow.Author.Tests.{eq-eqb, eqb-true}
use Rattle.std.specs.declared.option.Option.{Option}
use Rattle.std.specs.declared.option.Option.TheVariants.{Some, None}
use Rattle.terms.specs.Figures.{numbers, swept_records}
use Rattle.terms.specs.Term.{Term, app, lam, loc, con, var, size, Closed, Normal, Occurs, Value}
use Rattle.terms.specs.Sweep.{sweep, largest, fill}
use Rattle.terms.specs.Table.{encode}
use Rattle.terms.proofs.Tests.{or_true, or_right}
use Rattle.terms.proofs.Sweep.{sweep_normal, fill_same}
use Rattle.terms.proofs.Locals.{closed_sweep}
use Rattle.terms.proofs.Table.{encode_length}
use Rattle.terms.proofs.Substitute.{size_pos}
use Rattle.records.specs.Record.{number_at}
use Rattle.records.proofs.Parts.{kind_at, variable_at, at_start, leaf_size, application_of, abstraction_of}
use Rattle.assignments.specs.Entries.{Given, Gives}
use Rattle.assignments.specs.declared.Entry.{Entry}
use Rattle.sweeping.specs.Swept.{swept_bytes, WrittenForm, FormSwept, SweptParts, ContractsApplication, SweptBody}
use Rattle.sweeping.specs.Swept.{ContractsAbstraction, HasValue, Sweepable, Fillable, WritesSwept}
use Rattle.copying.proofs.Stores.{stored}
use Rattle.sweeping.proofs.Contraction.{form_written, table_length}
use Rattle.sweeping.proofs.Values.{largest_normal}

-- a swept form has no loose local that the part doesn't have; what stands for a variable that doesn't occur is of no matter
abbrev occurs : ℕ → Term → Bool
occurs i (app f a) = occurs i f || occurs i a
occurs i (lam b) = occurs i b
occurs i (loc n) = false
occurs i (con n) = false
occurs i (var n) = eqb i n

occurs_is : (i : ℕ) (t : Term) → occurs i t ≡ true → Occurs i t
occurs_is i (app f a) e = ⊎_elim (λ p. inl (occurs_is i f p)) (λ p. inr (occurs_is i a p)) (or_true (occurs i f) (occurs i a) e)
occurs_is i (lam b) e = occurs_is i b e
occurs_is i (loc n) e = absurd (subst T (sym e) tt)
occurs_is i (con n) e = absurd (subst T (sym e) tt)
occurs_is i (var n) e = eqb-true i n e

is_occurs : (i : ℕ) (t : Term) → Occurs i t → occurs i t ≡ true
is_occurs i (app f a) (inl o) = rw (is_occurs i f o)
is_occurs i (app f a) (inr o) = or_right (occurs i f) (occurs i a) (is_occurs i a o)
is_occurs i (lam b) o = is_occurs i b o
is_occurs i (var n) o = eq-eqb i n o
is_occurs i (con _) o = elim o [ ]
is_occurs i (loc _) o = elim o [ ]

pub closed_swept : (s : List ℕ) (a : List Entry) (φ : ℕ → Term) (d : ℕ) (t : Term) → Gives s a φ t → Closed d t
    → Closed d (sweep (fill φ t))
closed_swept s a φ d t g c =
    subst (λ (u : Term). Closed d (sweep u)) (fill_same ψ φ t (λ i o. rw (is_occurs i t o)))
    (closed_sweep ψ (λ i. value i (occurs i t) refl) d t c)
  where
    ψ : ℕ → Term
    ψ i = cond (occurs i t) (φ i) (con 0)

    value : (i : ℕ) (o : Bool) → occurs i t ≡ o → Value (cond o (φ i) (con 0))
    value i true e = (g i (occurs_is i t e)).value
    value i false e = (tt, tt, omega arith)

-- the values for the parts of an application
gives_parts : (l s : List ℕ) (a : List Entry) (z : get_or l 0 0 ≡ 0) (t : Term) (φ : ℕ → Term) (q : l ≡ encode t) → Gives s a φ t
    → Gives s a φ (application_of l t q z).f × Gives s a φ (application_of l t q z).a
gives_parts l s a z t φ q g =
    let v = application_of l t q z in
    let h : Gives s a φ (app v.f v.a) = subst (Gives s a φ) v.is g in
    (λ i o. h i (inl o), λ i o. h i (inr o))

-- the parts of what is ready
module _ (l m s : List ℕ) (a : List Entry) (x : Sweepable l s a) where
  ready : (t : Term) (d : ℕ) → m ≡ encode t → d + size t + swept_records ≤ numbers → Closed d t → Gives s a x.φ t → Sweepable m s a
  ready t d e h c g = record {
    tree = t;
    bytes = e;
    least = omega (arith, table_length m t e, size_pos t);
    depth = d;
    shallow = h;
    closed = c;
    φ = x.φ;
    gives = g;
  }

  pub ready_head : get_or l 0 0 ≡ 0 → ((f g : Term) → l ≡ encode (app f g) → m ≡ encode f) → Sweepable m s a
  ready_head z h =
      let v = application_of l x.tree x.bytes z in
      let c : Closed x.depth (app v.f v.a) = subst (Closed x.depth) v.is x.closed in
      let g = gives_parts l s a z x.tree x.φ x.bytes x.gives in
      ready v.f x.depth (h v.f v.a v.bytes) (omega (arith, ap size v.is, x.shallow)) c.0 g.0

  pub ready_argument : get_or l 0 0 ≡ 0 → ((f g : Term) → l ≡ encode (app f g) → m ≡ encode g) → Sweepable m s a
  ready_argument z h =
      let v = application_of l x.tree x.bytes z in
      let c : Closed x.depth (app v.f v.a) = subst (Closed x.depth) v.is x.closed in
      let g = gives_parts l s a z x.tree x.φ x.bytes x.gives in
      ready v.a x.depth (h v.f v.a v.bytes) (omega (arith, ap size v.is, x.shallow)) c.1 g.1

  pub ready_body : get_or l 0 0 ≡ 1 → ((b : Term) → l ≡ encode (lam b) → m ≡ encode b) → Sweepable m s a
  ready_body z h =
      let v = abstraction_of l x.tree x.bytes z in
      let c : Closed x.depth (lam v.b) = subst (Closed x.depth) v.is x.closed in
      let g : Gives s a x.φ (lam v.b) = subst (Gives s a x.φ) v.is x.gives in
      ready v.b (suc x.depth) (h v.b v.bytes) (omega (arith, ap size v.is, x.shallow)) c g

pub ready_fillable : (l s : List ℕ) (a : List Entry) → Fillable l s a → Sweepable l s a
ready_fillable l s a x = record {
  tree = x.tree;
  bytes = x.table.0;
  least = omega (arith, table_length l x.tree x.table.0, size_pos x.tree);
  depth = 0;
  shallow = omega (arith, x.few);
  closed = x.table.1;
  φ = x.φ;
  gives = x.gives;
}

-- a swept form of n records that stands in p from byte 0 on
pub record SweptTable (t : Term) (p : List ℕ) (n : ℕ) : Type 0 where
  pub records : n ≡ size (sweep t)
  pub all : largest t ≤ swept_records
  pub some : 1 ≤ n
  pub few : n ≤ swept_records
  pub bytes : take (n * 4 - 0) (drop 0 p) ≡ encode (sweep t)
  pub fills : length (take (n * 4 - 0) (drop 0 p)) ≡ 4 * n
  pub within : n * 4 ≤ length p

pub swept_table : (t : Term) (out p : List ℕ) (r : Option ℕ) (n : ℕ) → FormSwept t out r p → r ≡ Some n → length out ≡ swept_bytes
    → SweptTable t p n
unfolding FormSwept WrittenForm
swept_table t out p r n x e h =
    let y : FormSwept t out (Some n) p = subst (λ (q : Option ℕ). FormSwept t out q p) e x in
    let b = stored out p (encode (sweep t)) (n * 4) y.1.2 (omega (arith, y.1.0, encode_length (sweep t))) (omega (arith, y.1.1)) in
    record {
      records = y.1.0;
      all = y.0;
      some = omega (arith, y.1.0, size_pos (sweep t));
      few = y.1.1;
      bytes = b;
      fills = omega (arith, y.1.0, table_length (take (n * 4 - 0) (drop 0 p)) (sweep t) b);
      within = omega (arith, y.1.1, ap length y.1.2, length-sets out 0 (encode (sweep t)));
    }

pub swept_long : (t : Term) (out p : List ℕ) (r : Option ℕ) → FormSwept t out r p → r ≡ None → swept_records < largest t
unfolding FormSwept
swept_long t out p r x e = let y : FormSwept t out None p = subst (λ (q : Option ℕ). FormSwept t out q p) e x in y.0

long : (t : Term) (out : List ℕ) → swept_records < largest t → FormSwept t out None out
unfolding FormSwept
long t out h = (h, refl)

-- a term that sweeps to u, from what was written for u
whole_swept : (t u : Term) (out : List ℕ) (r : Option ℕ) (after : List ℕ) → sweep t ≡ u
    → (size u ≤ swept_records → largest t ≤ swept_records)
    → size u ≤ largest t → WrittenForm u out r after → FormSwept t out r after
unfolding FormSwept WrittenForm
whole_swept t u out (Some n) after e f g w = (f (omega (arith, w.0, w.1)), rw e w)
whole_swept t u out None after e f g w = (omega (arith, w.0), w.1)

-- what the sweeps of the parts are, for every term that the part can be
module _ (s : List ℕ) (a : List Entry) (out : List ℕ) where
  pub results : (m p : List ℕ) (r : Option ℕ) (n : ℕ) → WritesSwept m s a out r p → r ≡ Some n → length out ≡ swept_bytes
      → (t : Term) (φ : ℕ → Term) → m ≡ encode t → Gives s a φ t → SweptTable (fill φ t) p n
  results m p r n w e h t φ q g = swept_table (fill φ t) out p r n (w t φ q g) e h

  pub sweepable_few : (m p : List ℕ) (r : Option ℕ) (n : ℕ) → WritesSwept m s a out r p → r ≡ Some n → length out ≡ swept_bytes
      → Sweepable m s a → n ≤ swept_records
  sweepable_few m p r n w e h x = (results m p r n w e h x.tree x.φ x.bytes x.gives).few

  pub sweepable_within : (m p : List ℕ) (r : Option ℕ) (n : ℕ) → WritesSwept m s a out r p → r ≡ Some n → length out ≡ swept_bytes
      → Sweepable m s a → n * 4 ≤ length p
  sweepable_within m p r n w e h x = (results m p r n w e h x.tree x.φ x.bytes x.gives).within

-- an application
module _ (l s : List ℕ) (a : List Entry) (z : get_or l 0 0 ≡ 0) (m : List ℕ) (head : (f g : Term) → l ≡ encode (app f g) → m ≡ encode f)
    (u p : List ℕ) (r : Option ℕ) (w : WritesSwept m s a u r p) where
  pub head_long : (out : List ℕ) → r ≡ None → WritesSwept l s a out None out
  head_long out e t φ q g =
      let v = application_of l t q z in
      let h = swept_long (fill φ v.f) u p r (w v.f φ (head v.f v.a v.bytes) (gives_parts l s a z t φ q g).0) e in
      rw v.is (long (fill φ (app v.f v.a)) out (omega arith))

  module _ (j : List ℕ) (argument : (f g : Term) → l ≡ encode (app f g) → j ≡ encode g) (c : List ℕ) (b : List ℕ) (o : Option ℕ)
      (y : WritesSwept j s a c o b) where
    pub argument_long : (out : List ℕ) → o ≡ None → WritesSwept l s a out None out
    argument_long out e t φ q g =
        let v = application_of l t q z in
        let h = swept_long (fill φ v.a) c b o (y v.a φ (argument v.f v.a v.bytes) (gives_parts l s a z t φ q g).1) e in
        rw v.is (long (fill φ (app v.f v.a)) out (omega arith))

    module _ (n k : ℕ) (e : r ≡ Some n) (d : o ≡ Some k) (h : length u ≡ swept_bytes) (i : length c ≡ swept_bytes) where
      both_swept : (t : Term) (φ : ℕ → Term) (q : l ≡ encode t) → Gives s a φ t
          → SweptTable (fill φ (application_of l t q z).f) p n × SweptTable (fill φ (application_of l t q z).a) b k
      both_swept t φ q g =
          let v = application_of l t q z in
          let f = gives_parts l s a z t φ q g in (
            results s a u m p r n w e h v.f φ (head v.f v.a v.bytes) f.0,
            results s a c j b o k y d i v.a φ (argument v.f v.a v.bytes) f.1,
          )

      pub sweepable_parts_swept : Sweepable l s a → SweptParts (take (n * 4 - 0) (drop 0 p)) (take (k * 4 - 0) (drop 0 b))
      sweepable_parts_swept x =
          let v = application_of l x.tree x.bytes z in
          let f = (both_swept x.tree x.φ x.bytes x.gives).0 in
          let g = (both_swept x.tree x.φ x.bytes x.gives).1 in
          record {
            head = sweep (fill x.φ v.f);
            argument = sweep (fill x.φ v.a);
            head_bytes = f.bytes;
            argument_bytes = g.bytes;
            head_least = omega (arith, f.fills, f.some);
            argument_least = omega (arith, g.fills, g.some);
            head_most = omega (arith, f.fills, f.few);
            argument_most = omega (arith, g.fills, g.few);
            depth = x.depth;
            shallow = omega (arith, x.shallow);
            closed = subst (λ (t : Term). Closed x.depth (sweep (fill x.φ t))) v.is
                (closed_swept s a x.φ x.depth x.tree x.gives x.closed);
          }

      pub sweeps_application : (out : List ℕ) (q : Option ℕ) (after : List ℕ)
          → ContractsApplication (take (n * 4 - 0) (drop 0 p)) (take (k * 4 - 0) (drop 0 b)) out q after → WritesSwept l s a out q after
      sweeps_application out q after x t φ g y =
          let v = application_of l t g z in
          let f = (both_swept t φ g y).0 in
          let f₁ = (both_swept t φ g y).1 in
          let w₁ = x (sweep (fill φ v.f)) (sweep (fill φ v.a)) f.bytes f₁.bytes in
          rw v.is (whole_swept (fill φ (app v.f v.a)) (sweep (fill φ (app v.f v.a))) out q after refl
          (λ h. omega (arith, f.all, f₁.all)) (omega arith) w₁)

-- an abstraction
module _ (l s : List ℕ) (a : List Entry) (z : get_or l 0 0 ≡ 1) (m : List ℕ) (body : (b : Term) → l ≡ encode (lam b) → m ≡ encode b)
    (u p : List ℕ) (r : Option ℕ) (w : WritesSwept m s a u r p) where
  pub body_long : (out : List ℕ) → r ≡ None → WritesSwept l s a out None out
  body_long out e t φ q g =
      let v = abstraction_of l t q z in
      let h = swept_long (fill φ v.b) u p r (w v.b φ (body v.b v.bytes) (subst (Gives s a φ) v.is g)) e in
      rw v.is (long (fill φ (lam v.b)) out (omega arith))

  module _ (n : ℕ) (e : r ≡ Some n) (h : length u ≡ swept_bytes) where
    body_swept : (t : Term) (φ : ℕ → Term) (q : l ≡ encode t) → Gives s a φ t → SweptTable (fill φ (abstraction_of l t q z).b) p n
    body_swept t φ q g =
        let v = abstraction_of l t q z in
        results s a u m p r n w e h v.b φ (body v.b v.bytes) (subst (Gives s a φ) v.is g)

    pub sweepable_body_swept : Sweepable l s a → SweptBody (take (n * 4 - 0) (drop 0 p))
    sweepable_body_swept x =
        let v = abstraction_of l x.tree x.bytes z in
        let f = body_swept x.tree x.φ x.bytes x.gives in
        record {
          body = sweep (fill x.φ v.b);
          bytes = f.bytes;
          least = omega (arith, f.fills, f.some);
          most = omega (arith, f.fills, f.few);
          depth = x.depth;
          shallow = omega (arith, x.shallow);
          closed = subst (λ (t : Term). Closed x.depth (sweep (fill x.φ t))) v.is
              (closed_swept s a x.φ x.depth x.tree x.gives x.closed);
        }

    pub sweeps_abstraction : (out : List ℕ) (q : Option ℕ) (after : List ℕ) → ContractsAbstraction (take (n * 4 - 0) (drop 0 p)) out q after
        → WritesSwept l s a out q after
    sweeps_abstraction out q after x t φ g y =
        let v = abstraction_of l t g z in
        let f = body_swept t φ g y in
        rw v.is (whole_swept (fill φ (lam v.b)) (sweep (fill φ (lam v.b))) out q after refl
        (λ h. omega (arith, f.all)) (omega arith) (x (sweep (fill φ v.b)) f.bytes))

-- a normal term, which sweeps to itself
swept_normal : (t : Term) (out : List ℕ) (r : Option ℕ) (after : List ℕ) → Normal t → WrittenForm t out r after → FormSwept t out r after
swept_normal t out r after n w =
    whole_swept t t out r after (sweep_normal t n) (λ h. omega (arith, largest_normal t n)) (omega (arith, largest_normal t n)) w

module _ (l s : List ℕ) (a : List Entry) where
  given : (i : ℕ) (t : Term) (φ : ℕ → Term) → t ≡ var i → Gives s a φ t → Given s a i (φ i)
  given i t φ e g = let h : Gives s a φ (var i) = subst (Gives s a φ) e g in h i refl

  pub ready_value : (i : ℕ) → Sweepable l s a → get_or l 0 0 ≡ 4 → i ≡ number_at l 0 → HasValue s a i
  ready_value i x k q = record {
    value = x.φ i;
    given = given i x.tree x.φ
        (variable_at l 0 i x.tree (at_start l x.tree x.bytes) k q) x.gives;
  }

  pub sweeps_variable : (i : ℕ) (out : List ℕ) (r : Option ℕ) (after : List ℕ) → get_or l 0 0 ≡ 4 → i ≡ number_at l 0
      → ((v : Term) → Given s a i v → WrittenForm v out r after) → WritesSwept l s a out r after
  sweeps_variable i out r after k q w t φ e g =
      let v = variable_at l 0 i t (at_start l t e) k q in
      let h = given i t φ v g in
      rw v (swept_normal (φ i) out r after h.value.1 (w (φ i) h))

  module _ (n : ¬ (get_or l 0 0 ≡ 0)) (m : ¬ (get_or l 0 0 ≡ 1)) where
    pub sweepable_leaf_length : Sweepable l s a → length l ≡ 4
    sweepable_leaf_length x =
        omega (arith, table_length l x.tree x.bytes, leaf_size l 0 x.tree (at_start l x.tree x.bytes) n m)

    pub sweeps_leaf : (out after : List ℕ) → ¬ (get_or l 0 0 ≡ 4) → after ≡ sets out 0 l → WritesSwept l s a out (Some 1) after
    sweeps_leaf out after k w = go
      where
        own : (t : Term) → l ≡ encode t → size t ≡ 1 → WrittenForm t out (Some 1) after
        own t e h = form_written t out after 1 (omega arith) (omega arith) (w ∙ ap (sets out 0) e)

        go : WritesSwept l s a out (Some 1) after
        go (app f b) φ e g = absurd (n (kind_at l 0 (app f b) (at_start l (app f b) e)))
        go (lam b) φ e g = absurd (m (kind_at l 0 (lam b) (at_start l (lam b) e)))
        go (loc i) φ e g = swept_normal (loc i) out (Some 1) after tt (own (loc i) e refl)
        go (con i) φ e g = swept_normal (con i) out (Some 1) after tt (own (con i) e refl)
        go (var i) φ e g = absurd (k (kind_at l 0 (var i) (at_start l (var i) e)))
