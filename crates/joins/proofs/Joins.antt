-- Two targets joined, and what abstractions over a body come to. By the first records of the two, which are of one kind where there is a
-- joined term, whose parts are handed on as slices; and by the number of abstractions. Assumes nothing.
use mathlib.Core.Path.{◌≡◌, refl, sym, ap, ap₂, ◌∙◌, subst}
use mathlib.Core.Bool.{cond}
use mathlib.Core.Option.{some, none}
use mathlib.Core.List.{List, []}
use Prim.Native.Nat.{ℕ, suc, ◌+◌, ◌-◌, ◌*◌, ◌≤◌, ◌<◌}
use native.Mathlib.Omega.{arith}
use native.Mathlib.Numerals.{add-one}
use lib.Dec.{eqb}
use lib.ListN.{length, get_or, take, drop}
use lib.Seq.{sets, length-sets}
use borrow.Author.Tests.{eq-eqb, ne_eqb}
use Rattle.std.specs.declared.option.Option.{Option}
use Rattle.std.specs.declared.option.Option.TheVariants.{Some, None}
use Rattle.terms.specs.Figures.{numbers, pattern_records, swept_records}
use Rattle.terms.specs.Term.{Term, app, lam, loc, con, size, shift, Closed}
use Rattle.terms.specs.Sweep.{contract}
use Rattle.terms.specs.Table.{record_bytes, encode}
use Rattle.terms.proofs.Shift.{size_shift}
use Rattle.terms.proofs.Table.{encode_length}
use Rattle.terms.proofs.Substitute.{size_pos}
use Rattle.matching.specs.Repeated.{join, both, below, at_constants}
use Rattle.matching.proofs.Repeated.{constants_other, join_kinds, join_leaf, size_join, closed_contract, size_contract}
use Rattle.records.specs.Record.{number_at}
use Rattle.records.specs.Parts.{slice, Part, Ends}
use Rattle.records.proofs.Parts.{whole, kind_at, number_at_lem, application, abstraction, Application}
use Rattle.records.proofs.Parts.{argument_part, ends_app, ends_lam, ends_leaf, constant_at}
use Rattle.records.proofs.Slices.{further, part_slice, head_slice, body_slice, slice_ends, slice_length}
use Rattle.substitution.specs.Writers.{NumbersFit, Source, Single, Wrote}
use Rattle.sweeping.specs.Swept.{swept_bytes, WrittenForm, SweptBody, ContractsAbstraction}
use Rattle.copying.proofs.Stores.{written_then, stored}
use Rattle.substitution.proofs.Writers.{source}
use Rattle.sweeping.proofs.Contraction.{table_length}
use Rattle.joins.specs.declared.pairs.Pairs.{Pairs}
use Rattle.joins.specs.Pairs.{pairs_of, Locates}
use Rattle.joins.specs.Joins.{Joins, Alike, Joint, JoinAnswered, Joined, Encloses, Enclosed}
use Rattle.joins.proofs.Spines.{pairs_length, located_nothing}

pub count_length : (P : List ℕ) (q : Pairs) → length (pairs_of P q) ≡ q.count
count_length P q = pairs_length P q.first q.second q.count

-- a joined term was written
joined_upto : {P : List ℕ} {q : Pairs} {F S : List ℕ} {d h o : ℕ} {out after : List ℕ} {r : Option ℕ} → r ≡ Some h
    → Joined P q F S d out o after r → JoinAnswered P q F S d out o after (Some h)
joined_upto {P} {q} {F} {S} {d} {h} {o} {out} {after} e x = subst (JoinAnswered P q F S d out o after) e x.answers

pub joined_ends : {P : List ℕ} {q : Pairs} {F S : List ℕ} {d h o : ℕ} {out after : List ℕ} {r : Option ℕ} → r ≡ Some h
    → Joined P q F S d out o after r → Ends F 0 h
unfolding JoinAnswered
joined_ends e x = (joined_upto e x).0

pub joined_joint :
    {P : List ℕ} {q : Pairs} {F S : List ℕ} {d h o : ℕ} {out after : List ℕ} {r : Option ℕ} → r ≡ Some h → Joined P q F S d out o after r
    → (a b : Term) → Part F 0 a → Part S 0 b
    → Joint P q d a b out o after
unfolding JoinAnswered
joined_joint e x = (joined_upto e x).1

pub joined_no :
    {P : List ℕ} {q : Pairs} {F S : List ℕ} {d o : ℕ} {out after : List ℕ} {r : Option ℕ} → r ≡ None → Joined P q F S d out o after r
    → (a b : Term) → Part F 0 a → Part S 0 b
    → join d (pairs_of P q) a b ≡ none
unfolding JoinAnswered
joined_no {P} {q} {F} {S} {d} {o} {out} {after} e x =
    let y : JoinAnswered P q F S d out o after None = subst (JoinAnswered P q F S d out o after) e x.answers in
    y

-- the parts of two applications whose heads are joined: where the first's head ends, the second's does as far on
module _ (P : List ℕ) (q : Pairs) (F S : List ℕ) (d h o : ℕ) (out after : List ℕ) (r : Option ℕ) (e : r ≡ Some h)
    (x : Joined P q (slice F 4) (slice S 4) d out o after r) (a b : Term) (v : Application F 0 a) where
  first_argument : Part (slice F (4 + h)) 0 v.a
  first_argument = part_slice F (4 + h) v.a (argument_part F 0 (4 + h) a (slice_ends F 4 h (joined_ends e x)) v)

  module _ (w : Application S 0 b) where
    joint_heads : Joint P q d v.f w.f out o after
    joint_heads = joined_joint e x v.f w.f (part_slice F 4 v.f v.head) (part_slice S 4 w.f w.head)

    heads_size : h ≡ 4 * size joint_heads.body
    heads_size =
        let s = size_join (pairs_of P q) d v.f w.f joint_heads.body joint_heads.is in
        omega (arith, (joined_ends e x).exact v.f (part_slice F 4 v.f v.head), s.0)

    second_argument : Part (slice S (4 + h)) 0 w.a
    second_argument =
        let s = size_join (pairs_of P q) d v.f w.f joint_heads.body joint_heads.is in
        part_slice S (4 + h) w.a (subst (λ (i : ℕ). Part S i w.a) (omega (arith, heads_size, s.1)) w.argument)

-- two constants
at_constants_lem :
    (d : ℕ) (ps : List (ℕ × ℕ)) (F S : List ℕ) (m n : ℕ) → m ≡ number_at F 0 → n ≡ number_at S 0 → get_or F 0 0 ≡ 3 → get_or S 0 0 ≡ 3
    → (a b : Term) → Part F 0 a → Part S 0 b
    → join d ps a b ≡ at_constants d ps m n
at_constants_lem d ps F S m n e f z y a b j l = ap₂ (join d ps) (constant_at F 0 m a j z e) (constant_at S 0 n b l y f)

module _ {P : List ℕ} {q : Pairs} {F S : List ℕ} {d : ℕ} where
  -- the parts of what is joined, and the room, as the length of what a writer left
  module _ {o room rest : ℕ} (s : rest ≡ room) (x : Joins P q F S d room o) (k : get_or F 0 0 ≡ get_or S 0 0) where
    pub joins_head : get_or F 0 0 ≡ 0 → Joins P q (slice F 4) (slice S 4) d rest (o + 4)
    joins_head z =
        let v = application F 0 x.tree x.part z in
        let f : NumbersFit (shift q.count d (app v.f v.a)) =
        subst (λ (a : Term). NumbersFit (shift q.count d a)) v.is x.fits in
        let p = part_slice F 4 v.f v.head in
        let w = head_slice S x.other (sym k ∙ z) in
        record {
          reads = x.reads;
          tree = v.f;
          part = p;
          other = w;
          fits = f.0;
          enough = omega (arith, ap size v.is, x.enough);
          shallow = omega (arith, ap size v.is, x.shallow);
          least = omega (arith, p.some, p.within);
          other_least = w.least;
          first = omega (arith, ap size v.is, x.enough, p.some);
          few = x.few;
          most = omega (arith, x.most);
        }

    pub joins_argument :
        {h j : ℕ} {out after : List ℕ} {r : Option ℕ} → get_or F 0 0 ≡ 0 → r ≡ Some h → Joined P q (slice F 4) (slice S 4) d out j after r
        → Joins P q (slice F (4 + h)) (slice S (4 + h)) d rest (o + (4 + h))
    joins_argument {h} {j} {out} {after} {r} z e y =
        let v = application F 0 x.tree x.part z in
        let w = application S 0 x.other.tree x.other.part (sym k ∙ z) in
        let f : NumbersFit (shift q.count d (app v.f v.a)) =
        subst (λ (a : Term). NumbersFit (shift q.count d a)) v.is x.fits in
        let m = (joined_ends e y).exact v.f (part_slice F 4 v.f v.head) in
        let p = first_argument P q F S d h j out after r e y x.tree x.other.tree v in
        let a = whole (slice S (4 + h)) 0 w.a (second_argument P q F S d h j out after r e y x.tree x.other.tree v w) in
        record {
          reads = x.reads;
          tree = v.a;
          part = p;
          other = a;
          fits = f.1;
          enough = omega (arith, ap size v.is, x.enough);
          shallow = omega (arith, ap size v.is, x.shallow);
          least = omega (arith, p.some, p.within);
          other_least = a.least;
          first = omega (arith, ap size v.is, x.enough, p.some);
          few = x.few;
          most = omega (arith, x.most);
        }

    -- where the heads end, in what is read and in what is written
    pub joined_passed :
        {h j : ℕ} {out after : List ℕ} {r : Option ℕ} → get_or F 0 0 ≡ 0 → r ≡ Some h → Joined P q (slice F 4) (slice S 4) d out j after r
        → (4 + h ≤ length F) × (4 + h ≤ length S) × (o + (4 + h) ≤ room)
    joined_passed {h} z e y =
        let w = joins_argument z e y in (
          omega (arith, w.least, slice_length F (4 + h)),
          omega (arith, w.other_least, slice_length S (4 + h)),
          omega (arith, w.first),
        )

    pub joins_body : get_or F 0 0 ≡ 1 → Joins P q (slice F 4) (slice S 4) (d + 1) rest (o + 4)
    joins_body z =
        let v = abstraction F 0 x.tree x.part z in
        let f : NumbersFit (shift q.count d (lam v.b)) = subst (λ (a : Term). NumbersFit (shift q.count d a)) v.is x.fits in
        let p = part_slice F 4 v.b v.body in
        let w = body_slice S x.other (sym k ∙ z) in
        record {
          reads = x.reads;
          tree = v.b;
          part = p;
          other = w;
          fits = subst (λ (i : ℕ). NumbersFit (shift q.count i v.b)) (sym (add-one d)) f;
          enough = omega (arith, ap size v.is, x.enough);
          shallow = omega (arith, ap size v.is, x.shallow);
          least = omega (arith, p.some, p.within);
          other_least = w.least;
          first = omega (arith, ap size v.is, x.enough, p.some);
          few = omega (arith, ap size v.is, x.shallow, p.some);
          most = omega (arith, x.most);
        }

  -- a walk over the arguments, or over the bodies, ends within the first target
  module _ {room o : ℕ} (x : Joins P q F S d room o) where
    pub near_argument :
        {h i j n : ℕ} {out p after : List ℕ} {r : Option ℕ} → get_or F 0 0 ≡ 0 → r ≡ Some h
        → Joined P q (slice F 4) (slice S 4) d out i p r → Joined P q (slice F (4 + h)) (slice S (4 + h)) d p j after (Some n)
        → 4 + h + n ≤ 4 * numbers
    unfolding JoinAnswered
    near_argument {h} {n = n} z e y w =
        let f = ends_app F 0 (4 + h) (4 + h + n) z (slice_ends F 4 h (joined_ends e y)) (slice_ends F (4 + h) n w.answers.0) in
        omega (arith, f.exact x.tree x.part, x.shallow)

    pub near_body : {j n : ℕ} {out after : List ℕ} → get_or F 0 0 ≡ 1 → Joined P q (slice F 4) (slice S 4) (d + 1) out j after (Some n)
        → 4 + n ≤ 4 * numbers
    unfolding JoinAnswered
    near_body {n = n} z y =
        omega (arith, (ends_lam F 0 (4 + n) z (slice_ends F 4 n y.answers.0)).exact x.tree x.part, x.shallow)

  pub joins_source : {room o : ℕ} → Joins P q F S d room o → Source (shift q.count) F 0 d room o
  joins_source {room} {o} x =
      source (shift q.count) F 0 d room o x.tree x.part x.fits (omega (arith, x.shallow))
      (omega (arith, x.enough, size_shift q.count d x.tree))

  -- what was written
  module _ {out : List ℕ} {o : ℕ} where
    pub joined_kinds : ¬ (get_or F 0 0 ≡ get_or S 0 0) → Joined P q F S d out o out None
    unfolding JoinAnswered
    joined_kinds n = record { answers = λ a b y z. join_kinds d (pairs_of P q) a b (λ e. n (kind_at F 0 a y ∙ e ∙ sym (kind_at S 0 b z))) }

    module _ {p m : List ℕ} {r : Option ℕ} (k : get_or F 0 0 ≡ get_or S 0 0) (z : get_or F 0 0 ≡ 0)
        (e : p ≡ sets out o (record_bytes 0 0 [])) where
      pub joined_application :
          {h : ℕ} {after : List ℕ} (s : Option ℕ) → r ≡ Some h → Joined P q (slice F 4) (slice S 4) d p (o + 4) m r
          → Joined P q (slice F (4 + h)) (slice S (4 + h)) d m (o + (4 + h)) after s → Joined P q F S d out o after (further (4 + h) s)
      unfolding JoinAnswered
      joined_application {h} {after} s f x y = go s y
        where
          go : (s : Option ℕ) → Joined P q (slice F (4 + h)) (slice S (4 + h)) d m (o + (4 + h)) after s
              → Joined P q F S d out o after (further (4 + h) s)
          go (Some i) y = record {
            answers = (
              ends_app F 0 (4 + h) (4 + h + i) z (slice_ends F 4 h (joined_ends f x)) (slice_ends F (4 + h) i y.answers.0),
              λ a b j l.
                  let v = application F 0 a j z in
                  let w = application S 0 b l (sym k ∙ z) in
                  let c = joint_heads P q F S d h (o + 4) p m r f x a b v w in
                  let g = y.answers.1 v.a w.a (first_argument P q F S d h (o + 4) p m r f x a b v)
                  (second_argument P q F S d h (o + 4) p m r f x a b v w) in
                  let n : o + (4 + h) ≡ o + length (record_bytes 0 0 (encode c.body)) =
                  omega (arith, encode_length c.body, heads_size P q F S d h (o + 4) p m r f x a b v w) in
                  record {
                    body = app c.body g.body;
                    is = ap₂ (join d (pairs_of P q)) v.is w.is ∙ ap₂ both c.is g.is;
                    bytes =
                        written_then (record_bytes 0 0 (encode c.body)) (encode g.body) out m after o (o + (4 + h))
                        (written_then (record_bytes 0 0 []) (encode c.body) out p m o (o + 4) e c.bytes refl) g.bytes n;
                  },
            );
          }
          go None y = record {
            answers = λ a b j l.
                let v = application F 0 a j z in
                let w = application S 0 b l (sym k ∙ z) in
                let c = joint_heads P q F S d h (o + 4) p m r f x a b v w in
                ap₂ (join d (pairs_of P q)) v.is w.is
                ∙ ap₂ both c.is (y.answers v.a w.a (first_argument P q F S d h (o + 4) p m r f x a b v)
                (second_argument P q F S d h (o + 4) p m r f x a b v w));
          }

      pub joined_stop : r ≡ None → Joined P q (slice F 4) (slice S 4) d p (o + 4) m r → Joined P q F S d out o m None
      unfolding JoinAnswered
      joined_stop f x = record {
        answers = λ a b j l.
            let v = application F 0 a j z in
            let w = application S 0 b l (sym k ∙ z) in
            ap₂ (join d (pairs_of P q)) v.is w.is
            ∙ ap (λ c. both c (join d (pairs_of P q) v.a w.a))
            (joined_no f x v.f w.f (part_slice F 4 v.f v.head) (part_slice S 4 w.f w.head));
      }

    pub joined_abstraction :
        {p m : List ℕ} (r : Option ℕ) → get_or F 0 0 ≡ get_or S 0 0 → get_or F 0 0 ≡ 1 → p ≡ sets out o (record_bytes 1 0 [])
        → Joined P q (slice F 4) (slice S 4) (d + 1) p (o + 4) m r → Joined P q F S d out o m (further 4 r)
    unfolding JoinAnswered
    joined_abstraction {p} {m} r k z e x = go r x
      where
        under : (a b : Term) → join d (pairs_of P q) (lam a) (lam b) ≡ below (join (d + 1) (pairs_of P q) a b)
        under a b = ap (λ (i : ℕ). below (join i (pairs_of P q) a b)) (sym (add-one d))

        go : (r : Option ℕ) → Joined P q (slice F 4) (slice S 4) (d + 1) p (o + 4) m r → Joined P q F S d out o m (further 4 r)
        go (Some h) x = record {
          answers = (
            ends_lam F 0 (4 + h) z (slice_ends F 4 h x.answers.0),
            λ a b j l.
                let v = abstraction F 0 a j z in
                let w = abstraction S 0 b l (sym k ∙ z) in
                let c = x.answers.1 v.b w.b (part_slice F 4 v.b v.body) (part_slice S 4 w.b w.body) in
                record {
                  body = lam c.body;
                  is = ap₂ (join d (pairs_of P q)) v.is w.is ∙ under v.b w.b ∙ ap below c.is;
                  bytes = written_then (record_bytes 1 0 []) (encode c.body) out p m o (o + 4) e c.bytes refl;
                },
          );
        }
        go None x = record {
          answers = λ a b j l.
              let v = abstraction F 0 a j z in
              let w = abstraction S 0 b l (sym k ∙ z) in
              ap₂ (join d (pairs_of P q)) v.is w.is ∙ under v.b w.b
              ∙ ap below (x.answers v.b w.b (part_slice F 4 v.b v.body) (part_slice S 4 w.b w.body));
        }

    -- single records
    pub joined_differ : {m n : ℕ} → m ≡ number_at F 0 → n ≡ number_at S 0 → Alike P q F S d → ¬ (m ≡ n) → Joined P q F S d out o out None
    unfolding JoinAnswered
    joined_differ e f x h = record {
      answers = λ a b j l.
          x.is a b j l
          ∙ ap (λ c. cond c (some (shift q.count d a)) none) (ne_eqb (number_at F 0) (number_at S 0) (λ i. h (e ∙ i ∙ sym f)));
    }

    pub joined_same :
        {m n room next end : ℕ} {after : List ℕ} → m ≡ number_at F 0 → n ≡ number_at S 0 → Joins P q F S d room o → Single F 0
        → Alike P q F S d → m ≡ n
        → Wrote (shift q.count) F 0 d out o after next end → Joined P q F S d out o after (Some 4)
    unfolding JoinAnswered
    joined_same e f x s y h w = record {
      answers = (
        ends_leaf F 0 s.no_application s.no_abstraction (whole F 0 x.tree x.part),
        λ a b j l. record {
          body = shift q.count d a;
          is = y.is a b j l ∙ ap (λ c. cond c (some (shift q.count d a)) none) (eq-eqb (number_at F 0) (number_at S 0) (sym e ∙ h ∙ f));
          bytes = w.bytes a j;
        },
      );
    }

    pub joined_pair :
        {m n room k : ℕ} {r : Option ℕ} {after : List ℕ} → m ≡ number_at F 0 → n ≡ number_at S 0 → get_or F 0 0 ≡ 3 → get_or S 0 0 ≡ 3
        → Joins P q F S d room o
        → Locates (pairs_of P q) m n d r → r ≡ Some k → after ≡ sets out o (record_bytes 2 k []) → Joined P q F S d out o after (Some 4)
    unfolding JoinAnswered Locates
    joined_pair {m} {n} {room} {k} e f z y x w i v =
        let s : Locates (pairs_of P q) m n d (Some k) = subst (Locates (pairs_of P q) m n d) i w in
        record {
          answers = (
            ends_leaf F 0 (λ c. omega arith) (λ c. omega arith) (whole F 0 x.tree x.part),
            λ a b j l. record { body = loc k; is = at_constants_lem d (pairs_of P q) F S m n e f z y a b j l ∙ s.0; bytes = v },
          );
        }

  pub alike_constants :
      {m n : ℕ} {r : Option ℕ} → m ≡ number_at F 0 → n ≡ number_at S 0 → get_or F 0 0 ≡ 3 → get_or S 0 0 ≡ 3
      → Locates (pairs_of P q) m n d r
      → r ≡ None → Alike P q F S d
  alike_constants {m} {n} {r} e f z y w i = record {
    is = λ a b j l.
        at_constants_lem d (pairs_of P q) F S m n e f z y a b j l
        ∙ constants_other d (pairs_of P q) m n (located_nothing (pairs_of P q) m n d r w i)
        ∙ ap₂ (λ (x y : ℕ). cond (eqb x y) (some (con m)) none) e f
        ∙ ap (λ (c : Term). cond (eqb (number_at F 0) (number_at S 0)) (some (shift q.count d c)) none) (sym (constant_at F 0 m a j z e));
  }

  pub alike_other : get_or F 0 0 ≡ get_or S 0 0 → ¬ (get_or F 0 0 ≡ 0) → ¬ (get_or F 0 0 ≡ 1) → ¬ (get_or F 0 0 ≡ 3) → Alike P q F S d
  alike_other k x y z = record {
    is = λ a b j l.
        let e = kind_at F 0 a j in
        join_leaf d q.count (pairs_of P q) a b (count_length P q) (sym e ∙ k ∙ kind_at S 0 b l) (λ i. x (e ∙ i))
        (λ i. y (e ∙ i)) (λ i. z (e ∙ i))
        ∙ ap₂ (λ (m n : ℕ). cond (eqb m n) (some (shift q.count d a)) none) (sym (number_at_lem F 0 a j)) (sym (number_at_lem S 0 b l));
  }

pub local_fits : (ps : List (ℕ × ℕ)) (m n d k : ℕ) (r : Option ℕ) → Locates ps m n d r → r ≡ Some k → d + pattern_records + 1 ≤ numbers
    → k < numbers
unfolding Locates
local_fits ps m n d k r x e h = let y : Locates ps m n d (Some k) = subst (Locates ps m n d) e x in omega (arith, y.1)

-- no abstraction is left
pub enclosed_none : {b out after : List ℕ} {n o : ℕ} → n ≡ 0 → after ≡ sets out o b → Enclosed b n out o after (o + length b)
enclosed_none {b} {out} {after} {n} {o} e w = subst (λ (i : ℕ). Enclosed b i out o after (o + length b)) (sym e) (record {
  end = λ t f. omega (arith, table_length b t f);
  bytes = λ t f. w ∙ ap (sets out o) f;
  most = omega arith;
  more = omega arith;
})

-- one abstraction more
module _ {b : List ℕ} {n room o : ℕ} (x : Encloses b n room o) (s : ¬ (n ≡ 0)) where
  contracted_closed : Closed (x.depth + (n - 1)) (contract (lam x.body))
  contracted_closed = closed_contract (x.depth + (n - 1)) x.body (subst (λ (i : ℕ). Closed i x.body) (omega (arith, s)) x.closed)

  pub encloses_abstracted : SweptBody b
  encloses_abstracted = record {
    body = x.body;
    bytes = x.bytes;
    least = x.least;
    most = omega (arith, x.most);
    depth = x.depth + (n - 1);
    shallow = omega (arith, x.shallow);
    closed = contracted_closed;
  }

  module _ (out p : List ℕ) (r : Option ℕ) (y : ContractsAbstraction b out r p) (l : length out ≡ swept_bytes) where
    pub never_long : r ≡ None → ⊥
    unfolding WrittenForm
    never_long e =
        let w : WrittenForm (contract (lam x.body)) out None p =
        subst (λ (i : Option ℕ). WrittenForm (contract (lam x.body)) out i p) e (y x.body x.bytes) in
        omega (arith, w.0, size_contract x.body, table_length b x.body x.bytes, x.most, s)

    module _ (m : ℕ) (e : r ≡ Some m) where
      result : (t : Term) → b ≡ encode t → WrittenForm (contract (lam t)) out (Some m) p
      result t f = subst (λ (i : Option ℕ). WrittenForm (contract (lam t)) out i p) e (y t f)

      contracted : (t : Term) → b ≡ encode t → take (m * 4 - 0) (drop 0 p) ≡ encode (contract (lam t))
      unfolding WrittenForm
      contracted t f =
          let w = result t f in
          stored out p (encode (contract (lam t))) (m * 4) w.2 (omega (arith, w.0, encode_length (contract (lam t))))
          (omega (arith, w.1))

      pub contracted_few : m ≤ swept_records
      unfolding WrittenForm
      contracted_few = (result x.body x.bytes).1

      pub contracted_within : m * 4 ≤ length p
      unfolding WrittenForm
      contracted_within =
          let w = result x.body x.bytes in
          omega (arith, w.1, ap length w.2, length-sets out 0 (encode (contract (lam x.body))))

      pub encloses_next : {rest : ℕ} → rest ≡ room → Encloses (take (m * 4 - 0) (drop 0 p)) (n - 1) rest o
      encloses_next g =
          let f = contracted x.body x.bytes in
          let h = table_length (take (m * 4 - 0) (drop 0 p)) (contract (lam x.body)) f in
          let i = table_length b x.body x.bytes in
          record {
            body = contract (lam x.body);
            bytes = f;
            least = omega (arith, size_pos (contract (lam x.body)));
            most = omega (arith, size_contract x.body, x.most, s);
            depth = x.depth;
            shallow = omega (arith, x.shallow);
            closed = contracted_closed;
            enough = omega (arith, size_contract x.body, x.enough, s);
          }

      pub enclosed_next : {W after : List ℕ} {k : ℕ} → Enclosed (take (m * 4 - 0) (drop 0 p)) (n - 1) W o after k → Enclosed b n W o after k
      enclosed_next {W} {after} {k} w =
          let g : n ≡ suc (n - 1) = omega (arith, s) in
          let h = table_length (take (m * 4 - 0) (drop 0 p)) (contract (lam x.body)) (contracted x.body x.bytes) in
          subst (λ (i : ℕ). Enclosed b i W o after k) (sym g) (record {
            end = λ t f. w.end (contract (lam t)) (contracted t f);
            bytes = λ t f. w.bytes (contract (lam t)) (contracted t f);
            most = omega (arith, w.most, size_contract x.body, table_length b x.body x.bytes, s);
            more = w.more;
          })
