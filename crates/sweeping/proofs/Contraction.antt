-- Contracting an application or an abstraction with swept parts: what is written is its contracted form, whose size is known beforehand.
-- By the test that the code makes, which is the definition's. Assumes nothing.
use mathlib.Core.Path.{◌≡◌, refl, sym, ap, ap₂, ◌∙◌, subst}
use mathlib.Core.Bool.{Bool, true, false, not, ◌&&◌}
use mathlib.Core.List.{List, [], ◌++◌}
use Prim.Native.Nat.{ℕ, zero, suc, ◌+◌, ◌-◌, ◌*◌, ◌/◌, ◌≤◌, ◌<◌}
use native.Mathlib.Omega.{arith}
use native.Mathlib.Nat.{mul-le-mul, mul_left_comm}
use lib.Dec.{T, eqb}
use lib.ListN.{length, get_or}
use lib.Seq.{sets}
use borrow.Author.Tests.{ne_eqb, eq-eqb}
use Rattle.std.specs.declared.option.Option.TheVariants.{Some, None}
use Rattle.terms.specs.Figures.{numbers, swept_records}
use Rattle.terms.specs.Term.{Term, app, lam, loc, con, var, size, Closed, uses, substitute, unshift, is_abstraction, is_innermost, is_eta}
use Rattle.terms.specs.Sweep.{contract, head_of}
use Rattle.terms.specs.Table.{record_bytes, encode}
use Rattle.terms.proofs.Tests.{not_both}
use Rattle.terms.proofs.Shift.{shift_unshift, size_shift}
use Rattle.terms.proofs.Substitute.{substitute_unused, size_pos}
use Rattle.terms.proofs.Sweep.{contract_app}
use Rattle.terms.proofs.Contracted.{is_proper, Abstracted as Contracting, Abstracted.out as moves, Abstracted.kept as stays, abstracted}
use Rattle.terms.proofs.Table.{encode_length}
use Rattle.records.specs.Record.{number_at}
use Rattle.records.specs.Parts.{slice, Part, Whole}
use Rattle.records.proofs.Parts.{whole, kind_at, at_start, Application, application, abstraction, argument_part}
use Rattle.records.proofs.Slices.{part_slice, slice_ends, whole_slice}
use Rattle.substitution.specs.Writers.{substitute_for, count, NumbersFit, Wrote, Substitution, UsesCounted}
use Rattle.sweeping.specs.Swept.{swept_bytes, WrittenForm, SweptParts, ContractsApplication, SweptBody, ContractsAbstraction}
use Rattle.copying.proofs.Stores.{written_then}
use Rattle.substitution.proofs.Writers.{source, local_at}
use Rattle.substitution.proofs.Counts.{count_none, count_some, size_replaced}

-- the two answers
pub form_written : (t : Term) (out after : List ℕ) (n : ℕ) → 4 * n ≡ 4 * size t → n ≤ swept_records → after ≡ sets out 0 (encode t)
    → WrittenForm t out (Some n) after
unfolding WrittenForm
form_written t out after n e h b = (omega arith, h, b)

pub form_too_long : (t : Term) (out : List ℕ) → swept_records < size t → WrittenForm t out None out
unfolding WrittenForm
form_too_long t out h = (h, refl)

-- few binders, so that the locals' numbers fit
pub closed_fits : (d : ℕ) (t : Term) → Closed d t → d + size t ≤ numbers → NumbersFit t
closed_fits d (app f a) c h = (closed_fits d f c.0 (omega arith), closed_fits d a c.1 (omega arith))
closed_fits d (lam b) c h = closed_fits (suc d) b c (omega arith)
closed_fits d (loc n) c h = omega (arith, c)
closed_fits d (con n) c h = tt
closed_fits d (var n) c h = tt

pub table_length : (l : List ℕ) (t : Term) → l ≡ encode t → length l ≡ 4 * size t
table_length l t e = ap length e ∙ encode_length t

-- an application's record, its head and its argument, written one behind another
pub application_bytes : (f a out p q r : List ℕ) → p ≡ sets out 0 (record_bytes 0 0 []) → q ≡ sets p 4 f → r ≡ sets q (4 + length f) a
    → (x y : Term) → f ≡ encode x → a ≡ encode y → r ≡ sets out 0 (encode (app x y))
application_bytes f a out p q r u v w x y e g =
    written_then (record_bytes 0 0 f) a out q r 0 (4 + length f) (written_then (record_bytes 0 0 []) f out p q 0 4 u v refl) w (omega arith)
    ∙ ap₂ (λ (i j : List ℕ). sets out 0 (record_bytes 0 0 (i ++ j))) e g

-- an application whose head is no abstraction
not_abstraction : (l : List ℕ) (t : Term) → l ≡ encode t → ¬ (get_or l 0 0 ≡ 1) → T (not (is_abstraction t))
not_abstraction l (app f a) e n = tt
not_abstraction l (lam b) e n = n (kind_at l 0 (lam b) (at_start l (lam b) e))
not_abstraction l (loc m) e n = tt
not_abstraction l (con m) e n = tt
not_abstraction l (var m) e n = tt

module _ (f a out : List ℕ) (n : ¬ (get_or f 0 0 ≡ 1)) where
  pub applied_too_long : swept_bytes < 4 + length f + length a → ContractsApplication f a out None out
  applied_too_long h x y e g =
      rw (contract_app x y (not_abstraction f x e n)) (form_too_long (app x y) out (omega (arith, table_length f x e, table_length a y g)))

  pub applied_written : (p q r : List ℕ) → 4 + length f + length a ≤ swept_bytes → p ≡ sets out 0 (record_bytes 0 0 []) → q ≡ sets p 4 f
      → r ≡ sets q (4 + length f) a → ContractsApplication f a out (Some ((4 + length f + length a) / 4)) r
  applied_written p q r h u v w x y e g =
      rw (contract_app x y (not_abstraction f x e n))
      (form_written (app x y) out r ((4 + length f + length a) / 4) (omega (arith, table_length f x e, table_length a y g)) (omega arith)
      (application_bytes f a out p q r u v w x y e g))

-- the abstraction's body is a part of its table
pub redex_whole : (f : List ℕ) (x : Term) → f ≡ encode x → get_or f 0 0 ≡ 1 → Whole (slice f 4) 0
redex_whole f x e z = let v = abstraction f 0 x (at_start f x e) z in whole_slice f 4 (whole f 4 v.b v.body)

module _ (f a : List ℕ) (z : get_or f 0 0 ≡ 1) (next n : ℕ) (u : UsesCounted (slice f 4) 0 next n) where
  pub redex_size : (x y : Term) → f ≡ encode x → a ≡ encode y → length f - 4 + n * (length a - 4) ≡ 4 * size (contract (app x y))
  redex_size x y e g = go (size y) refl
    where
      go : (m : ℕ) → size y ≡ m → length f - 4 + n * (length a - 4) ≡ 4 * size (contract (app x y))
      go zero s = absurd (omega (arith, size_pos y))
      go (suc m) s =
          let v = abstraction f 0 x (at_start f x e) z in
          let c : n ≡ count 0 v.b = u.exact v.b (part_slice f 4 v.b v.body) in
          let k : size (contract (app x y)) ≡ size v.b + n * m =
          ap (λ (t : Term). size (contract (app t y))) v.is ∙ size_replaced m 0 y v.b s
          ∙ ap (λ (i : ℕ). size v.b + i * m) (sym c) in
          let l : length a - 4 ≡ 4 * m = omega (arith, table_length a y g) in
          let j : n * (length a - 4) ≡ 4 * (n * m) = ap (λ (i : ℕ). n * i) l ∙ mul_left_comm n 4 m in
          omega (arith, table_length f x e, ap size v.is)

  pub redex_too_long : (out : List ℕ) → swept_bytes < length f - 4 + n * (length a - 4) → ContractsApplication f a out None out
  redex_too_long out h x y e g = form_too_long (contract (app x y)) out (omega (arith, redex_size x y e g))

  pub redex_substitution : (out : List ℕ) → SweptParts f a → length f - 4 + n * (length a - 4) ≤ length out
      → length f - 4 + n * (length a - 4) ≤ swept_bytes → Substitution (slice f 4) 0 a out 0
  redex_substitution out x h m =
      let e = x.head_bytes in
      let g = x.argument_bytes in
      let v = abstraction f 0 x.head (at_start f x.head e) z in
      let s = redex_size x.head x.argument e g in
      let q : contract (app x.head x.argument) ≡ substitute 0 x.argument v.b =
      ap (λ (t : Term). contract (app t x.argument)) v.is in
      let i : size (contract (app x.head x.argument)) ≤ swept_records = omega arith in
      record {
        argument = x.argument;
        table = g;
        few = omega (arith, table_length a x.argument g, x.argument_most);
        source = source (substitute_for x.argument) (slice f 4) 0 0 (length out) 0 v.b (part_slice f 4 v.b v.body)
            (subst NumbersFit q (closed_fits x.depth (contract (app x.head x.argument)) x.closed (omega (arith, x.shallow))))
            (omega (arith, table_length f x.head e, ap size v.is, x.head_most)) (omega (arith, ap size q));
      }

  pub redex_bytes : (out after : List ℕ) (to end : ℕ)
      → ((t : Term) → a ≡ encode t → Wrote (substitute_for t) (slice f 4) 0 0 out 0 after to end)
      → (x y : Term) → f ≡ encode x → a ≡ encode y → after ≡ sets out 0 (encode (contract (app x y)))
  redex_bytes out after to end w x y e g =
      let v = abstraction f 0 x (at_start f x e) z in
      (w y g).bytes v.b (part_slice f 4 v.b v.body) ∙ ap (λ (t : Term). sets out 0 (encode (contract (app t y)))) (sym v.is)

  pub redex_written : (out after : List ℕ) (to end : ℕ) → length f - 4 + n * (length a - 4) ≤ swept_bytes
      → ((t : Term) → a ≡ encode t → Wrote (substitute_for t) (slice f 4) 0 0 out 0 after to end)
      → ContractsApplication f a out (Some ((length f - 4 + n * (length a - 4)) / 4)) after
  redex_written out after to end m w x y e g =
      let s = redex_size x y e g in
      form_written (contract (app x y)) out after ((length f - 4 + n * (length a - 4)) / 4) (omega arith) (omega arith)
      (redex_bytes out after to end w x y e g)

-- the test for an abstraction's contraction, step by step
pub no_application : (b : List ℕ) → ¬ (get_or b 0 0 ≡ 0) → (t : Term) → b ≡ encode t → false ≡ is_proper t
no_application b n (app f a) e = absurd (n (kind_at b 0 (app f a) (at_start b (app f a) e)))
no_application b n (lam c) e = refl
no_application b n (loc m) e = refl
no_application b n (con m) e = refl
no_application b n (var m) e = refl

is_none : (l : List ℕ) (at : ℕ) (t : Term) → Part l at t → ¬ (get_or l at 0 ≡ 1) → is_abstraction t ≡ false
is_none l at (app f a) x n = refl
is_none l at (lam b) x n = absurd (n (kind_at l at (lam b) x))
is_none l at (loc m) x n = refl
is_none l at (con m) x n = refl
is_none l at (var m) x n = refl

no_innermost : (l : List ℕ) (at : ℕ) (t : Term) → Part l at t → ¬ (get_or l at 0 ≡ 2) → is_innermost t ≡ false
no_innermost l at (app f a) x n = refl
no_innermost l at (lam b) x n = refl
no_innermost l at (loc m) x n = absurd (n (kind_at l at (loc m) x))
no_innermost l at (con m) x n = refl
no_innermost l at (var m) x n = refl

module _ (b : List ℕ) (z : get_or b 0 0 ≡ 0) where
  pub body_whole : (x : SweptBody b) → Whole (slice b 4) 0
  body_whole x = let v = application b 0 x.body (at_start b x.body x.bytes) z in whole_slice b 4 (whole b 4 v.f v.head)

  module _ (h n : ℕ) (u : UsesCounted (slice b 4) 0 h n) where
    argument : (t : Term) (v : Application b 0 t) → Part (slice b (4 + h)) 0 v.a
    argument t v = part_slice b (4 + h) v.a (argument_part b 0 (4 + h) t (slice_ends b 4 h u.ends) v)

    pub body_argument_whole : (x : SweptBody b) → Whole (slice b (4 + h)) 0
    body_argument_whole x =
        let v = application b 0 x.body (at_start b x.body x.bytes) z in
        whole (slice b (4 + h)) 0 v.a (argument x.body v)

    pub argument_no_local : ¬ (get_or (slice b (4 + h)) 0 0 ≡ 2) → (t : Term) → b ≡ encode t → false ≡ is_proper t
    argument_no_local k t e =
        let v = application b 0 t (at_start b t e) z in
        rw (v.is, no_innermost (slice b (4 + h)) 0 v.a (argument t v) k)

    module _ (k : get_or (slice b (4 + h)) 0 0 ≡ 2) (m : ℕ) (i : m ≡ number_at (slice b (4 + h)) 0) where
      is_local_lem : (t : Term) (v : Application b 0 t) → v.a ≡ loc m
      is_local_lem t v = local_at (slice b (4 + h)) 0 m v.a (argument t v) k i

      pub argument_outer : ¬ (m ≡ 0) → (t : Term) → b ≡ encode t → false ≡ is_proper t
      argument_outer o t e =
          let v = application b 0 t (at_start b t e) z in
          rw (v.is, is_local_lem t v, ne_eqb m 0 o)

      pub counted_uses : m ≡ 0 → ¬ (get_or b 4 0 ≡ 1) → (t : Term) → b ≡ encode t → eqb n 0 ≡ is_proper t
      counted_uses o j t e =
          let v = application b 0 t (at_start b t e) z in
          rw (v.is, is_local_lem t v, eq-eqb m 0 o, is_none b 4 v.f v.head j)
          (go v.f n (u.exact v.f (part_slice b 4 v.f v.head)))
        where
          go : (s : Term) (l : ℕ) → l ≡ count 0 s → eqb l 0 ≡ (not (uses 0 s) && true)
          go s zero q = rw (count_none 0 s (sym q))
          go s (suc l) q = rw (count_some 0 s (λ p. omega arith)) (ne_eqb (suc l) 0 (λ p. omega arith))

-- an abstraction that contracts: M moves out, and nothing is put for the local that it doesn't use
record Proper (t : Term) : Type 0 where
  m : Term
  is : t ≡ app m (loc 0)
  moved : (e : Term) → contract (lam t) ≡ substitute 0 e m
  smaller : size (contract (lam t)) + 2 ≡ size t

proper : (t : Term) → is_proper t ≡ true → Proper t
proper t o = go (abstracted t)
  where
    go : Contracting t → Proper t
    go (moves m e u l w) =
        let q : (x : Term) → contract (lam t) ≡ substitute 0 x m = λ x. w ∙ sym (substitute_unused 0 x m u) in
        record {
          m = m;
          is = e;
          moved = q;
          smaller = omega (arith, ap size w, ap size e, ap size (shift_unshift 0 m u), size_shift 1 0 (unshift 1 0 m));
        }
    go (stays p w) = not_both (is_proper t) o p

module _ (b : List ℕ) (r : Bool) (test : (t : Term) → b ≡ encode t → r ≡ is_proper t) where
  module _ (yes : r ≡ true) where
    at_term : (t : Term) → b ≡ encode t → Proper t
    at_term t e = proper t (sym (test t e) ∙ yes)

    -- M is a part of the body's table
    part : (t : Term) (e : b ≡ encode t) → Part (slice b 4) 0 (at_term t e).m
    part t e =
        let x = at_term t e in
        let v = application b 0 (app x.m (loc 0)) (at_start b (app x.m (loc 0)) (e ∙ ap encode x.is))
        (ap (λ (l : List ℕ). get_or l 0 0) (e ∙ ap encode x.is)) in
        part_slice b 4 x.m (subst (Part b 4) (ap head_of (sym v.is)) v.head)

    pub eta_substitution : (out : List ℕ) → SweptBody b → length out ≡ swept_bytes → Substitution (slice b 4) 0 b out 0
    eta_substitution out x h =
        let y = at_term x.body x.bytes in
        let q = y.moved x.body in
        let n = table_length b x.body x.bytes in
        record {
          argument = x.body;
          table = x.bytes;
          few = omega (arith, x.most);
          source = source (substitute_for x.body) (slice b 4) 0 0 (length out) 0 y.m (part x.body x.bytes)
              (subst NumbersFit q
              (closed_fits x.depth (contract (lam x.body)) x.closed (omega (arith, x.most, x.shallow, y.smaller))))
              (omega (arith, x.most, ap size y.is)) (omega (arith, x.most, y.smaller, ap size q));
        }

    pub eta_written : (out after : List ℕ) (to end : ℕ) → length b ≤ swept_bytes
        → ((t : Term) → b ≡ encode t → Wrote (substitute_for t) (slice b 4) 0 0 out 0 after to end)
        → ContractsAbstraction b out (Some (end / 4)) after
    eta_written out after to end h w t e =
        let y = at_term t e in
        let q = y.moved t in
        form_written (contract (lam t)) out after (end / 4) (omega (arith, (w t e).exact y.m (part t e), ap size q))
        (omega (arith, (w t e).exact y.m (part t e), ap size q, y.smaller, table_length b t e))
        ((w t e).bytes y.m (part t e) ∙ ap (λ (x : Term). sets out 0 (encode x)) (sym q))

  module _ (no : r ≡ false) where
    kept : (t : Term) → b ≡ encode t → contract (lam t) ≡ lam t
    kept t e = rw (sym (test t e) ∙ no)

    pub abstracted_too_long : (out : List ℕ) → swept_bytes < 4 + length b → ContractsAbstraction b out None out
    abstracted_too_long out h t e = rw (kept t e) (form_too_long (lam t) out (omega (arith, table_length b t e)))

    pub abstracted_written : (out p q : List ℕ) → 4 + length b ≤ swept_bytes → p ≡ sets out 0 (record_bytes 1 0 []) → q ≡ sets p 4 b
        → ContractsAbstraction b out (Some ((4 + length b) / 4)) q
    abstracted_written out p q h u v t e =
        rw (kept t e)
        (form_written (lam t) out q ((4 + length b) / 4) (omega (arith, table_length b t e)) (omega arith)
        (written_then (record_bytes 1 0 []) b out p q 0 4 u v refl ∙ ap (λ (l : List ℕ). sets out 0 (record_bytes 1 0 l)) e))
