-- Writing a changed term: what the parts of a source are, and what was written for a term when its parts were. By the term's kind, which
-- its first record shows; the laws hold of every change that follows the binders. Assumes nothing.
use mathlib.Core.Path.{◌≡◌, refl, sym, ap, ◌∙◌, subst}
use mathlib.Core.List.{List, []}
use Prim.Native.Nat.{ℕ, suc, ◌+◌, ◌-◌, ◌*◌, ◌≤◌, ◌<◌}
use native.Mathlib.Omega.{arith}
use native.Mathlib.Numerals.{add-one}
use lib.ListN.{length, get_or, take, drop}
use lib.Seq.{sets}
use Rattle.terms.specs.Figures.{numbers}
use Rattle.terms.specs.Term.{Term, app, lam, loc, con, var, size, shift}
use Rattle.terms.specs.Table.{record_bytes, encode}
use Rattle.terms.proofs.Shift.{shift_low, shift_high}
use Rattle.terms.proofs.Substitute.{substitute_here, substitute_low, substitute_high, size_pos}
use Rattle.terms.proofs.Table.{encode_length}
use Rattle.records.specs.Record.{number_at}
use Rattle.records.specs.Parts.{slice, Part, Whole}
use Rattle.records.proofs.Parts.{whole, part_bytes, kind_at, number_at_lem, at_start, application, abstraction, argument_part}
use Rattle.records.proofs.Parts.{leaf_size, ends_app, ends_lam, ends_leaf}
use Rattle.records.proofs.Slices.{part_slice, slice_ends}
use Rattle.substitution.specs.Writers.{substitute_for, NumbersFit, Source, Wrote, Substitution}
use Rattle.copying.proofs.Stores.{written_then}

-- a change that follows the binders
pub record Change (g : ℕ → Term → Term) : Type 0 where
  pub application : (k : ℕ) (f a : Term) → g k (app f a) ≡ app (g k f) (g k a)
  pub abstraction : (k : ℕ) (b : Term) → g k (lam b) ≡ lam (g (suc k) b)
  pub constant : (k n : ℕ) → g k (con n) ≡ con n
  pub variable : (k n : ℕ) → g k (var n) ≡ var n

pub shifts : (d : ℕ) → Change (shift d)
shifts d = record { application = λ k f a. refl; abstraction = λ k b. refl; constant = λ k n. refl; variable = λ k n. refl }

pub replaces : (e : Term) → Change (substitute_for e)
replaces e = record { application = λ k f a. refl; abstraction = λ k b. refl; constant = λ k n. refl; variable = λ k n. refl }

pub source : (g : ℕ → Term → Term) (l : List ℕ) (at k room o : ℕ) (t : Term) → Part l at t → NumbersFit (g k t) → k + size t ≤ numbers
    → o + 4 * size (g k t) ≤ room → Source g l at k room o
source g l at k room o t x f s e = record {
  tree = t;
  part = x;
  fits = f;
  shallow = s;
  enough = e;
  least = omega (arith, x.some, x.within);
  first = omega (arith, size_pos (g k t));
}

-- a part handed on as a slice, and what was written for it
module _ (g : ℕ → Term → Term) (l : List ℕ) (n k : ℕ) where
  pub source_slice : (room o : ℕ) → Source g l n k room o → Source g (slice l n) 0 k room o
  source_slice room o x =
      source g (slice l n) 0 k room o x.tree (part_slice l n x.tree x.part) x.fits x.shallow x.enough

  pub slice_wrote : (out : List ℕ) (o : ℕ) (after : List ℕ) (r end : ℕ) → Wrote g (slice l n) 0 k out o after r end
      → Wrote g l n k out o after (n + r) end
  slice_wrote out o after r end w = record {
    ends = slice_ends l n r w.ends;
    exact = λ t x. w.exact t (part_slice l n t x);
    bytes = λ t x. w.bytes t (part_slice l n t x);
  }

-- a local, and what is neither application, abstraction nor local
pub local_at : (l : List ℕ) (at n : ℕ) (t : Term) → Part l at t → get_or l at 0 ≡ 2 → n ≡ number_at l at → t ≡ loc n
local_at l at n (loc m) x k e = ap loc (sym (e ∙ number_at_lem l at (loc m) x))
local_at l at n (app f a) x k e = absurd (omega (arith, kind_at l at (app f a) x))
local_at l at n (lam b) x k e = absurd (omega (arith, kind_at l at (lam b) x))
local_at l at n (con m) x k e = absurd (omega (arith, kind_at l at (con m) x))
local_at l at n (var m) x k e = absurd (omega (arith, kind_at l at (var m) x))

pub record Other (l : List ℕ) (at : ℕ) : Type 0 where
  pub no_application : ¬ (get_or l at 0 ≡ 0)
  pub no_abstraction : ¬ (get_or l at 0 ≡ 1)
  pub no_local : ¬ (get_or l at 0 ≡ 2)

pub by_other : (P : Term → Type 0) (l : List ℕ) (at : ℕ) → Other l at → ((n : ℕ) → Part l at (con n) → P (con n))
    → ((n : ℕ) → Part l at (var n) → P (var n)) → (t : Term) → Part l at t → P t
by_other P l at h c v (app f a) x = absurd (h.no_application (kind_at l at (app f a) x))
by_other P l at h c v (lam b) x = absurd (h.no_abstraction (kind_at l at (lam b) x))
by_other P l at h c v (loc n) x = absurd (h.no_local (kind_at l at (loc n) x))
by_other P l at h c v (con n) x = c n x
by_other P l at h c v (var n) x = v n x

module _ (g : ℕ → Term → Term) (change : Change g) (l : List ℕ) (at k : ℕ) where
  -- what was written
  module _ (out : List ℕ) (o : ℕ) where
    pub wrote_application : (p q r : List ℕ) (h m next end : ℕ) → get_or l at 0 ≡ 0 → p ≡ sets out o (record_bytes 0 0 [])
        → Wrote g l (at + 4) k p (o + 4) q h m → Wrote g l h k q m r next end → Wrote g l at k out o r next end
    wrote_application p q r h m next end z e x y = record {
      ends = ends_app l at h next z x.ends y.ends;
      exact = λ t w. (go t w).0;
      bytes = λ t w. (go t w).1;
    }
      where
        go : (t : Term) → Part l at t → (end ≡ o + 4 * size (g k t)) × (r ≡ sets out o (encode (g k t)))
        go t w =
            let v = application l at t w z in
            let a = argument_part l at h t x.ends v in
            let u : g k t ≡ app (g k v.f) (g k v.a) = ap (g k) v.is ∙ change.application k v.f v.a in
            let i = x.exact v.f v.head in
            let j = y.exact v.a a in
            let n : m ≡ o + length (record_bytes 0 0 (encode (g k v.f))) = omega (arith, encode_length (g k v.f)) in
            let b = written_then (record_bytes 0 0 []) (encode (g k v.f)) out p q o (o + 4) e (x.bytes v.f v.head) refl in
            rw u (
              omega arith,
              written_then (record_bytes 0 0 (encode (g k v.f))) (encode (g k v.a)) out q r o m b
                  (y.bytes v.a a) n,
            )

    pub wrote_abstraction : (p q : List ℕ) (next end : ℕ) → get_or l at 0 ≡ 1 → p ≡ sets out o (record_bytes 1 0 [])
        → Wrote g l (at + 4) (k + 1) p (o + 4) q next end → Wrote g l at k out o q next end
    wrote_abstraction p q next end z e x = record {
      ends = ends_lam l at next z x.ends;
      exact = λ t w. (go t w).0;
      bytes = λ t w. (go t w).1;
    }
      where
        go : (t : Term) → Part l at t → (end ≡ o + 4 * size (g k t)) × (q ≡ sets out o (encode (g k t)))
        go t w =
            let v = abstraction l at t w z in
            let u : g k t ≡ lam (g (k + 1) v.b) =
            ap (g k) v.is ∙ change.abstraction k v.b ∙ ap (λ (j : ℕ). lam (g j v.b)) (sym (add-one k)) in
            let i = x.exact v.b v.body in
            rw u (
              omega arith,
              written_then (record_bytes 1 0 []) (encode (g (k + 1) v.b)) out p q o (o + 4) e
                  (x.bytes v.b v.body) refl,
            )

    pub wrote_local : (p : List ℕ) (n end : ℕ) (u : Term) → Whole l at → get_or l at 0 ≡ 2 → n ≡ number_at l at → u ≡ g k (loc n)
        → p ≡ sets out o (encode u) → end ≡ o + 4 * size u → Wrote g l at k out o p (at + 4) end
    wrote_local p n end u x z e f b s = record {
      ends = ends_leaf l at (λ q. omega arith) (λ q. omega arith) x;
      exact = λ t w. s ∙ ap (λ (y : Term). o + 4 * size y) (is t w);
      bytes = λ t w. b ∙ ap (λ (y : Term). sets out o (encode y)) (is t w);
    }
      where
        is : (t : Term) → Part l at t → u ≡ g k t
        is t w = f ∙ ap (g k) (sym (local_at l at n t w z e))

    -- a record that is written as it is
    kept : (p : List ℕ) → Whole l at → Other l at → ((t : Term) → Part l at t → p ≡ sets out o (encode t))
        → Wrote g l at k out o p (at + 4) (o + 4)
    kept p x z b = record {
      ends = ends_leaf l at z.no_application z.no_abstraction x;
      exact = λ t w. (is t w).0;
      bytes = λ t w. (is t w).1;
    }
      where
        is : (t : Term) → Part l at t → (o + 4 ≡ o + 4 * size (g k t)) × (p ≡ sets out o (encode (g k t)))
        is = by_other (λ t. (o + 4 ≡ o + 4 * size (g k t)) × (p ≡ sets out o (encode (g k t)))) l at z
            (λ m w. rw (change.constant k m) (omega arith, b (con m) w))
            (λ m w. rw (change.variable k m) (omega arith, b (var m) w))

-- a part that l begins with, and its parts as slices
module _ (g : ℕ → Term → Term) (change : Change g) (l : List ℕ) (k : ℕ) where
  -- the parts of a source, with the same room as the length of what a writer left
  module _ (room o : ℕ) (x : Source g l 0 k room o) where
    pub source_whole : Whole l 0
    source_whole = whole l 0 x.tree x.part

    module _ (rest : ℕ) (same : rest ≡ room) where
      pub source_head : get_or l 0 0 ≡ 0 → Source g (slice l 4) 0 k rest (o + 4)
      source_head z =
          let v = application l 0 x.tree x.part z in
          let e : g k x.tree ≡ app (g k v.f) (g k v.a) = ap (g k) v.is ∙ change.application k v.f v.a in
          let f : NumbersFit (app (g k v.f) (g k v.a)) = subst NumbersFit e x.fits in
          source_slice g l 4 k rest (o + 4)
          (source g l 4 k rest (o + 4) v.f v.head f.0 (omega (arith, ap size v.is, x.shallow))
          (omega (arith, ap size e, x.enough)))

      pub source_argument : (out p : List ℕ) (h m : ℕ) → get_or l 0 0 ≡ 0 → Wrote g (slice l 4) 0 k out (o + 4) p h m
          → Source g (slice l (4 + h)) 0 k rest m
      source_argument out p h m z w =
          let v = application l 0 x.tree x.part z in
          let e : g k x.tree ≡ app (g k v.f) (g k v.a) = ap (g k) v.is ∙ change.application k v.f v.a in
          let f : NumbersFit (app (g k v.f) (g k v.a)) = subst NumbersFit e x.fits in
          let y = slice_wrote g l 4 k out (o + 4) p h m w in
          source_slice g l (4 + h) k rest m
          (source g l (4 + h) k rest m v.a (argument_part l 0 (4 + h) x.tree y.ends v) f.1
          (omega (arith, ap size v.is, x.shallow)) (omega (arith, ap size e, x.enough, y.exact v.f v.head)))

      pub source_body : get_or l 0 0 ≡ 1 → Source g (slice l 4) 0 (k + 1) rest (o + 4)
      source_body z =
          let v = abstraction l 0 x.tree x.part z in
          let e : g k x.tree ≡ lam (g (k + 1) v.b) =
          ap (g k) v.is ∙ change.abstraction k v.b ∙ ap (λ (j : ℕ). lam (g j v.b)) (sym (add-one k)) in
          source_slice g l 4 (k + 1) rest (o + 4)
          (source g l 4 (k + 1) rest (o + 4) v.b v.body (subst NumbersFit e x.fits) (omega (arith, ap size v.is, x.shallow))
          (omega (arith, ap size e, x.enough)))

    pub source_local : (n : ℕ) → get_or l 0 0 ≡ 2 → n ≡ number_at l 0 → NumbersFit (g k (loc n))
    source_local n z e = subst (λ (t : Term). NumbersFit (g k t)) (local_at l 0 n x.tree x.part z e) x.fits

    pub source_enough : (n : ℕ) → get_or l 0 0 ≡ 2 → n ≡ number_at l 0 → o + 4 * size (g k (loc n)) ≤ room
    source_enough n z e = subst (λ (t : Term). o + 4 * size (g k t) ≤ room) (local_at l 0 n x.tree x.part z e) x.enough

  -- what was written
  module _ (out : List ℕ) (o : ℕ) where
    pub wrote_parts : (p q r : List ℕ) (h m next end : ℕ) → get_or l 0 0 ≡ 0 → p ≡ sets out o (record_bytes 0 0 [])
        → Wrote g (slice l 4) 0 k p (o + 4) q h m → Wrote g (slice l (4 + h)) 0 k q m r next end → Wrote g l 0 k out o r (4 + h + next) end
    wrote_parts p q r h m next end z e x y =
        wrote_application g change l 0 k out o p q r (4 + h) m (4 + h + next) end z e (slice_wrote g l 4 k p (o + 4) q h m x)
        (slice_wrote g l (4 + h) k q m r next end y)

    pub wrote_body : (p q : List ℕ) (next end : ℕ) → get_or l 0 0 ≡ 1 → p ≡ sets out o (record_bytes 1 0 [])
        → Wrote g (slice l 4) 0 (k + 1) p (o + 4) q next end → Wrote g l 0 k out o q (4 + next) end
    wrote_body p q next end z e x =
        wrote_abstraction g change l 0 k out o p q (4 + next) end z e (slice_wrote g l 4 (k + 1) p (o + 4) q next end x)

    pub wrote_leaf : (p : List ℕ) (n end : ℕ) (u : Term) → Whole l 0 → get_or l 0 0 ≡ 2 → n ≡ number_at l 0 → u ≡ g k (loc n)
        → p ≡ sets out o (encode u) → end ≡ o + 4 * size u → Wrote g l 0 k out o p 4 end
    wrote_leaf p n end u x z e f b s = wrote_local g change l 0 k out o p n end u x z e f b s

    pub wrote_copied : (p : List ℕ) → Whole l 0 → Other l 0 → p ≡ sets out o (take 4 (drop 0 l)) → Wrote g l 0 k out o p 4 (o + 4)
    wrote_copied p x z b = kept g change l 0 k out o p x z (λ t w.
        b ∙ ap (sets out o) (part_bytes l 0 4 t w (omega (arith, leaf_size l 0 t w z.no_application z.no_abstraction))))

-- a substitution's parts
module _ (b : List ℕ) (k : ℕ) (e out : List ℕ) (o : ℕ) (x : Substitution b k e out o) where
  module _ (p : List ℕ) (n : length p ≡ length out) where
    substitution_from : (l : List ℕ) (i m : ℕ) → Source (substitute_for x.argument) l 0 i (length p) m → Substitution l i e p m
    substitution_from l i m s = record { argument = x.argument; table = x.table; few = x.few; source = s }

    pub substitution_head : get_or b 0 0 ≡ 0 → Substitution (slice b 4) k e p (o + 4)
    substitution_head z =
        substitution_from (slice b 4) k (o + 4)
        (source_head (substitute_for x.argument) (replaces x.argument) b k (length out) o x.source (length p) n z)

    pub substitution_body : get_or b 0 0 ≡ 1 → Substitution (slice b 4) (k + 1) e p (o + 4)
    substitution_body z =
        substitution_from (slice b 4) (k + 1) (o + 4)
        (source_body (substitute_for x.argument) (replaces x.argument) b k (length out) o x.source (length p) n z)

    pub substitution_argument : (q r : List ℕ) (h m : ℕ) → get_or b 0 0 ≡ 0
        → ((t : Term) → e ≡ encode t → Wrote (substitute_for t) (slice b 4) 0 k q (o + 4) r h m)
        → Substitution (slice b (4 + h)) k e p m
    substitution_argument q r h m z w =
        substitution_from (slice b (4 + h)) k m
        (source_argument (substitute_for x.argument) (replaces x.argument) b k (length out) o x.source (length p) n q r h m z
        (w x.argument x.table))

  -- the term to be put for local k, shifted by the k binders crossed
  pub substitution_copy : (n : ℕ) → get_or b 0 0 ≡ 2 → n ≡ number_at b 0 → n ≡ k → Source (shift k) e 0 0 (length out) o
  substitution_copy n z i h =
      let g = substitute_for x.argument in
      let q : g k (loc n) ≡ shift k 0 x.argument = substitute_here k x.argument n h in
      source (shift k) e 0 0 (length out) o x.argument (at_start e x.argument x.table)
      (subst NumbersFit q (source_local g (replaces x.argument) b k (length out) o x.source n z i))
      (omega (arith, x.few))
      (subst (λ (t : Term). o + 4 * size t ≤ length out) q
      (source_enough g (replaces x.argument) b k (length out) o x.source n z i))

  pub substitution_whole : Whole b 0
  substitution_whole = source_whole (substitute_for x.argument) (replaces x.argument) b k (length out) o x.source

  pub wrote_copy : (p : List ℕ) (n next end : ℕ) → get_or b 0 0 ≡ 2 → n ≡ number_at b 0 → n ≡ k → Wrote (shift k) e 0 0 out o p next end
      → (t : Term) → e ≡ encode t → Wrote (substitute_for t) b 0 k out o p 4 end
  wrote_copy p n next end z i h w t f =
      let s = at_start e t f in
      wrote_local (substitute_for t) (replaces t) b 0 k out o p n end (shift k 0 t) substitution_whole z i (sym (substitute_here k t n h))
      (w.bytes t s) (w.exact t s)
