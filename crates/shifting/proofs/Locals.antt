-- The loose locals of a part, marked: what its parts need, what each kind of record marks, and what marks say of
-- the locals that it uses. By the term's kind, which its first record shows. Assumes nothing.
use mathlib.Core.Path.{◌≡◌, refl, sym, ap, ap₂, ◌∙◌, subst}
use mathlib.Core.Bool.{Bool, true, false, cond, ◌||◌}
use mathlib.Core.List.{List}
use Prim.Native.Nat.{ℕ, suc, ◌+◌, ◌-◌, ◌≤◌, ◌<◌}
use native.Mathlib.Omega.{arith}
use lib.Dec.{eqb}
use lib.ListN.{length, get_or, set}
use lib.Seq.{get_or-set_same, get_or-set_other}
use borrow.Author.Tests.{ne_eqb, eqb-true, eqb-false}
use Rattle.terms.specs.Figures.{numbers}
use Rattle.terms.specs.Term.{Term, app, lam, size, uses, Closed}
use Rattle.records.specs.Record.{number_at}
use Rattle.records.specs.Parts.{slice, Part, Whole, Ends}
use Rattle.records.proofs.Parts.{whole}
use Rattle.records.proofs.Slices.{part_slice}
use Rattle.records.proofs.Tests.{part_other}
use Rattle.substitution.proofs.Writers.{Other, local_at}
use Rattle.shifting.specs.Locals.{Marks, Marked}
use Rattle.shifting.proofs.Slices.{application_slices, abstraction_slices, slices_argument, slices_app, slices_lam, slices_leaf}

-- no local is marked
abbrev pub Zeros : List ℕ → Type 0
Zeros m = (j : ℕ) → get_or m j 0 ≡ 0

marks_of : (l : List ℕ) (depth n : ℕ) (t : Term) → Part l 0 t → Closed (depth + n) t → depth + size t ≤ numbers → Marks l depth n
marks_of l depth n t x c s = record { tree = t; part = x; closed = c; shallow = s; least = omega (arith, x.some, x.within) }

mark_or : (a b : Bool) (n : ℕ) → cond b 1 (cond a 1 n) ≡ cond (a || b) 1 n
mark_or true true n = refl
mark_or true false n = refl
mark_or false b n = refl

mark_set : (m : List ℕ) (n depth j : ℕ) → depth ≤ n → j < length m
    → get_or (set m (n - depth) 1) j 0 ≡ cond (eqb n (j + depth)) 1 (get_or m j 0)
mark_set m n depth j h i = go (eqb n (j + depth)) refl
  where
    go : (b : Bool) → eqb n (j + depth) ≡ b → get_or (set m (n - depth) 1) j 0 ≡ cond b 1 (get_or m j 0)
    go true e =
        let p : n - depth ≡ j = omega (arith, eqb-true n (j + depth) e) in
        ap (λ (k : ℕ). get_or (set m k 1) j 0) p ∙ get_or-set_same m j 1 0 i
    go false e = get_or-set_other m (n - depth) j 1 0 (λ q. eqb-false n (j + depth) e (omega arith))

module _ (l : List ℕ) (depth : ℕ) where
  -- the parts, and the number of marks, as the length of what was left of them
  module _ (n k : ℕ) (s : k ≡ n) (x : Marks l depth n) where
    pub marks_whole : Whole l 0
    marks_whole = whole l 0 x.tree x.part

    pub marks_head : get_or l 0 0 ≡ 0 → Marks (slice l 4) depth k
    marks_head z =
        let v = application_slices l x.tree x.part z in
        let c : Closed (depth + n) (app v.f v.a) = subst (Closed (depth + n)) v.is x.closed in
        marks_of (slice l 4) depth k v.f v.head (subst (λ (i : ℕ). Closed (depth + i) v.f) (sym s) c.0)
        (omega (arith, ap size v.is, x.shallow))

    pub marks_argument : (h : ℕ) → get_or l 0 0 ≡ 0 → Ends (slice l 4) 0 h → Marks (slice l (4 + h)) depth k
    marks_argument h z e =
        let v = application_slices l x.tree x.part z in
        let c : Closed (depth + n) (app v.f v.a) = subst (Closed (depth + n)) v.is x.closed in
        marks_of (slice l (4 + h)) depth k v.a (slices_argument l h x.tree e v)
        (subst (λ (i : ℕ). Closed (depth + i) v.a) (sym s) c.1)
        (omega (arith, ap size v.is, x.shallow))

    pub marks_body : get_or l 0 0 ≡ 1 → Marks (slice l 4) (depth + 1) k
    marks_body z =
        let v = abstraction_slices l x.tree x.part z in
        let c : Closed (depth + n) (lam v.b) = subst (Closed (depth + n)) v.is x.closed in
        let i : suc (depth + n) ≡ depth + 1 + k = omega arith in
        marks_of (slice l 4) (depth + 1) k v.b v.body (subst (λ (j : ℕ). Closed j v.b) i c)
        (omega (arith, ap size v.is, x.shallow))

    pub marks_local : (i : ℕ) → get_or l 0 0 ≡ 2 → i ≡ number_at l 0 → i < depth + n
    marks_local i z e = subst (Closed (depth + n)) (local_at l 0 i x.tree x.part z e) x.closed

  -- what was marked
  module _ (m : List ℕ) where
    pub marked_application : (p q : List ℕ) (h r : ℕ) → get_or l 0 0 ≡ 0 → length p ≡ length m → Marked (slice l 4) depth m p h
        → Marked (slice l (4 + h)) depth p q r → Marked l depth m q (4 + h + r)
    marked_application p q h r z s x y = record {
      ends = slices_app l h r z x.ends y.ends;
      marks = λ t w j i.
          let v = application_slices l t w z in
          y.marks v.a (slices_argument l h t x.ends v) j (omega arith)
          ∙ ap (cond (uses (j + depth) v.a) 1) (x.marks v.f v.head j i)
          ∙ mark_or (uses (j + depth) v.f) (uses (j + depth) v.a) (get_or m j 0)
          ∙ ap (λ (u : Term). cond (uses (j + depth) u) 1 (get_or m j 0)) (sym v.is);
    }

    pub marked_abstraction : (p : List ℕ) (r : ℕ) → get_or l 0 0 ≡ 1 → Marked (slice l 4) (depth + 1) m p r → Marked l depth m p (4 + r)
    marked_abstraction p r z x = record {
      ends = slices_lam l r z x.ends;
      marks = λ t w j i.
          let v = abstraction_slices l t w z in
          let e : j + (depth + 1) ≡ suc (j + depth) = omega arith in
          x.marks v.b v.body j i ∙ ap (λ (k : ℕ). cond (uses k v.b) 1 (get_or m j 0)) e
          ∙ ap (λ (u : Term). cond (uses (j + depth) u) 1 (get_or m j 0)) (sym v.is);
    }

    module _ (n : ℕ) (a : Whole l 0) (z : get_or l 0 0 ≡ 2) (e : n ≡ number_at l 0) where
      pub marked_loose : depth ≤ n → Marked l depth m (set m (n - depth) 1) 4
      marked_loose h = record {
        ends = slices_leaf l (λ q. omega arith) (λ q. omega arith) a;
        marks = λ t w j i.
            mark_set m n depth j h i ∙ ap (λ (u : Term). cond (uses (j + depth) u) 1 (get_or m j 0)) (sym (local_at l 0 n t w z e));
      }

      pub marked_bound : n < depth → Marked l depth m m 4
      marked_bound h = record {
        ends = slices_leaf l (λ q. omega arith) (λ q. omega arith) a;
        marks = λ t w j i.
            ap (λ (b : Bool). cond b 1 (get_or m j 0)) (sym (ne_eqb n (j + depth) (omega arith)))
            ∙ ap (λ (u : Term). cond (uses (j + depth) u) 1 (get_or m j 0)) (sym (local_at l 0 n t w z e));
      }

    pub marked_other : Whole l 0 → Other l 0 → Marked l depth m m 4
    marked_other a z = record {
      ends = slices_leaf l z.no_application z.no_abstraction a;
      marks = part_other l 0 (λ t. (j : ℕ) → j < length m → get_or m j 0 ≡ cond (uses (j + depth) t) 1 (get_or m j 0))
          z.no_application z.no_abstraction z.no_local (λ k j i. refl) (λ k j i. refl);
    }

-- marks that were all zero before mark the locals that the term uses
abbrev pub Marking : ℕ → Term → List ℕ → Type 0
Marking n t m = (j : ℕ) → j < n → get_or m j 0 ≡ cond (uses j t) 1 0

pub marking : (l : List ℕ) (before after : List ℕ) (r : ℕ) (t : Term) → Zeros before → Marked l 0 before after r → Part l 0 t
    → Marking (length before) t after
marking l before after r t z x w j h =
    let e : j + 0 ≡ j = omega arith in
    x.marks t w j h ∙ ap₂ (λ (i k : ℕ). cond (uses i t) 1 k) e (z j)

pub mark_true : (b : Bool) → ◌≡◌ {A = ℕ} (cond b 1 0) 1 → b ≡ true
mark_true true e = refl
mark_true false e = absurd (omega arith)

pub mark_false : (b : Bool) → ¬ (◌≡◌ {A = ℕ} (cond b 1 0) 1) → b ≡ false
mark_false true n = absurd (n refl)
mark_false false n = refl

-- a part of a table, handed on as a slice
pub marks_at : (l : List ℕ) (at depth n : ℕ) (t : Term) → Part l at t → Closed (depth + n) t → depth + size t ≤ numbers
    → Marks (slice l at) depth n
marks_at l at depth n t x c s = marks_of (slice l at) depth n t (part_slice l at t x) c s
