-- How often a term uses a local: counted part by part, none exactly if the local isn't used, and what each use adds to a substitution's
-- size. By induction on the term. Assumes nothing.
use mathlib.Core.Path.{◌≡◌, refl, sym, ap, ap₂, ◌∙◌, subst}
use mathlib.Core.Bool.{Bool, true, false, cond, ◌||◌}
use mathlib.Core.List.{List}
use Prim.Native.Nat.{ℕ, zero, suc, ◌+◌, ◌*◌, ◌≤◌}
use native.Mathlib.Omega.{arith}
use native.Mathlib.Nat.{add-mul}
use native.Mathlib.Numerals.{add-one}
use lib.Dec.{T}
use lib.ListN.{get_or}
use borrow.Author.Tests.{ne_eqb, eq-eqb}
use Rattle.terms.specs.Term.{Term, app, lam, loc, con, var, size, uses, substitute}
use Rattle.terms.proofs.Tests.{by_eqb}
use Rattle.terms.proofs.Shift.{size_shift}
use Rattle.terms.proofs.Substitute.{by_substitute}
use Rattle.records.specs.Record.{number_at}
use Rattle.records.specs.Parts.{slice, Whole}
use Rattle.records.proofs.Parts.{application, abstraction, argument_part, ends_app, ends_lam, ends_leaf}
use Rattle.records.proofs.Slices.{part_slice, slice_ends}
use Rattle.substitution.specs.Writers.{count, UsesCounted}
use Rattle.substitution.proofs.Writers.{local_at, Other, by_other}

-- the count, part by part
module _ (l : List ℕ) (k : ℕ) where
  pub used_application : (h next n m : ℕ) → get_or l 0 0 ≡ 0 → UsesCounted (slice l 4) k h n
      → UsesCounted (slice l (4 + h)) k next m → UsesCounted l k (4 + h + next) (n + m)
  used_application h next n m z x y =
      let e = slice_ends l 4 h x.ends in
      record {
        ends = ends_app l 0 (4 + h) (4 + h + next) z e (slice_ends l (4 + h) next y.ends);
        few = omega (arith, x.few, y.few);
        exact = λ t w.
            let v = application l 0 t w z in
            let i = x.exact v.f (part_slice l 4 v.f v.head) in
            rw v.is (ap₂ ◌+◌ i (y.exact v.a (part_slice l (4 + h) v.a (argument_part l 0 (4 + h) t e v))));
      }

  pub used_abstraction : (next n : ℕ) → get_or l 0 0 ≡ 1 → UsesCounted (slice l 4) (k + 1) next n
      → UsesCounted l k (4 + next) n
  used_abstraction next n z x = record {
    ends = ends_lam l 0 (4 + next) z (slice_ends l 4 next x.ends);
    few = omega (arith, x.few);
    exact = λ t w.
        let v = abstraction l 0 t w z in
        rw v.is (x.exact v.b (part_slice l 4 v.b v.body) ∙ ap (λ (j : ℕ). count j v.b) (add-one k));
  }

  module _ (n : ℕ) (x : Whole l 0) (z : get_or l 0 0 ≡ 2) (e : n ≡ number_at l 0) where
    local_used : (m : ℕ) → m ≤ 1 → m ≡ count k (loc n) → UsesCounted l k 4 m
    local_used m h c = record {
      ends = ends_leaf l 0 (λ q. omega arith) (λ q. omega arith) x;
      few = omega arith;
      exact = λ t w. c ∙ ap (count k) (sym (local_at l 0 n t w z e));
    }

    pub used_once : n ≡ k → UsesCounted l k 4 1
    used_once h = local_used 1 (omega arith) (rw (eq-eqb n k h))

    pub used_never : ¬ (n ≡ k) → UsesCounted l k 4 0
    used_never h = local_used 0 (omega arith) (rw (ne_eqb n k h))

  pub used_other : Whole l 0 → Other l 0 → UsesCounted l k 4 0
  used_other x z = record {
    ends = ends_leaf l 0 z.no_application z.no_abstraction x;
    few = omega arith;
    exact = by_other (λ t. 0 ≡ count k t) l 0 z (λ n w. refl) (λ n w. refl);
  }

-- none exactly if the local isn't used
pub count_none : (k : ℕ) (t : Term) → count k t ≡ 0 → uses k t ≡ false
count_none k (app f a) h = rw (count_none k f (omega arith), count_none k a (omega arith))
count_none k (lam b) h = count_none (suc k) b h
count_none k (loc n) h =
    by_eqb (λ s. cond {A = ℕ} s 1 0 ≡ 0 → s ≡ false) n k (λ p (e : ◌≡◌ {A = ℕ} 1 0). absurd (omega arith)) (λ p e. refl) h
count_none k (con n) h = refl
count_none k (var n) h = refl

or_some : (a b : Bool) (n m : ℕ) → (¬ (n ≡ 0) → a ≡ true) → (¬ (m ≡ 0) → b ≡ true) → ¬ (n + m ≡ 0) → a || b ≡ true
or_some true b n m f g h = refl
or_some false b zero m f g h = g (λ q. h (omega arith))
or_some false b (suc n) m f g h = absurd (subst T (sym (f (λ q. omega arith))) tt)

pub count_some : (k : ℕ) (t : Term) → ¬ (count k t ≡ 0) → uses k t ≡ true
count_some k (app f a) h = or_some (uses k f) (uses k a) (count k f) (count k a) (count_some k f) (count_some k a) h
count_some k (lam b) h = count_some (suc k) b h
count_some k (loc n) h = by_eqb (λ s. ¬ (cond {A = ℕ} s 1 0 ≡ 0) → s ≡ true) n k (λ p e. refl) (λ p e. absurd (e refl)) h
count_some k (con n) h = absurd (h refl)
count_some k (var n) h = absurd (h refl)

-- each use is one record, for which the argument's records are written
pub size_replaced : (m k : ℕ) (e t : Term) → size e ≡ suc m → size (substitute k e t) ≡ size t + count k t * m
size_replaced m k e (app f a) s =
    omega (arith, size_replaced m k e f s, size_replaced m k e a s, add-mul (count k f) (count k a) m)
size_replaced m k e (lam b) s = omega (arith, size_replaced m (suc k) e b s)
size_replaced m k e (loc n) s =
    by_substitute (λ x. size x ≡ 1 + count k (loc n) * m) k e n (λ l. rw (ne_eqb n k (omega arith)) (omega arith))
    (λ l. rw (eq-eqb n k l) (omega (arith, size_shift k 0 e))) (λ l. rw (ne_eqb n k (omega arith)) (omega arith))
size_replaced m k e (con n) s = omega arith
size_replaced m k e (var n) s = omega arith
