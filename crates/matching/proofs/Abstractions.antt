-- The abstractions of a term are the bodies that come to it with the argument put in, and none stands twice. By induction on the body
-- one way and on the term the other. Assumes nothing.
use mathlib.Core.Path.{◌≡◌, refl, sym, ap, ap₂, ◌∙◌, subst}
use mathlib.Core.Bool.{cond}
use mathlib.Core.Logic.{◌⊎◌, inl, inr, ⊎_elim, ◌↔◌}
use mathlib.Core.List.{List}
use Prim.Native.Nat.{ℕ, suc, ◌-◌}
use native.Mathlib.Omega.{arith}
use lib.Dec.{ltb}
use borrow.Author.Tests.{lt-ltb, le-ltb, ne_eqb}
use Rattle.terms.specs.Term.{Term, app, lam, loc, con, var, shift, substitute}
use Rattle.terms.specs.Listing.{In}
use Rattle.terms.specs.Members.{Distinct}
use Rattle.terms.proofs.Tests.{by_ltb}
use Rattle.terms.proofs.Members.{in_one}
use Rattle.terms.proofs.Substitute.{by_substitute, substitute_here}
use Rattle.terms.proofs.Table.{kind}
use Rattle.matching.specs.Abstractions.{same, or_local, abstractions}
use Rattle.matching.proofs.Members.{in_map, map_in, in_pairs, pairs_in, distinct_map, distinct_pairs}

-- the choice at one place
module _ {A : Type 0} (d : ℕ) where
  in_local : (o : Dec A) (l : List Term) → A → In (loc d) (or_local o d l)
  in_local (yes p) l h = inl refl
  in_local (no p) l h = absurd (p h)

  in_kept : (o : Dec A) (x : Term) (l : List Term) → In x l → In x (or_local o d l)
  in_kept (yes p) x l h = inr h
  in_kept (no p) x l h = h

  or_local_in : (o : Dec A) (x : Term) (l : List Term) → In x (or_local o d l) → ((x ≡ loc d) × A) ⊎ In x l
  or_local_in (yes p) x l (inl h) = inl (h, p)
  or_local_in (yes p) x l (inr h) = inr h
  or_local_in (no p) x l h = inr h

  distinct_or_local : (o : Dec A) (l : List Term) → Distinct l → ¬ In (loc d) l → Distinct (or_local o d l)
  distinct_or_local (yes p) l h k = (k, h)
  distinct_or_local (no p) l h k = h

-- every body is listed
in_here : (e : Term) (d : ℕ) (t : Term) → t ≡ shift d 0 e → In (loc d) (abstractions e d t)
in_here e d (app f a) p = in_local d (same (app f a) (shift d 0 e)) _ p
in_here e d (lam b) p = in_local d (same (lam b) (shift d 0 e)) _ p
in_here e d (loc n) p = in_local d (same (loc n) (shift d 0 e)) _ p
in_here e d (con n) p = in_local d (same (con n) (shift d 0 e)) _ p
in_here e d (var n) p = in_local d (same (var n) (shift d 0 e)) _ p

in_abstractions : (e : Term) (d : ℕ) (b : Term) → In b (abstractions e d (substitute d e b))
in_abstractions e d (app f a) =
    in_kept d (same (substitute d e (app f a)) (shift d 0 e)) (app f a) _
    (in_pairs app f a (abstractions e d (substitute d e f)) (abstractions e d (substitute d e a)) (in_abstractions e d f)
    (in_abstractions e d a))
in_abstractions e d (lam b) =
    in_kept d (same (substitute d e (lam b)) (shift d 0 e)) (lam b) _
    (in_map lam b (abstractions e (suc d) (substitute (suc d) e b)) (in_abstractions e (suc d) b))
in_abstractions e d (loc n) =
    by_substitute (λ s. In (loc n) (abstractions e d s)) d e n
    (λ l. in_kept d (same (loc n) (shift d 0 e)) (loc n) _ (rw (lt-ltb n d l) (inl refl)))
    (λ q. rw q (in_here e d (shift d 0 e) refl))
    (λ l. in_kept d (same (loc (n - 1)) (shift d 0 e)) (loc n) _ (rw (le-ltb (n - 1) d (omega arith)) (inl (ap loc (omega arith)))))
in_abstractions e d (con n) = in_kept d (same (con n) (shift d 0 e)) (con n) _ (inl refl)
in_abstractions e d (var n) = in_kept d (same (var n) (shift d 0 e)) (var n) _ (inl refl)

-- and nothing else
from_local : (e : Term) (d : ℕ) (t b : Term) → (b ≡ loc d) × (t ≡ shift d 0 e) → substitute d e b ≡ t
from_local e d t b q = rw q.0 (substitute_here d e d refl ∙ sym q.1)

from_loc : (e : Term) (d n : ℕ) (b : Term) → b ≡ cond (ltb n d) (loc n) (loc (suc n)) → substitute d e b ≡ loc n
from_loc e d n b p =
    rw p (by_ltb (λ s. substitute d e (cond s (loc n) (loc (suc n))) ≡ loc n) n d (λ l. rw (lt-ltb n d l))
    (λ l. rw (le-ltb (suc n) d (omega arith), ne_eqb (suc n) d (omega arith)) (ap loc (omega arith))))

abstractions_in : (e : Term) (d : ℕ) (t b : Term) → In b (abstractions e d t) → substitute d e b ≡ t
abstractions_in e d (app f a) b p =
    ⊎_elim (from_local e d (app f a) b)
    (λ q. let r = pairs_in app b (abstractions e d f) (abstractions e d a) q in
    rw r.4 (ap₂ app (abstractions_in e d f r.0 r.2) (abstractions_in e d a r.1 r.3)))
    (or_local_in d (same (app f a) (shift d 0 e)) b _ p)
abstractions_in e d (lam t) b p =
    ⊎_elim (from_local e d (lam t) b)
    (λ q. let r = map_in lam b (abstractions e (suc d) t) q in rw r.2 (ap lam (abstractions_in e (suc d) t r.0 r.1)))
    (or_local_in d (same (lam t) (shift d 0 e)) b _ p)
abstractions_in e d (loc n) b p =
    ⊎_elim (from_local e d (loc n) b) (λ q. from_loc e d n b (in_one q)) (or_local_in d (same (loc n) (shift d 0 e)) b _ p)
abstractions_in e d (con n) b p =
    ⊎_elim (from_local e d (con n) b) (λ q. ap (substitute d e) (in_one q)) (or_local_in d (same (con n) (shift d 0 e)) b _ p)
abstractions_in e d (var n) b p =
    ⊎_elim (from_local e d (var n) b) (λ q. ap (substitute d e) (in_one q)) (or_local_in d (same (var n) (shift d 0 e)) b _ p)

pub abstractions_iff : (e : Term) (d : ℕ) (t b : Term) → In b (abstractions e d t) ↔ (substitute d e b ≡ t)
abstractions_iff e d t b = (abstractions_in e d t b, λ p. subst (λ s. In b (abstractions e d s)) p (in_abstractions e d b))

-- none twice
other : (d n : ℕ) → loc d ≡ cond (ltb n d) (loc n) (loc (suc n)) → ⊥
other d n =
    by_ltb (λ s. loc d ≡ cond s (loc n) (loc (suc n)) → ⊥) n d (λ l p. let q : d ≡ n = cc in omega arith)
    (λ l p. let q : d ≡ suc n = cc in omega arith)

pub abstractions_distinct : (e : Term) (d : ℕ) (t : Term) → Distinct (abstractions e d t)
abstractions_distinct e d (app f a) =
    distinct_or_local d (same (app f a) (shift d 0 e)) _
    (distinct_pairs app (λ x x' y y' p. (cc, cc)) (abstractions e d f) (abstractions e d a) (abstractions_distinct e d f)
    (abstractions_distinct e d a))
    (λ q. let r = pairs_in app (loc d) (abstractions e d f) (abstractions e d a) q in omega (arith, ap kind r.4))
abstractions_distinct e d (lam t) =
    distinct_or_local d (same (lam t) (shift d 0 e)) _
    (distinct_map lam (λ x y p. cc) (abstractions e (suc d) t) (abstractions_distinct e (suc d) t))
    (λ q. let r = map_in lam (loc d) (abstractions e (suc d) t) q in omega (arith, ap kind r.2))
abstractions_distinct e d (loc n) = distinct_or_local d (same (loc n) (shift d 0 e)) _ (λ q. q, tt) (λ q. other d n (in_one q))
abstractions_distinct e d (con n) = distinct_or_local d (same (con n) (shift d 0 e)) _ (λ q. q, tt) (λ q. omega (arith, ap kind (in_one q)))
abstractions_distinct e d (var n) = distinct_or_local d (same (var n) (shift d 0 e)) _ (λ q. q, tt) (λ q. omega (arith, ap kind (in_one q)))
