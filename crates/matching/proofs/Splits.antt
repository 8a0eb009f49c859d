-- The splits of a target: the list of them has each pair of a `Split`, and no other, and none twice. The argument of a used local is
-- found among the parts of the target that can be moved out of their binders. Assumes nothing.
--   candidates t   each different argument once: the parts of t, moved out of the binders above them
--   splits t       the pairs of a target for the head and a target for the argument
use mathlib.Core.Path.{◌≡◌, refl, sym, ap, ◌∙◌, subst}
use mathlib.Core.Bool.{true, not}
use mathlib.Core.Logic.{inl, ⊎_elim}
use mathlib.Core.List.{List, [], ◌∷◌, ◌++◌, map}
use Prim.Native.Nat.{ℕ, suc}
use lib.Dec.{T}
use borrow.Author.Tests.{eqb-true}
use Rattle.terms.specs.Term.{Term, app, lam, loc, con, var, Normal, shift, unshift, substitute, uses, is_abstraction}
use Rattle.terms.specs.Listing.{In}
use Rattle.terms.specs.Members.{Distinct}
use Rattle.terms.proofs.Tests.{or_true, true_of}
use Rattle.terms.proofs.Shift.{unshift_shift}
use Rattle.terms.proofs.Substitute.{substitute_here}
use Rattle.terms.proofs.Members.{in_left, in_right, in_append, distinct_append, in_one}
use Rattle.terms.proofs.Table.{lam_inj}
use Rattle.matching.specs.Abstractions.{same, abstractions}
use Rattle.matching.proofs.Abstractions.{abstractions_iff, abstractions_distinct}
use Rattle.matching.proofs.Decide.{normal?, dec_T, dec-×}
use Rattle.matching.proofs.Members.{guard, flat_map, nub, in_guard, guard_in, distinct_guard, in_map, map_in, distinct_map}
use Rattle.matching.proofs.Members.{in_flat_map, flat_map_in, distinct_flat_map, in_nub, distinct_nub}
use Rattle.matching.proofs.Step.{Split, Split.parts, Split.body}

-- a term that stands below d binders, moved out of them, if it uses none
abbrev movable : ℕ → Term → List Term
movable d s = guard (same (shift d 0 (unshift d 0 s)) s) (unshift d 0 s)

abbrev movable_parts : ℕ → Term → List Term
movable_parts d (app f a) = movable d (app f a) ++ (movable_parts d f ++ movable_parts d a)
movable_parts d (lam b) = movable d (lam b) ++ movable_parts (suc d) b
movable_parts d (loc n) = movable d (loc n)
movable_parts d (con n) = movable d (con n)
movable_parts d (var n) = movable d (var n)

abbrev pub candidates : Term → List Term
candidates t = nub same (movable_parts 0 t)

-- the target's own head and argument
abbrev own_parts : Term → List (Term × Term)
own_parts (app f a) = (f, a) ∷ []
own_parts (lam b) = []
own_parts (loc n) = []
own_parts (con n) = []
own_parts (var n) = []

-- the bodies that use their local, have a normal abstraction, and come to t with e put in
abbrev built : Term → List Term
built b = guard (dec-× (dec_T (uses 0 b)) (normal? (lam b))) b

abbrev pub buildable : Term → Term → List Term
buildable t e = flat_map built (abstractions e 0 t)

abbrev with_argument : Term → Term → Term × Term
with_argument e b = (lam b, e)

abbrev splits_at : Term → Term → List (Term × Term)
splits_at t e = map (with_argument e) (buildable t e)

abbrev pub splits : Term → List (Term × Term)
splits t = own_parts t ++ flat_map (splits_at t) (candidates t)

in_movable : (d : ℕ) (e : Term) → In e (movable d (shift d 0 e))
in_movable d e = rw (unshift_shift d 0 e) (in_guard (same (shift d 0 e) (shift d 0 e)) e refl)

movable_in : (d : ℕ) (e s : Term) → In e (movable d s) → In e (movable_parts d s)
movable_in d e (app f a) p = in_left e (movable d (app f a)) _ p
movable_in d e (lam b) p = in_left e (movable d (lam b)) _ p
movable_in d e (loc n) p = p
movable_in d e (con n) p = p
movable_in d e (var n) p = p

-- what is put for a used local is a part that can be moved out
in_movable_parts : (d : ℕ) (e b : Term) → uses d b ≡ true → In e (movable_parts d (substitute d e b))
in_movable_parts d e (app f a) u =
    in_right e (movable d (substitute d e (app f a))) _
    (⊎_elim (λ p. in_left e (movable_parts d (substitute d e f)) _ (in_movable_parts d e f p))
    (λ p. in_right e (movable_parts d (substitute d e f)) _ (in_movable_parts d e a p)) (or_true (uses d f) (uses d a) u))
in_movable_parts d e (lam b) u = in_right e (movable d (substitute d e (lam b))) _ (in_movable_parts (suc d) e b u)
in_movable_parts d e (loc n) u = rw (substitute_here d e n (eqb-true n d u)) (movable_in d e (shift d 0 e) (in_movable d e))
in_movable_parts d e (con n) u = absurd (subst T (sym u) tt)
in_movable_parts d e (var n) u = absurd (subst T (sym u) tt)

pub in_candidates : (e b t : Term) → substitute 0 e b ≡ t → uses 0 b ≡ true → In e (candidates t)
in_candidates e b t q u = in_nub same e (movable_parts 0 t) (rw q at (in_movable_parts 0 e b u))

-- the members are the splits
own_parts_in : (t : Term) (q : Term × Term) → In q (own_parts t) → t ≡ app q.0 q.1
own_parts_in (app f a) q p = rw (in_one p)
own_parts_in (lam b) q p = absurd p
own_parts_in (loc n) q p = absurd p
own_parts_in (con n) q p = absurd p
own_parts_in (var n) q p = absurd p

-- the bodies
pub buildable_in : (t e b : Term) → In b (buildable t e) → (substitute 0 e b ≡ t) × (uses 0 b ≡ true) × Normal (lam b)
buildable_in t e b p =
    let r = flat_map_in built b (abstractions e 0 t) p in
    let u = guard_in (dec-× (dec_T (uses 0 r.0)) (normal? (lam r.0))) r.0 b r.2 in
    rw u.0 ((abstractions_iff e 0 t r.0).0 r.1, true_of (uses 0 r.0) u.1.0, u.1.1)

pub in_buildable : (t e b : Term) → substitute 0 e b ≡ t → uses 0 b ≡ true → Normal (lam b) → In b (buildable t e)
in_buildable t e b p u n =
    in_flat_map built b b (abstractions e 0 t) ((abstractions_iff e 0 t b).1 p)
    (in_guard (dec-× (dec_T (uses 0 b)) (normal? (lam b))) b (rw u tt, n))

pub buildable_distinct : (t e : Term) → Distinct (buildable t e)
buildable_distinct t e =
    distinct_flat_map built (abstractions e 0 t) (abstractions_distinct e 0 t)
    (λ b i. distinct_guard (dec-× (dec_T (uses 0 b)) (normal? (lam b))) b)
    (λ b c d i j p q.
    sym (guard_in (dec-× (dec_T (uses 0 b)) (normal? (lam b))) b d p).0 ∙ (guard_in (dec-× (dec_T (uses 0 c)) (normal? (lam c))) c d q).0)

bodies_in : (t e : Term) (q : Term × Term) → In q (splits_at t e) → (b : Term) × In b (buildable t e) × (q ≡ (lam b, e))
bodies_in t e q p = map_in (with_argument e) q (buildable t e) p

pub splits_in : (t : Term) (q : Term × Term) → In q (splits t) → Split q.0 q.1 t
splits_in t q p = ⊎_elim (λ r. parts (own_parts_in t q r)) go (in_append q (own_parts t) _ p)
  where
    go : In q (flat_map (splits_at t) (candidates t)) → Split q.0 q.1 t
    go p =
        let r = flat_map_in (splits_at t) q (candidates t) p in
        let s = bodies_in t r.0 q r.2 in
        let k = buildable_in t r.0 s.0 s.1 in
        rw s.2 (body s.0 refl k.0 k.1 k.2)

pub in_splits : (f e t : Term) → Split f e t → In (f, e) (splits t)
in_splits f e t (parts p) = rw p (inl refl)
in_splits f e t (body b p q u n) =
    rw p (in_right (lam b, e) (own_parts t) _
    (in_flat_map (splits_at t) e (lam b, e) (candidates t) (in_candidates e b t q u)
    (in_map (with_argument e) b (buildable t e) (in_buildable t e b q u n))))

-- none twice
own_parts_distinct : (t : Term) → Distinct (own_parts t)
own_parts_distinct (app f a) = (λ p. p, tt)
own_parts_distinct (lam b) = tt
own_parts_distinct (loc n) = tt
own_parts_distinct (con n) = tt
own_parts_distinct (var n) = tt

bodies_distinct : (t e : Term) → Distinct (splits_at t e)
bodies_distinct t e = distinct_map (with_argument e) (λ b c p. lam_inj b c (ap (λ z. z.0) p)) (buildable t e) (buildable_distinct t e)

pub splits_distinct : (t : Term) → Normal t → Distinct (splits t)
splits_distinct t h =
    distinct_append (own_parts t) (flat_map (splits_at t) (candidates t)) (own_parts_distinct t)
    (distinct_flat_map (splits_at t) (candidates t) (distinct_nub same (movable_parts 0 t)) (λ e i. bodies_distinct t e)
    (λ e d q i j p r. ap (λ z. z.1) (sym (bodies_in t e q p).2 ∙ (bodies_in t d q r).2)))
    (λ q p r.
    let a = flat_map_in (splits_at t) q (candidates t) r in
    let n : Normal (app q.0 q.1) = rw (own_parts_in t q p) at h in
    subst (λ z. T (not (is_abstraction z.0))) (bodies_in t a.0 q a.2).2 n.0)
