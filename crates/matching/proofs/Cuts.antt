-- What a search may skip, each cut of it a fact of every assignment: no assignment satisfies the goal, or exactly one body is left.
-- From the rows of one step of matching, from what a swept form can be, and from what stands in an assignment. Assumes nothing.
--   replace_all e d t  t with each outermost occurrence of e replaced by local d
use mathlib.Core.Path.{◌≡◌, refl, sym, ap, ap₂, ◌∙◌, subst}
use mathlib.Core.Bool.{Bool, true, false, cond}
use mathlib.Core.Logic.{◌⊎◌, inl, inr, ⊎_elim, ◌↔◌}
use mathlib.Core.List.{List}
use Prim.Native.Nat.{ℕ, suc, ◌+◌, ◌-◌, ◌<◌}
use native.Mathlib.Omega.{arith}
use lib.Dec.{T, ltb}
use borrow.Author.Tests.{eqb-true, lt-ltb, le-ltb}
use Rattle.terms.specs.Term.{Term, app, lam, loc, con, var, Normal, size, shift, unshift, substitute, uses, is_abstraction}
use Rattle.terms.specs.Sweep.{sweep, fill}
use Rattle.terms.specs.Listing.{In, Line}
use Rattle.terms.specs.Heads.{rigid}
use Rattle.terms.proofs.Tests.{or_false, or_true, by_ltb}
use Rattle.terms.proofs.Table.{kind, number_of}
use Rattle.terms.proofs.Shift.{shift_unshift, size_shift, uses_above}
use Rattle.terms.proofs.Substitute.{by_substitute, substitute_unused, substitute_low, substitute_high, size_used, unused_substitute}
use Rattle.matching.specs.Occurrences.{Unlike}
use Rattle.matching.specs.Goals.{Build, Sweeps}
use Rattle.matching.specs.Abstractions.{same}
use Rattle.terms.proofs.Locals.{rigid_sweep, unused_sweep}
use Rattle.matching.specs.Bodies.{either}
use Rattle.matching.specs.Alternatives.{constant}
use Rattle.matching.specs.Lists.{Values, Predicate, Lists}
use Rattle.matching.specs.Skeletons.{Fits}
use Rattle.matching.proofs.Decide.{either_yes, either_no}
use Rattle.matching.proofs.Step.{Split, Split.parts, Split.body, match_application}
use Rattle.matching.proofs.Splits.{candidates, in_candidates}
use Rattle.matching.proofs.Lists.{lists_same}

-- cut 1, rigid heads: no abstraction is a target, so that an application with such a head can only be split
pub no_abstraction : (φ : ℕ → Term) (p b : Term) → rigid p ≡ true → ¬ Sweeps p (lam b) φ
no_abstraction φ p b r s = subst T (ap is_abstraction (sym s) ∙ rigid_sweep φ p r) tt

pub rigid_application :
    (φ : ℕ → Term) (f a t : Term) → Normal t → rigid f ≡ true → Sweeps (app f a) t φ ↔ (t ≡ app (sweep (fill φ f)) (sweep (fill φ a)))
rigid_application φ f a t h r = (λ s. go ((match_application φ f a t h).0 s), λ p. (match_application φ f a t h).1 (inl (parts p)))
  where
    go : Split (sweep (fill φ f)) (sweep (fill φ a)) t ⊎ (sweep (fill φ f) ≡ constant t) → t ≡ app (sweep (fill φ f)) (sweep (fill φ a))
    go (inl (parts p)) = p
    go (inl (body b p q u n)) = absurd (no_abstraction φ f b r p)
    go (inr p) = absurd (no_abstraction φ f (shift 1 0 t) r p)

-- cut 1 again: a rigid term keeps the kind of its first record, and its head's, whatever the binders above the target
pub rigid_parts : (φ : ℕ → Term) (f a : Term) → rigid f ≡ true → sweep (fill φ (app f a)) ≡ app (sweep (fill φ f)) (sweep (fill φ a))
rigid_parts φ f a r = rw (rigid_sweep φ f r)

rigid_kind : (φ : ℕ → Term) (d : ℕ) (q : Term) → rigid q ≡ true → kind (shift d 0 (sweep (fill φ q))) ≡ kind q
rigid_kind φ d (app f a) r = ap (λ t. kind (shift d 0 t)) (rigid_parts φ f a r)
rigid_kind φ d (lam b) r = absurd (subst T (sym r) tt)
rigid_kind φ d (loc n) r = by_ltb (λ s. kind (cond s (loc n) (loc (n + d))) ≡ 2) n 0 (λ l. refl) (λ l. refl)
rigid_kind φ d (con n) r = refl
rigid_kind φ d (var n) r = absurd (subst T (sym r) tt)

pub unlike_kind : (q t : Term) → rigid q ≡ true → ¬ (kind q ≡ kind t) → Unlike q t
unlike_kind q t r n φ d e p s = n (sym (rigid_kind φ d q r) ∙ ap (λ x. kind (shift d 0 x)) s ∙ ap kind (sym p))

pub unlike_head : (f a g b : Term) → rigid f ≡ true → Unlike f g → Unlike (app f a) (app g b)
unlike_head f a g b r u φ d e p s =
    let q : app g b ≡ app (shift d 0 (sweep (fill φ f))) (shift d 0 (sweep (fill φ a))) =
    p ∙ ap (shift d 0) (sym s ∙ rigid_parts φ f a r) in
    u φ d (sweep (fill φ f)) (cc) refl

pub unlike_constant : (q t : Term) → kind q ≡ 3 → ¬ (number_of q ≡ number_of t) → Unlike q t
unlike_constant (app f a) t k n = absurd (omega (arith, k))
unlike_constant (lam b) t k n = absurd (omega (arith, k))
unlike_constant (loc m) t k n = absurd (omega (arith, k))
unlike_constant (con m) t k n = λ φ d e p s. n (ap (λ x. number_of (shift d 0 x)) s ∙ ap number_of (sym p))
unlike_constant (var m) t k n = absurd (omega (arith, k))

-- cut 2, easy goals first: goals may be taken in any order
pub lists_swap : (n : ℕ) (S : ℕ → Type 0) (Q R : Predicate) (ls : List Line) → Lists n S (λ φ. R φ × Q φ) ls → Lists n S (λ φ. Q φ × R φ) ls
lists_swap n S Q R ls x = lists_same n S (λ φ. Q φ × R φ) (λ φ. R φ × Q φ) ls (λ φ v. (λ s. (s.1, s.0), λ s. (s.1, s.0))) x

-- cut 3, locals: a target with a loose local that the pattern's part lacks
pub no_local : (φ : ℕ → Term) → Values φ → (p t : Term) (j : ℕ) → uses j p ≡ false → uses j t ≡ true → ¬ Sweeps p t φ
no_local φ v p t j c u s = subst T (sym u ∙ ap (uses j) (sym s) ∙ unused_sweep φ v j p c) tt

pub constant_local : (j : ℕ) (t : Term) → uses j (constant t) ≡ uses j t
constant_local j t = uses_above (suc j) j 1 0 t (omega arith) (omega arith)

-- how an application comes to the target, with the argument's target named first
abbrev pub Choice : Term → Term → Term → Predicate
Choice f a t φ =
    (t ≡ app (sweep (fill φ f)) (sweep (fill φ a)))
    ⊎ (((e : Term) × In e (candidates t) × Sweeps a e φ × Build f t e φ) ⊎ Sweeps f (constant t) φ)

pub argument_first : (φ : ℕ → Term) (f a t : Term) → Normal t → Sweeps (app f a) t φ ↔ Choice f a t φ
argument_first φ f a t h = (λ s. to (m.0 s), from)
  where
    m : (sweep (fill φ (app f a)) ≡ t) ↔ (Split (sweep (fill φ f)) (sweep (fill φ a)) t ⊎ (sweep (fill φ f) ≡ constant t))
    m = match_application φ f a t h

    to : Split (sweep (fill φ f)) (sweep (fill φ a)) t ⊎ (sweep (fill φ f) ≡ constant t) → Choice f a t φ
    to (inl (parts p)) = inl p
    to (inl (body b p q u n)) = inr (inl (sweep (fill φ a), in_candidates (sweep (fill φ a)) b t q u, refl, (b, p, q, u)))
    to (inr p) = inr (inr p)

    from : Choice f a t φ → Sweeps (app f a) t φ
    from (inl p) = m.1 (inl (parts p))
    from (inr (inl (e, i, s, (b, p, q, u)))) = rw (p, s) q
    from (inr (inr p)) = m.1 (inr p)

-- cut 3 again: where the argument uses a local that the head lacks, every occurrence is replaced
-- t with each outermost occurrence of e replaced
abbrev pub replace_all : Term → ℕ → Term → Term
replace_all e d (app f a) = either (same (app f a) (shift d 0 e)) (loc d) (app (replace_all e d f) (replace_all e d a))
replace_all e d (lam b) = either (same (lam b) (shift d 0 e)) (loc d) (lam (replace_all e (suc d) b))
replace_all e d (loc n) = either (same (loc n) (shift d 0 e)) (loc d) (cond (ltb n d) (loc n) (loc (suc n)))
replace_all e d (con n) = either (same (con n) (shift d 0 e)) (loc d) (con n)
replace_all e d (var n) = either (same (var n) (shift d 0 e)) (loc d) (var n)

pub replace_all_here : (e : Term) (d : ℕ) (t : Term) → t ≡ shift d 0 e → replace_all e d t ≡ loc d
replace_all_here e d (app f a) p = either_yes (same (app f a) (shift d 0 e)) (loc d) _ p
replace_all_here e d (lam b) p = either_yes (same (lam b) (shift d 0 e)) (loc d) _ p
replace_all_here e d (loc n) p = either_yes (same (loc n) (shift d 0 e)) (loc d) _ p
replace_all_here e d (con n) p = either_yes (same (con n) (shift d 0 e)) (loc d) _ p
replace_all_here e d (var n) p = either_yes (same (var n) (shift d 0 e)) (loc d) _ p

module _ (e : Term) (i : ℕ) (u : uses i e ≡ true) where
  not_here : (d j : ℕ) → j ≡ i + d → (b : Term) → (uses d b ≡ true → size e < size (substitute d e b)) → uses (suc j) b ≡ false
      → substitute d e b ≡ shift d 0 e → ⊥
  not_here d j q b s h p = go (uses d b) refl
    where
      go : (t : Bool) → uses d b ≡ t → ⊥
      go true x = omega (arith, s x, ap size p, size_shift d 0 e)
      go false x =
          subst T (sym u ∙ sym (uses_above j i d 0 e q (omega arith)) ∙ ap (uses j) (sym p ∙ substitute_unused d e b x)
          ∙ sym (uses_above (suc j) j 1 d (unshift 1 d b) (omega arith) (omega arith)) ∙ ap (uses (suc j)) (shift_unshift d b x) ∙ h) tt

  pub forced : (d j : ℕ) → j ≡ i + d → (b : Term) → uses (suc j) b ≡ false → b ≡ replace_all e d (substitute d e b)
  forced d j q (app f a) h =
      let p = or_false (uses (suc j) f) (uses (suc j) a) h in
      ap₂ app (forced d j q f p.0) (forced d j q a p.1)
      ∙ sym (either_no (same (substitute d e (app f a)) (shift d 0 e)) (loc d) _ (not_here d j q (app f a) strict h))
    where
      strict : uses d (app f a) ≡ true → size e < size (substitute d e (app f a))
      strict x = ⊎_elim
          (λ y. let z = size_used d e f y in let w : size e < suc (size (substitute d e f) + size (substitute d e a)) = omega arith in w)
          (λ y. let z = size_used d e a y in let w : size e < suc (size (substitute d e f) + size (substitute d e a)) = omega arith in w)
          (or_true (uses d f) (uses d a) x)
  forced d j q (lam b) h =
      ap lam (forced (suc d) (suc j) (omega arith) b h)
      ∙ sym (either_no (same (substitute d e (lam b)) (shift d 0 e)) (loc d) _
      (not_here d j q (lam b) (λ x. omega (arith, size_used (suc d) e b x)) h))
  forced d j q (loc n) h =
      by_substitute (λ s. loc n ≡ replace_all e d s) d e n
      (λ l. sym (either_no (same (loc n) (shift d 0 e)) (loc d) _
      (λ p. not_here d j q (loc n) (λ x. absurd (omega (arith, eqb-true n d x))) h (substitute_low n d e l ∙ p)) ∙ rw (lt-ltb n d)))
      (λ l. ap loc l ∙ sym (replace_all_here e d (shift d 0 e) refl))
      (λ l. sym (either_no (same (loc (n - 1)) (shift d 0 e)) (loc d) _
      (λ p. not_here d j q (loc n) (λ x. absurd (omega (arith, eqb-true n d x))) h (substitute_high n d e l ∙ p))
      ∙ rw (le-ltb (n - 1) d (omega arith)) (ap loc (omega arith))))
  forced d j q (con n) h =
      sym (either_no (same (con n) (shift d 0 e)) (loc d) (con n) (not_here d j q (con n) (λ x. absurd (subst T (sym x) tt)) h))
  forced d j q (var n) h =
      sym (either_no (same (var n) (shift d 0 e)) (loc d) (var n) (not_here d j q (var n) (λ x. absurd (subst T (sym x) tt)) h))

-- so one body is left
pub one_body : (φ : ℕ → Term) → Values φ → (f t e : Term) (j : ℕ) → uses j e ≡ true → uses j f ≡ false → (x : Build f t e φ)
    → x.0 ≡ replace_all e 0 t
one_body φ v f t e j u c x =
    forced e j u 0 j (omega arith) x.0 (sym (ap (uses j) x.1) ∙ unused_sweep φ v j f c) ∙ ap (replace_all e 0) x.2

-- cut 3 once more: each loose local of the target is the head's or the argument's
pub build_local :
    (φ : ℕ → Term) → Values φ → (f t e : Term) (j : ℕ) → Build f t e φ → uses j t ≡ true → uses j f ≡ false → uses j e ≡ true
build_local φ v f t e j (b, s, p, _) u c = go (uses j e) refl
  where
    go : (x : Bool) → uses j e ≡ x → x ≡ true
    go true q = refl
    go false q = absurd (subst T
        (sym u ∙ ap (uses j) (sym p) ∙ unused_substitute j j 0 e b (omega arith) (sym (ap (uses j) s) ∙ unused_sweep φ v j f c) q) tt)

-- skeletons: an abstraction fits only a hole or an abstraction
pub fits_abstraction : (s b : Term) → Fits s (lam b) → ¬ (kind s ≡ 4) → kind s ≡ 1
fits_abstraction (app f a) b x n = absurd x
fits_abstraction (lam c) b x n = refl
fits_abstraction (loc i) b x n = absurd x
fits_abstraction (con i) b x n = absurd x
fits_abstraction (var i) b x n = absurd (n refl)
