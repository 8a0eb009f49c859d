-- How a flexible application comes to its target, numbered so that a search can try one number after the other: the target's own parts, an
-- argument ignored, or the argument found first at one of the target's parts. By the rows of one step of matching, which exclude each
-- other because the target is normal. Assumes nothing.
use mathlib.Core.Path.{◌≡◌, refl, sym, ap, ◌∙◌, subst}
use mathlib.Core.Bool.{not}
use mathlib.Core.List.{List, [], ◌∷◌}
use mathlib.Core.Logic.{inl, inr, ◌↔◌}
use Prim.Native.Nat.{ℕ, zero, suc, ◌+◌}
use native.Mathlib.Omega.{arith}
use lib.Dec.{T}
use Rattle.terms.specs.Term.{Term, app, lam, loc, con, var, Normal, size, shift, uses, is_abstraction}
use Rattle.terms.specs.Sweep.{sweep, fill}
use Rattle.terms.proofs.Shift.{unused_shift}
use Rattle.terms.proofs.Table.{kind, lam_inj}
use Rattle.matching.specs.Alternatives.{Alternative, constant}
use Rattle.matching.specs.Goals.{Sweeps, Build, Goal, Goal.match, Goal.build, Meets, All, Suits, Listable}
use Rattle.matching.specs.Occurrences.{FirstCopy}
use Rattle.matching.proofs.Decide.{by_dec}
use Rattle.matching.proofs.Step.{constant_normal}
use Rattle.matching.proofs.Lists.{Under}
use Rattle.matching.proofs.Cuts.{Choice, argument_first}
use Rattle.matching.proofs.Goals.{Listing, listing_goal, listing_same}
use Rattle.matching.proofs.Goals.{listing_none, listing_both}
use Rattle.matching.proofs.Targets.{part_normal}
use Rattle.matching.proofs.Occurrences.{first_of, first_one, first_same, dec_first}

pub alternatives : (φ : ℕ → Term) (f a t : Term) → Normal t → Sweeps (app f a) t φ ↔ Under (Alternative f a t) (size t + 2) φ
alternatives φ f a t h = (λ s. to ((argument_first φ f a t h).0 s), λ (i, _, s). from i s)
  where
    to : Choice f a t φ → Under (Alternative f a t) (size t + 2) φ
    to (inl p) = (0, omega arith, p)
    to (inr (inl (e, _, s, b))) = let (j, x) = first_of e b.0 t b.2 b.3 in (suc (suc j), omega (arith, x.within), (e, x, s, b))
    to (inr (inr p)) = (1, omega arith, p)

    from : (i : ℕ) → Alternative f a t i φ → Sweeps (app f a) t φ
    from zero p = (argument_first φ f a t h).1 (inl p)
    from (suc zero) p = (argument_first φ f a t h).1 (inr (inr p))
    from (suc (suc j)) (e, x, s, (b, p, q, u)) = rw (p, s) q

-- no two ways at once
apart_parts : (φ : ℕ → Term) (f a t b : Term) → Normal t → Alternative f a t 0 φ → ¬ Sweeps f (lam b) φ
apart_parts φ f a t b h p s =
    let n : Normal (app (sweep (fill φ f)) (sweep (fill φ a))) = rw p at h in
    subst (λ x. T (not (is_abstraction x))) s n.0

apart_constant : (φ : ℕ → Term) (f a t : Term) (j : ℕ) → Alternative f a t 1 φ → ¬ Alternative f a t (suc (suc j)) φ
apart_constant φ f a t j s (e, x, _, (b, p, q, u)) =
    subst T (sym u ∙ ap (uses 0) (lam_inj b (shift 1 0 t) (sym p ∙ s)) ∙ unused_shift 0 t) tt

pub alternatives_apart : (φ : ℕ → Term) (f a t : Term) (i j : ℕ) → Normal t → Alternative f a t i φ → Alternative f a t j φ → i ≡ j
alternatives_apart φ f a t zero zero h s r = refl
alternatives_apart φ f a t zero (suc zero) h s r = absurd (apart_parts φ f a t (shift 1 0 t) h s r)
alternatives_apart φ f a t zero (suc (suc j)) h s (e, x, _, b) = absurd (apart_parts φ f a t b.0 h s b.1)
alternatives_apart φ f a t (suc zero) zero h s r = absurd (apart_parts φ f a t (shift 1 0 t) h r s)
alternatives_apart φ f a t (suc zero) (suc zero) h s r = refl
alternatives_apart φ f a t (suc zero) (suc (suc j)) h s r = absurd (apart_constant φ f a t j s r)
alternatives_apart φ f a t (suc (suc i)) zero h (e, x, _, b) r = absurd (apart_parts φ f a t b.0 h r b.1)
alternatives_apart φ f a t (suc (suc i)) (suc zero) h s r = absurd (apart_constant φ f a t i r s)
alternatives_apart φ f a t (suc (suc i)) (suc (suc j)) h (e, x, p, _) (e', y, q, _) =
    ap (λ n. suc (suc n)) (first_one t i j e x (subst (FirstCopy t j) (sym q ∙ p) y))

-- the goals that each way leaves, before the other goals
module _ (φ : ℕ → Term) (f a : Term) (gs : List Goal) where
  pub alternative_parts : (t u : Term) → (Alternative f a (app t u) 0 φ × All gs φ) ↔ All (match f t ∷ match a u ∷ gs) φ
  alternative_parts t u = (λ (p, r). (cc, (cc, r)), λ (p, (q, r)). (cc, r))

  pub alternative_argument :
      (t : Term) (j : ℕ) (e : Term) → FirstCopy t j e
      → (Alternative f a t (suc (suc j)) φ × All gs φ) ↔ All (match a e ∷ build f t e ∷ gs) φ
  alternative_argument t j e x = (
    λ ((e', y, s, b), r). let q = first_same t j e' e y x in (s ∙ q, (subst (λ z. Build f t z φ) q b, r)),
    λ (s, (b, r)). ((e, x, s, b), r),
  )

-- which can be listed, as the goal before them
module _ (n : ℕ) (S : ℕ → Type 0) where
  suits_app : (f a : Term) → Suits n S (app f a) → Suits n S f × Suits n S a
  suits_app f a (b, o) = ((b.0, λ i p. o i (inl p)), (b.1, λ i p. o i (inr p)))

  pub listable_parts : (f a t u : Term) → Listable n S (match (app f a) (app t u)) → Listable n S (match f t) × Listable n S (match a u)
  listable_parts f a t u (s, h) = let (sf, sa) = suits_app f a s in ((sf, h.1), (sa, h.2))

  pub listable_constant : (f a t : Term) → Listable n S (match (app f a) t) → Listable n S (match f (constant t))
  listable_constant f a t (s, h) = ((suits_app f a s).0, constant_normal t h)

  pub listable_argument :
      (f a t : Term) (j : ℕ) (e : Term) → FirstCopy t j e → Listable n S (match (app f a) t)
      → Listable n S (match a e) × Listable n S (build f t e)
  listable_argument f a t j e x (s, h) = let (sf, sa) = suits_app f a s in ((sa, part_normal t j e x.within x.copy h), (sf, h))

-- and where a way is none: a target that is no application, and a part that is no argument's first occurrence
module _ (φ : ℕ → Term) (f a t : Term) where
  pub alternative_no_parts : ¬ (kind t ≡ 0) → ¬ Alternative f a t 0 φ
  alternative_no_parts n p = n (ap kind p)

  pub alternative_no_argument : (j : ℕ) → ((e : Term) → ¬ FirstCopy t j e) → ¬ Alternative f a t (suc (suc j)) φ
  alternative_no_argument j n s = n s.0 s.1

-- there are lines for each way
module _ (n : ℕ) (S : ℕ → Type 0) (f a t : Term) (x : Listable n S (match (app f a) t)) where
  listing_parts : (u : Term) → t ≡ u → Listing n S (Alternative f a u 0)
  listing_parts (app g e) p =
      let (y, z) = listable_parts n S f a g e (subst (λ u. Listable n S (match (app f a) u)) p x) in
      listing_same n S (Alternative f a (app g e) 0) (λ φ. Meets (match f g) φ × Meets (match a e) φ)
      (λ φ v. (λ q. (cc, cc), λ (q, r). cc))
      (listing_both n S (Meets (match f g)) (Meets (match a e)) (listing_goal n S (match f g) y) (listing_goal n S (match a e) z))
  listing_parts (lam b) p = listing_none n S (Alternative f a (lam b) 0) (λ φ v. alternative_no_parts φ f a (lam b) (λ q. omega (arith, q)))
  listing_parts (loc k) p = listing_none n S (Alternative f a (loc k) 0) (λ φ v. alternative_no_parts φ f a (loc k) (λ q. omega (arith, q)))
  listing_parts (con k) p = listing_none n S (Alternative f a (con k) 0) (λ φ v. alternative_no_parts φ f a (con k) (λ q. omega (arith, q)))
  listing_parts (var k) p = listing_none n S (Alternative f a (var k) 0) (λ φ v. alternative_no_parts φ f a (var k) (λ q. omega (arith, q)))

  pub listing_alternative : (i : ℕ) → Listing n S (Alternative f a t i)
  listing_alternative zero = listing_parts t refl
  listing_alternative (suc zero) = listing_goal n S (match f (constant t)) (listable_constant n S f a t x)
  listing_alternative (suc (suc j)) =
      by_dec (λ _. Listing n S (Alternative f a t (suc (suc j)))) (dec_first t j)
      (λ (e, y).
      let (z, w) = listable_argument n S f a t j e y x in
      listing_same n S (Alternative f a t (suc (suc j))) (λ φ. Meets (match a e) φ × Meets (build f t e) φ)
      (λ φ v. (
        λ q. let r = (alternative_argument φ f a [] t j e y).0 (q, tt) in (r.0, r.1.0),
        λ (q, r). ((alternative_argument φ f a [] t j e y).1 (q, (r, tt))).0,
      ))
      (listing_both n S (Meets (match a e)) (Meets (build f t e)) (listing_goal n S (match a e) z) (listing_goal n S (build f t e) w)))
      (λ m. listing_none n S (Alternative f a t (suc (suc j))) (λ φ v. alternative_no_argument φ f a t j (λ e y. m (e, y))))
