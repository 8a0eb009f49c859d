-- The closed parts of a recipe, and the pairs. The parts go up by their first records; each stands where it is said to begin and is closed,
-- and each closed part is there. A pair is of one of the parts and one of the places, and of two parts all pairs of the first come before
-- those of the second. By induction on the lists. Assumes nothing.
use mathlib.Core.Path.{◌≡◌, refl, sym, ap, ap₂, subst}
use mathlib.Core.List.{List, [], ◌∷◌}
use mathlib.Core.Logic.{inl, inr, ⊎_elim}
use Prim.Native.Nat.{ℕ, zero, suc, ◌+◌, ◌*◌, ◌≤◌, ◌<◌}
use native.Mathlib.Decide.{ℕ_discrete}
use native.Mathlib.Omega.{arith}
use Rattle.terms.specs.Term.{Term, Closed}
use Rattle.terms.specs.Listing.{In}
use Rattle.terms.proofs.Members.{in_append}
use Rattle.records.specs.Parts.{Part}
use Rattle.records.proofs.Parts.{part_one}
use Rattle.rules.specs.Pairs.{Parts, Pair, with_rules, pairs}

-- each begins at record k or behind it, and before those that follow
abbrev pub Upward : ℕ → List (ℕ × Term) → Type 0
Upward k [] = Unit {0}
Upward k (p ∷ ps) = (k ≤ p.0) × Upward (suc p.0) ps

upward_less : (k : ℕ) (ps : List (ℕ × Term)) → Upward (suc k) ps → Upward k ps
upward_less k [] x = tt
upward_less k (p ∷ ps) x = (omega (arith, x.0), x.1)

pub parts_upward : (r : List ℕ) (k n : ℕ) (ps : List (ℕ × Term)) → Parts r k n ps → Upward k ps
parts_upward r k zero ps e = subst (Upward k) (sym e) tt
parts_upward r k (suc n) ps (t, p, inl (c, (qs, e, x))) = subst (Upward k) (sym e) (omega arith, parts_upward r (suc k) n qs x)
parts_upward r k (suc n) ps (t, p, inr (c, x)) = upward_less k ps (parts_upward r (suc k) n ps x)

pub pairs_in_order : (p q : ℕ × Term) → pairs (p ∷ q ∷ []) (0 ∷ 1 ∷ []) ≡ (p, 0) ∷ (p, 1) ∷ (q, 0) ∷ (q, 1) ∷ []
pairs_in_order p q = refl

pub parts_stand : (r : List ℕ) (k n : ℕ) (ps : List (ℕ × Term)) → Parts r k n ps → (x : ℕ × Term) → In x ps
    → Part r (4 * x.0) x.1 × Closed 0 x.1
parts_stand r k zero ps e x i = absurd (subst (In x) e i)
parts_stand r k (suc n) ps (t, p, inl (c, (qs, e, z))) x i =
    ⊎_elim (λ d. subst (λ (y : ℕ × Term). Part r (4 * y.0) y.1 × Closed 0 y.1) (sym d) (p, c)) (parts_stand r (suc k) n qs z x)
    (subst (In x) e i)
parts_stand r k (suc n) ps (t, p, inr (c, z)) x i = parts_stand r (suc k) n ps z x i

with_rules_in : (p : ℕ × Term) (is : List ℕ) (x : Pair) → In x (with_rules p is) → (x.0 ≡ p) × In x.1 is
with_rules_in p (i ∷ is) x (inl e) = (ap (λ (y : Pair). y.0) e, inl (ap (λ (y : Pair). y.1) e))
with_rules_in p (i ∷ is) x (inr h) = let r = with_rules_in p is x h in (r.0, inr r.1)
with_rules_in p [] x x3 = elim x3 [ ]

pub pairs_in : (ps : List (ℕ × Term)) (is : List ℕ) (x : Pair) → In x (pairs ps is) → In x.0 ps × In x.1 is
pairs_in (p ∷ ps) is x h =
    ⊎_elim (λ i. let r = with_rules_in p is x i in (inl r.0, r.1)) (λ i. let r = pairs_in ps is x i in (inr r.0, r.1))
    (in_append x (with_rules p is) (pairs ps is) h)
pairs_in [] is x h = elim h [ ]

pub parts_all : (r : List ℕ) (k n : ℕ) (ps : List (ℕ × Term)) → Parts r k n ps → (j : ℕ) (t : Term) → k ≤ j → j < k + n → Part r (4 * j) t
    → Closed 0 t → In (j, t) ps
parts_all r k zero ps x j t h g p c = absurd (omega arith)
parts_all r k (suc n) ps (u, q, inl (o, (qs, e, x))) j t h g p c = subst (In (j, t)) (sym e) (elim (ℕ_discrete k j) [
  | yes d ↦ inl (sym (ap₂ (λ (i : ℕ) (v : Term). (i, v)) d (part_one r (4 * j) u t (subst (λ (i : ℕ). Part r (4 * i) u) d q) p)))
  | no d ↦ inr (parts_all r (suc k) n qs x j t (omega arith) (omega arith) p c)
])
parts_all r k (suc n) ps (u, q, inr (o, x)) j t h g p c = elim (ℕ_discrete k j) [
  | yes d ↦ absurd (o (subst (Closed 0) (sym (part_one r (4 * j) u t (subst (λ (i : ℕ). Part r (4 * i) u) d q) p)) c))
  | no d ↦ parts_all r (suc k) n ps x j t (omega arith) (omega arith) p c
]
