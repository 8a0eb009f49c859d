-- Lines that list the same assignments are the same lines. Fill a line's open entries with a value longer than any that is listed: a line
-- of the other list that this filling extends assigns nothing else, and back again; so each assigns what the other does. Assumes nothing.
use mathlib.Core.Path.{◌≡◌, refl, sym, ap, ap₂, ◌∙◌, subst}
use mathlib.Core.Bool.{false}
use mathlib.Core.Option.{Option, none, some}
use mathlib.Core.List.{List, [], ◌∷◌}
use mathlib.Core.Logic.{⊎_elim}
use Prim.Native.Nat.{ℕ, zero, suc, ◌+◌, ◌≤◌, ◌<◌}
use native.Mathlib.Omega.{arith}
use lib.Dec.{lit<}
use lib.ListN.{length}
use Rattle.terms.specs.Term.{Term, app, con, Value, size, is_abstraction}
use Rattle.terms.specs.Listing.{In, Line, AgreesAt, Agrees}
use Rattle.terms.proofs.Order.{found_length}
use Rattle.matching.specs.Lists.{ExtendsAt, Extends, Predicate, Lists}
use Rattle.matching.proofs.Lines.{Each, each_more}
use Rattle.matching.proofs.Lists.{fillings, extends_fillings, values_fillings}

-- a value longer than any given bound
abbrev long_value : ℕ → Term
long_value zero = con 0
long_value (suc n) = app (long_value n) (con 0)

spine_head : (n : ℕ) → is_abstraction (long_value n) ≡ false
spine_head zero = refl
spine_head (suc n) = refl

spine_size : (n : ℕ) → n < size (long_value n)
spine_size zero = omega arith
spine_size (suc n) = omega (arith, spine_size n)

spine_value : (n : ℕ) → Value (long_value n)
spine_value zero = (tt, tt, lit< tt)
spine_value (suc n) = let v = spine_value n in ((v.0, tt), (rw (spine_head n) tt, v.1, tt), (v.2, lit< tt))

-- every value of the line is shorter than k
abbrev ShorterThan : ℕ → Line → Type 0
ShorterThan k l = Each (λ v. size v < k) l

short_more : (k j : ℕ) → k ≤ j → (l : Line) → ShorterThan k l → ShorterThan j l
short_more k j h l s = each_more (λ v. size v < k) (λ v. size v < j) (λ v q. omega arith) l s

longer : (l : Line) → (k : ℕ) × ShorterThan k l
longer [] = (0, tt)
longer (none ∷ l) = let b = longer l in (b.0, (tt, b.1))
longer (some v ∷ l) =
    let b = longer l in
    let k = suc (size v) + b.0 in
    (k, (omega arith, short_more b.0 k (omega arith) l b.1))

longest : (ls : List Line) → (k : ℕ) × ((l : Line) → In l ls → ShorterThan k l)
longest [] = (0, λ l p. absurd p)
longest (l ∷ ls) =
    let a = longer l in
    let b = longest ls in
    let k = a.0 + b.0 in
    (k, λ m p. ⊎_elim (λ q. rw q (short_more a.0 k (omega arith) l a.1)) (λ q. short_more b.0 k (omega arith) m (b.1 m q)) p)

-- a line agrees with another if it assigns all that the other does
extends_weaker : (φ : ℕ → Term) (l m : Line) → Agrees m l → Extends φ m → Extends φ l
extends_weaker φ [] [] p g = tt
extends_weaker φ [] (q ∷ m) p g = tt
extends_weaker φ (o ∷ l) [] p g = absurd p
extends_weaker φ (none ∷ l) (q ∷ m) p g = (tt, extends_weaker (λ i. φ (suc i)) l m p.1 g.1)
extends_weaker φ (some v ∷ l) (q ∷ m) p g = (subst (ExtendsAt (φ 0)) p.0 g.0, extends_weaker (λ i. φ (suc i)) l m p.1 g.1)

agrees_at_same : (o q : Option Term) → AgreesAt o q → AgreesAt q o → o ≡ q
agrees_at_same none none p r = refl
agrees_at_same none (some w) p r = p
agrees_at_same (some v) q p r = sym r

agrees_same : (l m : Line) → Agrees l m → Agrees m l → l ≡ m
agrees_same [] [] p r = refl
agrees_same [] (q ∷ m) p r = absurd p
agrees_same (o ∷ l) [] p r = absurd p
agrees_same (o ∷ l) (q ∷ m) p r = ap₂ ◌∷◌ (agrees_at_same o q p.0 r.0) (agrees_same l m p.1 r.1)

-- a line that a long filling of another extends assigns no more than that
agrees_long : (k : ℕ) (u : Term) → k ≤ size u → (l m : Line) → length m ≡ length l → ShorterThan k m → Extends (fillings l u) m → Agrees l m
agrees_long k u h [] [] e s g = tt
agrees_long k u h [] (q ∷ m) e s g = absurd (omega arith)
agrees_long k u h (o ∷ l) [] e s g = absurd (omega arith)
agrees_long k u h (none ∷ l) (none ∷ m) e s g = (tt, agrees_long k u h l m (omega arith) s.1 g.1)
agrees_long k u h (none ∷ l) (some w ∷ m) e s g = absurd (omega (arith, ap size g.0))
agrees_long k u h (some v ∷ l) (none ∷ m) e s g = (tt, agrees_long k u h l m (omega arith) s.1 g.1)
agrees_long k u h (some v ∷ l) (some w ∷ m) e s g = (ap some g.0, agrees_long k u h l m (omega arith) s.1 g.1)

module _ (n : ℕ) (S : ℕ → Type 0) (Q : Predicate) where
  -- for a bound on the values of both
  also :
      (k : ℕ) (ls ms : List Line) → Lists n S Q ls → Lists n S Q ms → ((l : Line) → In l ls → ShorterThan k l)
      → ((l : Line) → In l ms → ShorterThan k l)
      → (l : Line) → In l ls → In l ms
  also k ls ms x y sl sm l i =
      let u = long_value k in
      let h : k ≤ size u = omega (arith, spine_size k) in
      let φ = fillings l u in
      let v = values_fillings S l u (x.assigns l i) (spine_value k) in
      let a = y.covers φ v (x.sound φ v l i (extends_fillings l u)) in
      let m = a.0 in
      let lm : Agrees l m = agrees_long k u h l m (y.entries m a.1 ∙ sym (x.entries l i)) (sm m a.1) a.2 in
      let ψ = fillings m u in
      let w = values_fillings S m u (y.assigns m a.1) (spine_value k) in
      let b = x.covers ψ w (y.sound ψ w m a.1 (extends_fillings m u)) in
      let c = b.0 in
      let mc : Agrees m c = agrees_long k u h m c (x.entries c b.1 ∙ sym (y.entries m a.1)) (sl c b.1) b.2 in
      let e : c ≡ l = x.once φ v c l b.1 i (extends_weaker φ c m mc a.2) (extends_fillings l u) in
      subst (λ z. In z ms) (sym (agrees_same l m lm (rw e at mc))) a.1

  pub lists_members : (ls ms : List Line) → Lists n S Q ls → Lists n S Q ms → (l : Line) → In l ls → In l ms
  lists_members ls ms x y =
      let a = longest ls in
      let b = longest ms in
      let k = a.0 + b.0 in
      also k ls ms x y (λ l i. short_more a.0 k (omega arith) l (a.1 l i)) (λ l i. short_more b.0 k (omega arith) l (b.1 l i))

  pub lists_length : (ls ms : List Line) → Lists n S Q ls → Lists n S Q ms → length ls ≡ length ms
  lists_length ls ms x y =
      omega (arith, found_length ls ms x.distinct (lists_members ls ms x y), found_length ms ls y.distinct (lists_members ms ls y x))
