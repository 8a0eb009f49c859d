-- Lines and the total assignments that extend them: the line that assigns nothing, one entry set, and what two lines assign together.
-- Entry by entry, by induction on the lines. Assumes nothing.
--   open_line n   the line of n open entries
--   joins l m     the line that assigns what l or m does, if they don't contradict
--   merge ls ms   the joins of a line of ls and a line of ms
--   Each P l      P holds of each value of l
use mathlib.Core.Path.{◌≡◌, refl, sym, ap, ap₂, ◌∙◌, subst}
use mathlib.Core.Option.{Option, none, some}
use mathlib.Core.List.{List, [], ◌∷◌}
use mathlib.Core.Logic.{inl, ◌↔◌}
use Prim.Native.Nat.{ℕ, zero, suc, ◌<◌}
use native.Mathlib.Omega.{arith}
use lib.ListN.{length, replicate, set, length-replicate}
use Rattle.terms.specs.Term.{Term, Value}
use Rattle.terms.specs.Assignment.{entry, AssignsAt, Assigns}
use Rattle.terms.specs.Listing.{In, Line}
use Rattle.terms.specs.Members.{Distinct}
use Rattle.terms.proofs.Members.{in_one}
use Rattle.matching.specs.Lists.{Extends, ExtendsAt}
use Rattle.matching.specs.Abstractions.{same, pairs}
use Rattle.matching.proofs.Members.{guard, flat_map, in_guard, guard_in, distinct_guard, in_pairs, pairs_in, distinct_pairs}
use Rattle.matching.proofs.Members.{in_flat_map, flat_map_in}

abbrev pub open_line : ℕ → Line
open_line n = replicate n none

-- no entry
pub length_blank : (n : ℕ) → length (open_line n) ≡ n
length_blank n = length-replicate n none

pub extends_blank : (φ : ℕ → Term) (n : ℕ) → Extends φ (open_line n)
extends_blank φ zero = tt
extends_blank φ (suc n) = (tt, extends_blank (λ i. φ (suc i)) n)

pub assigns_blank : (S : ℕ → Type 0) (n : ℕ) → Assigns S (open_line n)
assigns_blank S zero = tt
assigns_blank S (suc n) = (tt, assigns_blank (λ i. S (suc i)) n)

pub blank_open : (n i : ℕ) → entry (open_line n) i ≡ none
blank_open zero i = refl
blank_open (suc n) zero = refl
blank_open (suc n) (suc i) = blank_open n i

-- one entry
pub extends_entry : (φ : ℕ → Term) (l : Line) (i : ℕ) (v : Term) → entry l i ≡ some v → Extends φ l → φ i ≡ v
extends_entry φ [] i v e g = absurd (let z : ◌≡◌ {A = ℕ} 0 1 = cc in omega arith)
extends_entry φ (o ∷ l) zero v e g = subst (ExtendsAt (φ 0)) e g.0
extends_entry φ (o ∷ l) (suc i) v e g = extends_entry (λ j. φ (suc j)) l i v e g.1

pub extends_set : (φ : ℕ → Term) (l : Line) (i : ℕ) (t : Term) → i < length l → entry l i ≡ none
    → Extends φ (set l i (some t)) ↔ ((φ i ≡ t) × Extends φ l)
extends_set φ [] i t h e = absurd (omega arith)
extends_set φ (o ∷ l) zero t h e = (λ g. (g.0, (rw e tt, g.1)), λ g. (g.0, g.1.1))
extends_set φ (o ∷ l) (suc i) t h e =
    let r = extends_set (λ j. φ (suc j)) l i t (omega arith) e in
    (λ g. let q = r.0 g.1 in (q.0, (g.0, q.1)), λ g. (g.1.0, r.1 (g.0, g.1.1)))

pub assigns_set : (S : ℕ → Type 0) (l : Line) (i : ℕ) (t : Term) → S i → Value t → Assigns S l → Assigns S (set l i (some t))
assigns_set S [] i t s v a = tt
assigns_set S (o ∷ l) zero t s v a = ((s, v), a.1)
assigns_set S (o ∷ l) (suc i) t s v a = (a.0, assigns_set (λ j. S (suc j)) l i t s v a.1)

assigned_more : (A B : Type 0) → (A → B) → (o : Option Term) → AssignsAt A o → AssignsAt B o
assigned_more A B f none h = tt
assigned_more A B f (some v) h = (f h.0, h.1)

pub assigns_more : (S R : ℕ → Type 0) → ((i : ℕ) → S i → R i) → (l : Line) → Assigns S l → Assigns R l
assigns_more S R f [] h = tt
assigns_more S R f (o ∷ l) h =
    (assigned_more (S 0) (R 0) (f 0) o h.0, assigns_more (λ i. S (suc i)) (λ i. R (suc i)) (λ i. f (suc i)) l h.1)

pub assigns_entry : (S : ℕ → Type 0) (l : Line) (i : ℕ) (v : Term) → Assigns S l → entry l i ≡ some v → S i × Value v
assigns_entry S [] i v a e = absurd (let z : ◌≡◌ {A = ℕ} 0 1 = cc in omega arith)
assigns_entry S (o ∷ l) zero v a e = subst (AssignsAt (S 0)) e a.0
assigns_entry S (o ∷ l) (suc i) v a e = assigns_entry (λ j. S (suc j)) l i v a.1 e

-- two entries
abbrev entries_met : Option Term → Option Term → List (Option Term)
entries_met none q = q ∷ []
entries_met (some v) none = some v ∷ []
entries_met (some v) (some w) = guard (same v w) (some v)

-- the entry that two give, as they give it
data EntryOf (o q x : Option Term) : Type 0 where
  left : x ≡ o → q ≡ none → EntryOf o q x
  right : x ≡ q → o ≡ none → EntryOf o q x
  equal : x ≡ o → o ≡ q → EntryOf o q x

both_is : (o q x : Option Term) → In x (entries_met o q) → EntryOf o q x
both_is none q x p = right (in_one p) refl
both_is (some v) none x p = left (in_one p) refl
both_is (some v) (some w) x p = let r = guard_in (same v w) (some v) x p in equal r.0 (ap some r.1)

-- a predicate of entries that an open entry meets
both_keeps : (P : Option Term → Type 0) (o q x : Option Term) → In x (entries_met o q) → P o → P q → P x
both_keeps P o q x p g h = elim (both_is o q x p) [
  | left e n ↦ subst P (sym e) g
  | right e n ↦ subst P (sym e) h
  | equal e n ↦ subst P (sym e) g
]

extends_both : (v : Term) (o q x : Option Term) → In x (entries_met o q) → ExtendsAt v x → ExtendsAt v o × ExtendsAt v q
extends_both v o q x p f = elim (both_is o q x p) [
  | left e n ↦ (subst (ExtendsAt v) e f, rw n tt)
  | right e n ↦ (rw n tt, subst (ExtendsAt v) e f)
  | equal e n ↦ (subst (ExtendsAt v) e f, subst (ExtendsAt v) (e ∙ n) f)
]

both_extends : (v : Term) (o q : Option Term) → ExtendsAt v o → ExtendsAt v q → (x : Option Term) × In x (entries_met o q) × ExtendsAt v x
both_extends v none q f g = (q, inl refl, g)
both_extends v (some w) none f g = (some w, inl refl, f)
both_extends v (some w) (some u) f g = (some w, in_guard (same w u) (some w) (sym f ∙ g), f)

both_distinct : (o q : Option Term) → Distinct (entries_met o q)
both_distinct none q = (λ p. p, tt)
both_distinct (some v) none = (λ p. p, tt)
both_distinct (some v) (some w) = distinct_guard (same v w) (some v)

-- two lines
abbrev pub joins : Line → Line → List Line
joins [] [] = [] ∷ []
joins [] (q ∷ m) = []
joins (o ∷ l) [] = []
joins (o ∷ l) (q ∷ m) = pairs ◌∷◌ (entries_met o q) (joins l m)

pub extends_joins : (φ : ℕ → Term) (l m k : Line) → In k (joins l m) → Extends φ k → Extends φ l × Extends φ m
extends_joins φ [] [] k p g = (tt, tt)
extends_joins φ [] (q ∷ m) k p g = absurd p
extends_joins φ (o ∷ l) [] k p g = absurd p
extends_joins φ (o ∷ l) (q ∷ m) k p g =
    let r = pairs_in ◌∷◌ k (entries_met o q) (joins l m) p in
    let h : Extends φ (r.0 ∷ r.1) = rw r.4 at g in
    let a = extends_both (φ 0) o q r.0 r.2 h.0 in
    let b = extends_joins (λ i. φ (suc i)) l m r.1 r.3 h.1 in
    ((a.0, b.0), (a.1, b.1))

pub joins_extends : (φ : ℕ → Term) (l m : Line) → length l ≡ length m → Extends φ l → Extends φ m
    → (k : Line) × In k (joins l m) × Extends φ k
joins_extends φ [] [] e g h = ([], inl refl, tt)
joins_extends φ [] (q ∷ m) e g h = absurd (omega arith)
joins_extends φ (o ∷ l) [] e g h = absurd (omega arith)
joins_extends φ (o ∷ l) (q ∷ m) e g h =
    let a = both_extends (φ 0) o q g.0 h.0 in
    let b = joins_extends (λ i. φ (suc i)) l m (omega arith) g.1 h.1 in
    (a.0 ∷ b.0, in_pairs ◌∷◌ a.0 b.0 (entries_met o q) (joins l m) a.1 b.1, (a.2, b.2))

pub joins_distinct : (l m : Line) → Distinct (joins l m)
joins_distinct [] [] = (λ p. p, tt)
joins_distinct [] (q ∷ m) = tt
joins_distinct (o ∷ l) [] = tt
joins_distinct (o ∷ l) (q ∷ m) =
    distinct_pairs ◌∷◌ (λ x x' y y' p. (cc, cc)) (entries_met o q) (joins l m) (both_distinct o q) (joins_distinct l m)

both_once : (o q x y : Option Term) → In x (entries_met o q) → In y (entries_met o q) → x ≡ y
both_once none q x y p r = in_one p ∙ sym (in_one r)
both_once (some v) none x y p r = in_one p ∙ sym (in_one r)
both_once (some v) (some w) x y p r = (guard_in (same v w) (some v) x p).0 ∙ sym (guard_in (same v w) (some v) y r).0

pub joins_once : (l m k j : Line) → In k (joins l m) → In j (joins l m) → k ≡ j
joins_once [] [] k j p r = in_one p ∙ sym (in_one r)
joins_once [] (q ∷ m) k j p r = absurd p
joins_once (o ∷ l) [] k j p r = absurd p
joins_once (o ∷ l) (q ∷ m) k j p r =
    let a = pairs_in ◌∷◌ k (entries_met o q) (joins l m) p in
    let b = pairs_in ◌∷◌ j (entries_met o q) (joins l m) r in
    a.4 ∙ ap₂ ◌∷◌ (both_once o q a.0 b.0 a.2 b.2) (joins_once l m a.1 b.1 a.3 b.3) ∙ sym b.4

pub length_joins : (l m k : Line) → In k (joins l m) → length k ≡ length l
length_joins [] [] k p = ap length (in_one p)
length_joins [] (q ∷ m) k p = absurd p
length_joins (o ∷ l) [] k p = absurd p
length_joins (o ∷ l) (q ∷ m) k p =
    let r = pairs_in ◌∷◌ k (entries_met o q) (joins l m) p in
    ap length r.4 ∙ ap suc (length_joins l m r.1 r.3)

-- what holds of each entry of two lines holds of each entry of their joins
abbrev Entrywise : (ℕ → Option Term → Type 0) → Line → Type 0
Entrywise P [] = Unit {0}
Entrywise P (o ∷ l) = P 0 o × Entrywise (λ i. P (suc i)) l

joins_keeps : (P : ℕ → Option Term → Type 0) (l m k : Line) → In k (joins l m) → Entrywise P l → Entrywise P m → Entrywise P k
joins_keeps P [] [] k p g h = rw (in_one p) tt
joins_keeps P [] (q ∷ m) k p g h = absurd p
joins_keeps P (o ∷ l) [] k p g h = absurd p
joins_keeps P (o ∷ l) (q ∷ m) k p g h =
    let r = pairs_in ◌∷◌ k (entries_met o q) (joins l m) p in
    rw r.4 (both_keeps (P 0) o q r.0 r.2 g.0 h.0, joins_keeps (λ i. P (suc i)) l m r.1 r.3 g.1 h.1)

assigns_entrywise : (S : ℕ → Type 0) (l : Line) → Assigns S l ≡ Entrywise (λ i. AssignsAt (S i)) l
assigns_entrywise S [] = refl
assigns_entrywise S (o ∷ l) = rw (assigns_entrywise (λ i. S (suc i)) l)

pub assigns_joins : (S : ℕ → Type 0) (l m k : Line) → In k (joins l m) → Assigns S l → Assigns S m → Assigns S k
assigns_joins S l m k p g h =
    rw (assigns_entrywise S k)
    (joins_keeps (λ i. AssignsAt (S i)) l m k p (rw (assigns_entrywise S l) at g) (rw (assigns_entrywise S m) at h))

-- a predicate of each value
abbrev EachAt : (Term → Type 0) → Option Term → Type 0
EachAt P none = Unit {0}
EachAt P (some v) = P v

abbrev pub Each : (Term → Type 0) → Line → Type 0
Each P l = Entrywise (λ i. EachAt P) l

pub each_joins : (P : Term → Type 0) (l m k : Line) → In k (joins l m) → Each P l → Each P m → Each P k
each_joins P l m k p g h = joins_keeps (λ i. EachAt P) l m k p g h

pub each_blank : (P : Term → Type 0) (n : ℕ) → Each P (open_line n)
each_blank P zero = tt
each_blank P (suc n) = (tt, each_blank P n)

pub each_set : (P : Term → Type 0) (l : Line) (i : ℕ) (t : Term) → P t → Each P l → Each P (set l i (some t))
each_set P [] i t h g = tt
each_set P (o ∷ l) zero t h g = (h, g.1)
each_set P (o ∷ l) (suc i) t h g = (g.0, each_set P l i t h g.1)

pub each_more : (P Q : Term → Type 0) → ((v : Term) → P v → Q v) → (l : Line) → Each P l → Each Q l
each_more P Q f [] h = tt
each_more P Q f (none ∷ l) h = (tt, each_more P Q f l h.1)
each_more P Q f (some v ∷ l) h = (f v h.0, each_more P Q f l h.1)

-- lines of two lists
abbrev pub merge : List Line → List Line → List Line
merge ls ms = flat_map (λ l. flat_map (λ m. joins l m) ms) ls

module _ (ls ms : List Line) (k : Line) where
  pub merge_in : In k (merge ls ms) → (l m : Line) × In l ls × In m ms × In k (joins l m)
  merge_in p =
      let r = flat_map_in (λ l. flat_map (λ m. joins l m) ms) k ls p in
      let s = flat_map_in (λ m. joins r.0 m) k ms r.2 in
      (r.0, s.0, r.1, s.1, s.2)

  pub in_merge : (l m : Line) → In l ls → In m ms → In k (joins l m) → In k (merge ls ms)
  in_merge l m p q j = in_flat_map (λ l. flat_map (λ m. joins l m) ms) l k ls p (in_flat_map (λ m. joins l m) m k ms q j)
