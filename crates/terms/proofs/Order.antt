-- The order of lines is strict and total, sorting puts lines in it, and rising lines with the same members are the same.
-- The order is lexicographic twice over, so that each law is one of `Lexicographic`; sorting is by insertion. Assumes nothing.
use mathlib.Core.Path.{◌≡◌, refl, sym, ap, ap₂, ◌∙◌, subst}
use mathlib.Core.Option.{Option, none, some}
use mathlib.Core.List.{List, [], ◌∷◌}
use mathlib.Core.Logic.{◌⊎◌, inl, inr, ⊎_elim}
use Prim.Native.Nat.{ℕ, ◌+◌, ◌≤◌, ◌<◌}
use native.Mathlib.Omega.{arith}
use native.Mathlib.Decide.{dec_lt}
use lib.Dec.{lit<}
use lib.ListN.{length, get_or, drop}
use Rattle.terms.specs.Term.{Term}
use Rattle.terms.specs.Listing.{In, Line, Lexicographic, rank, Before, Less, Rising}
use Rattle.terms.specs.Members.{Distinct}
use Rattle.terms.proofs.Table.{records_inj}

pub data Compared {A : Type 0} (R : A → A → Type 0) (x y : A) : Type 0 where
  lt : R x y → Compared R x y
  eq : x ≡ y → Compared R x y
  gt : R y x → Compared R x y

module _ {A : Type 0} (R : A → A → Type 0) (irrefl : (x : A) → R x x → ⊥) (trans : (x y z : A) → R x y → R y z → R x z) where
  pub lexicographic_irrefl : (l : List A) → Lexicographic R l l → ⊥
  lexicographic_irrefl [] h = h
  lexicographic_irrefl (x ∷ l) (inl h) = irrefl x h
  lexicographic_irrefl (x ∷ l) (inr h) = lexicographic_irrefl l h.1

  pub lexicographic_trans : (l m k : List A) → Lexicographic R l m → Lexicographic R m k → Lexicographic R l k
  lexicographic_trans [] [] k h g = absurd h
  lexicographic_trans [] (y ∷ m) [] h g = g
  lexicographic_trans [] (y ∷ m) (z ∷ k) h g = tt
  lexicographic_trans (x ∷ l) [] k h g = absurd h
  lexicographic_trans (x ∷ l) (y ∷ m) [] h g = absurd g
  lexicographic_trans (x ∷ l) (y ∷ m) (z ∷ k) (inl h) (inl g) = inl (trans x y z h g)
  lexicographic_trans (x ∷ l) (y ∷ m) (z ∷ k) (inl h) (inr g) = inl (subst (R x) g.0 h)
  lexicographic_trans (x ∷ l) (y ∷ m) (z ∷ k) (inr h) (inl g) = inl (subst (λ w. R w z) (sym h.0) g)
  lexicographic_trans (x ∷ l) (y ∷ m) (z ∷ k) (inr h) (inr g) = inr (h.0 ∙ g.0, lexicographic_trans l m k h.1 g.1)

module _ {A : Type 0} (R : A → A → Type 0) (order : (x y : A) → Compared R x y) where
  abbrev heads : (x y : A) (l m : List A) → Compared R x y → Compared (Lexicographic R) l m → Compared (Lexicographic R) (x ∷ l) (y ∷ m)
  heads x y l m (lt h) o = lt (inl h)
  heads x y l m (gt h) o = gt (inl h)
  heads x y l m (eq h) (lt o) = lt (inr (h, o))
  heads x y l m (eq h) (eq o) = eq (ap₂ ◌∷◌ h o)
  heads x y l m (eq h) (gt o) = gt (inr (sym h, o))

  abbrev pub lexicographic_order : (l m : List A) → Compared (Lexicographic R) l m
  lexicographic_order [] [] = eq refl
  lexicographic_order [] (y ∷ m) = lt tt
  lexicographic_order (x ∷ l) [] = gt tt
  lexicographic_order (x ∷ l) (y ∷ m) = heads x y l m (order x y) (lexicographic_order l m)

abbrev two : (x y : ℕ) → Dec (x < y) → Dec (y < x) → Compared ◌<◌ x y
two x y (yes h) e = lt h
two x y (no h) (yes g) = gt g
two x y (no h) (no g) = eq (omega arith)

abbrev ℕ_order : (x y : ℕ) → Compared ◌<◌ x y
ℕ_order x y = two x y (dec_lt x y) (dec_lt y x)

ℕ_irrefl : (x : ℕ) → x < x → ⊥
ℕ_irrefl x h = omega arith

ℕ_trans : (x y z : ℕ) → x < y → y < z → x < z
ℕ_trans x y z h g = omega arith

-- entries, and lines
pub rank_inj : (o q : Option Term) → rank o ≡ rank q → o ≡ q
rank_inj none none p = refl
rank_inj none (some w) p = absurd (omega (arith, ap (λ l. get_or l 0 0) p))
rank_inj (some v) none p = absurd (omega (arith, ap (λ l. get_or l 0 0) p))
rank_inj (some v) (some w) p = ap some (records_inj v w (ap (drop 1) p))

-- "Open comes before assigned."
pub before_open : (v : Term) → Before none (some v)
before_open v = inl (lit< tt)

before_irrefl : (o : Option Term) → Before o o → ⊥
before_irrefl o h = lexicographic_irrefl ◌<◌ ℕ_irrefl ℕ_trans (rank o) h

before_trans : (o q r : Option Term) → Before o q → Before q r → Before o r
before_trans o q r h g = lexicographic_trans ◌<◌ ℕ_irrefl ℕ_trans (rank o) (rank q) (rank r) h g

abbrev ranked : (o q : Option Term) → Compared (Lexicographic ◌<◌) (rank o) (rank q) → Compared Before o q
ranked o q (lt h) = lt h
ranked o q (eq h) = eq (rank_inj o q h)
ranked o q (gt h) = gt h

abbrev before_order : (o q : Option Term) → Compared Before o q
before_order o q = ranked o q (lexicographic_order ◌<◌ ℕ_order (rank o) (rank q))

pub less_irrefl : (l : Line) → Less l l → ⊥
less_irrefl l h = lexicographic_irrefl Before before_irrefl before_trans l h

pub less_trans : (l m k : Line) → Less l m → Less m k → Less l k
less_trans l m k h g = lexicographic_trans Before before_irrefl before_trans l m k h g

abbrev pub order : (l m : Line) → Compared Less l m
order l m = lexicographic_order Before before_order l m

pub rising_distinct : (ls : List Line) → Rising ls → Distinct ls
rising_distinct [] u = tt
rising_distinct (l ∷ ls) u = (λ p. less_irrefl l (u.0 l p), rising_distinct ls u.1)

-- put in its place, and left out if it is there
abbrev place : (l m : Line) (ms rest : List Line) → Compared Less l m → List Line
place l m ms rest (lt o) = l ∷ m ∷ ms
place l m ms rest (eq o) = m ∷ ms
place l m ms rest (gt o) = m ∷ rest

abbrev pub insert : Line → List Line → List Line
insert l [] = l ∷ []
insert l (m ∷ ms) = place l m ms (insert l ms) (order l m)

abbrev pub sort : List Line → List Line
sort [] = []
sort (l ∷ ls) = insert l (sort ls)

place_in : (x l m : Line) (ms rest : List Line) (o : Compared Less l m) → (In x rest → (x ≡ l) ⊎ In x ms) → In x (place l m ms rest o)
    → (x ≡ l) ⊎ In x (m ∷ ms)
place_in x l m ms rest (lt o) f p = p
place_in x l m ms rest (eq o) f p = inr p
place_in x l m ms rest (gt o) f (inl p) = inr (inl p)
place_in x l m ms rest (gt o) f (inr p) = ⊎_elim inl (λ q. inr (inr q)) (f p)

insert_in : (x l : Line) (ms : List Line) → In x (insert l ms) → (x ≡ l) ⊎ In x ms
insert_in x l [] p = p
insert_in x l (m ∷ ms) p = place_in x l m ms (insert l ms) (order l m) (insert_in x l ms) p

in_place : (x l m : Line) (ms rest : List Line) (o : Compared Less l m) → ((x ≡ l) ⊎ In x ms → In x rest) → (x ≡ l) ⊎ In x (m ∷ ms)
    → In x (place l m ms rest o)
in_place x l m ms rest (lt o) f p = p
in_place x l m ms rest (eq o) f (inl p) = inl (p ∙ o)
in_place x l m ms rest (eq o) f (inr p) = p
in_place x l m ms rest (gt o) f (inl p) = inr (f (inl p))
in_place x l m ms rest (gt o) f (inr (inl p)) = inl p
in_place x l m ms rest (gt o) f (inr (inr p)) = inr (f (inr p))

in_insert : (x l : Line) (ms : List Line) → (x ≡ l) ⊎ In x ms → In x (insert l ms)
in_insert x l [] p = p
in_insert x l (m ∷ ms) p = in_place x l m ms (insert l ms) (order l m) (in_insert x l ms) p

rising_place : (l m : Line) (ms rest : List Line) (o : Compared Less l m) → Rising (m ∷ ms) → Rising rest
    → ((x : Line) → In x rest → (x ≡ l) ⊎ In x ms) → Rising (place l m ms rest o)
rising_place l m ms rest (lt o) u v f =
    (λ x p. ⊎_elim (λ q. subst (λ y. Less l y) (sym q) o) (λ q. less_trans l m x o (u.0 x q)) p, u)
rising_place l m ms rest (eq o) u v f = u
rising_place l m ms rest (gt o) u v f = (λ x p. ⊎_elim (λ q. subst (λ y. Less m y) (sym q) o) (u.0 x) (f x p), v)

rising_insert : (l : Line) (ms : List Line) → Rising ms → Rising (insert l ms)
rising_insert l [] u = (λ x p. absurd p, tt)
rising_insert l (m ∷ ms) u = rising_place l m ms (insert l ms) (order l m) u (rising_insert l ms u.1) (λ x. insert_in x l ms)

pub rising_sort : (ls : List Line) → Rising (sort ls)
rising_sort [] = tt
rising_sort (l ∷ ls) = rising_insert l (sort ls) (rising_sort ls)

pub sort_distinct : (ls : List Line) → Distinct (sort ls)
sort_distinct ls = rising_distinct (sort ls) (rising_sort ls)

pub sort_in : (x : Line) (ls : List Line) → In x (sort ls) → In x ls
sort_in x [] p = p
sort_in x (l ∷ ls) p = ⊎_elim inl (λ q. inr (sort_in x ls q)) (insert_in x l (sort ls) p)

pub in_sort : (x : Line) (ls : List Line) → In x ls → In x (sort ls)
in_sort x [] p = p
in_sort x (l ∷ ls) (inl p) = in_insert x l (sort ls) (inl p)
in_sort x (l ∷ ls) (inr p) = in_insert x l (sort ls) (inr (in_sort x ls p))

-- two lists that go up and have the same members are the same
same_head : (l m : Line) (ls ms : List Line) → Rising (l ∷ ls) → Rising (m ∷ ms) → In l (m ∷ ms) → In m (l ∷ ls) → l ≡ m
same_head l m ls ms u v (inl p) q = p
same_head l m ls ms u v (inr p) (inl q) = sym q
same_head l m ls ms u v (inr p) (inr q) = absurd (less_irrefl l (less_trans l m l (u.0 m q) (v.0 l p)))

same_tail : (l m x : Line) (ls ms : List Line) → Rising (l ∷ ls) → l ≡ m → In x ls → In x (m ∷ ms) → In x ms
same_tail l m x ls ms u e p (inl q) = absurd (less_irrefl l (subst (λ y. Less l y) (q ∙ sym e) (u.0 x p)))
same_tail l m x ls ms u e p (inr q) = q

pub rising_same : (ls ms : List Line) → Rising ls → Rising ms → ((x : Line) → In x ls → In x ms)
    → ((x : Line) → In x ms → In x ls) → ls ≡ ms
rising_same [] [] u v f g = refl
rising_same [] (m ∷ ms) u v f g = absurd (g m (inl refl))
rising_same (l ∷ ls) [] u v f g = absurd (f l (inl refl))
rising_same (l ∷ ls) (m ∷ ms) u v f g =
    let e = same_head l m ls ms u v (f l (inl refl)) (g m (inl refl)) in
    ap₂ ◌∷◌ e (rising_same ls ms u.1 v.1 (λ x p. same_tail l m x ls ms u e p (f x (inr p)))
    (λ x p. same_tail m l x ms ls v (sym e) p (g x (inr p))))

-- lines that are found, none twice, come to no more than all, by any measure that adds up
module _ (weight : Line → ℕ) (total : List Line → ℕ) (start : total [] ≡ 0)
    (next : (l : Line) (ls : List Line) → total (l ∷ ls) ≡ weight l + total ls) where
  without : (l : Line) (ms : List Line) → In l ms
      → (rs : List Line) × (total ms ≡ weight l + total rs) × ((x : Line) → In x ms → (x ≡ l) ⊎ In x rs)
  without l (m ∷ ms) (inl p) =
      (ms, next m ms ∙ ap (λ (k : Line). weight k + total ms) (sym p), λ x q. ⊎_elim (λ e. inl (e ∙ sym p)) inr q)
  without l (m ∷ ms) (inr p) =
      let r = without l ms p in (
        m ∷ r.0,
        omega (arith, r.1, next m ms, next m r.0),
        λ x q. ⊎_elim (λ e. inr (inl e)) (λ e. ⊎_elim inl (λ z. inr (inr z)) (r.2 x e)) q,
      )
  without l [] x' = elim x' [ ]

  pub found_total : (ls ms : List Line) → Distinct ls → ((x : Line) → In x ls → In x ms) → total ls ≤ total ms
  found_total [] ms h f = omega (arith, start)
  found_total (l ∷ ls) ms h f =
      let r = without l ms (f l (inl refl)) in
      let g : (x : Line) → In x ls → In x r.0 =
      λ x p. ⊎_elim (λ e. absurd (h.0 (subst (λ y. In y ls) e p))) (λ z. z) (r.2 x (f x (inr p))) in
      omega (arith, r.1, next l ls, found_total ls r.0 h.1 g)

pub found_length : (ls ms : List Line) → Distinct ls → ((x : Line) → In x ls → In x ms) → length ls ≤ length ms
found_length = found_total (λ _. 1) length refl (λ l ls. omega arith)
