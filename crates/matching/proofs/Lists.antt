-- Lines that list the assignments of a predicate: laws over any predicate. A line is never found twice and never by two alternatives,
-- because each line has a filling, and that filling satisfies one predicate only. Assumes nothing.
--   Under Q k      one of the predicates Q i for i below k
--   fillings l u   the total assignment of the line l, with u for the open entries
use mathlib.Core.Path.{◌≡◌, refl, sym, ap, ◌∙◌, subst, subst₂}
use mathlib.Core.Option.{none, some}
use mathlib.Core.List.{List, [], ◌∷◌, ◌++◌}
use mathlib.Core.Logic.{◌⊎◌, inl, inr, ◌↔◌}
use Prim.Native.Nat.{ℕ, zero, suc, ◌<◌}
use lib.Dec.{lit<}
use lib.ListN.{length}
use Rattle.terms.specs.Term.{Term, con, Value}
use Rattle.terms.specs.Assignment.{Assigns}
use Rattle.terms.specs.Listing.{In, Line}
use Rattle.terms.specs.Members.{Distinct}
use Rattle.terms.proofs.Members.{in_left, in_right, in_append, distinct_append, in_one}
use Rattle.matching.specs.Lists.{Predicate, Lists, Values, Extends}
use Rattle.matching.proofs.Members.{flat_map, flat_map_in, distinct_flat_map}
use Rattle.matching.proofs.Lines.{joins, merge, extends_joins, joins_extends, joins_once, joins_distinct}
use Rattle.matching.proofs.Lines.{length_joins, assigns_joins, assigns_more, merge_in, in_merge}

abbrev pub Under : (ℕ → Predicate) → ℕ → Predicate
Under Q k φ = (i : ℕ) × (i < k) × Q i φ

-- a line's fillings
abbrev pub fillings : Line → Term → ℕ → Term
fillings [] u i = u
fillings (none ∷ l) u zero = u
fillings (some v ∷ l) u zero = v
fillings (o ∷ l) u (suc i) = fillings l u i

pub extends_fillings : (l : Line) (u : Term) → Extends (fillings l u) l
extends_fillings [] u = tt
extends_fillings (none ∷ l) u = (tt, extends_fillings l u)
extends_fillings (some v ∷ l) u = (refl, extends_fillings l u)

pub values_fillings : (S : ℕ → Type 0) (l : Line) (u : Term) → Assigns S l → Value u → Values (fillings l u)
values_fillings S [] u a v i = v
values_fillings S (none ∷ l) u a v zero = v
values_fillings S (some w ∷ l) u a v zero = a.0.1
values_fillings S (none ∷ l) u a v (suc i) = values_fillings (λ j. S (suc j)) l u a.1 v i
values_fillings S (some w ∷ l) u a v (suc i) = values_fillings (λ j. S (suc j)) l u a.1 v i

-- an assignment that extends the line l
pub record Witness (l : Line) : Type 0 where
  pub φ : ℕ → Term
  pub values : Values φ
  pub extends : Extends φ l

pub witness : (S : ℕ → Type 0) (l : Line) → Assigns S l → Witness l
witness S l a = record {
  φ = fillings l (con 0);
  values = values_fillings S l (con 0) a (tt, tt, lit< tt);
  extends = extends_fillings l (con 0);
}

module _ (n : ℕ) (S : ℕ → Type 0) where
  -- the same assignments
  pub lists_same : (Q R : Predicate) (ls : List Line) → ((φ : ℕ → Term) → Values φ → Q φ ↔ R φ) → Lists n S R ls → Lists n S Q ls
  lists_same Q R ls e x = record {
    entries = x.entries;
    assigns = x.assigns;
    sound = λ φ v l i g. (e φ v).1 (x.sound φ v l i g);
    covers = λ φ v s. x.covers φ v ((e φ v).0 s);
    once = x.once;
    distinct = x.distinct;
  }

  -- more variables
  pub lists_more : (R : ℕ → Type 0) (Q : Predicate) (ls : List Line) → ((i : ℕ) → R i → S i) → Lists n R Q ls → Lists n S Q ls
  lists_more R Q ls f x = record {
    entries = x.entries;
    assigns = λ l i. assigns_more R S f l (x.assigns l i);
    sound = x.sound;
    covers = x.covers;
    once = x.once;
    distinct = x.distinct;
  }

  -- no assignment at all: this is what a search that skips a branch leans on
  pub lists_none : (Q : Predicate) → ((φ : ℕ → Term) → Values φ → ¬ Q φ) → Lists n S Q []
  lists_none Q f = record {
    entries = λ l i. absurd i;
    assigns = λ l i. absurd i;
    sound = λ φ v l i g. absurd i;
    covers = λ φ v s. absurd (f φ v s);
    once = λ φ v l m i j g h. absurd i;
    distinct = tt;
  }

  -- one line
  pub lists_one : (Q : Predicate) (k : Line) → length k ≡ n → Assigns S k → ((φ : ℕ → Term) → Values φ → Q φ ↔ Extends φ k)
      → Lists n S Q (k ∷ [])
  lists_one Q k e a f = record {
    entries = λ l i. ap length (in_one i) ∙ e;
    assigns = λ l i. subst (Assigns S) (sym (in_one i)) a;
    sound = λ φ v l i g. (f φ v).1 (subst (Extends φ) (in_one i) g);
    covers = λ φ v s. (k, inl refl, (f φ v).0 s);
    once = λ φ v l m i j g h. in_one i ∙ sym (in_one j);
    distinct = (λ i. i, tt);
  }

  -- one predicate or another, and never both
  pub lists_or :
      (Q R : Predicate) (ls ms : List Line) → ((φ : ℕ → Term) → Values φ → Q φ → R φ → ⊥)
      → Lists n S Q ls → Lists n S R ms → Lists n S (λ φ. Q φ ⊎ R φ) (ls ++ ms)
  lists_or Q R ls ms apart x y = record {
    entries = λ l i. entries l (in_append l ls ms i);
    assigns = λ l i. assigns l (in_append l ls ms i);
    sound = λ φ v l i g. sound φ v l g (in_append l ls ms i);
    covers = λ φ v s. covers φ v s;
    once = λ φ v l m i j g h. once φ v l m g h (in_append l ls ms i) (in_append m ls ms j);
    distinct = distinct_append ls ms x.distinct y.distinct
        (λ l i j. let w = witness S l (x.assigns l i) in
        apart w.φ w.values (x.sound w.φ w.values l i w.extends) (y.sound w.φ w.values l j w.extends));
  }
    where
      entries : (l : Line) → In l ls ⊎ In l ms → length l ≡ n
      entries l (inl i) = x.entries l i
      entries l (inr i) = y.entries l i

      assigns : (l : Line) → In l ls ⊎ In l ms → Assigns S l
      assigns l (inl i) = x.assigns l i
      assigns l (inr i) = y.assigns l i

      sound : (φ : ℕ → Term) → Values φ → (l : Line) → Extends φ l → In l ls ⊎ In l ms → Q φ ⊎ R φ
      sound φ v l g (inl i) = inl (x.sound φ v l i g)
      sound φ v l g (inr i) = inr (y.sound φ v l i g)

      covers : (φ : ℕ → Term) → Values φ → Q φ ⊎ R φ → (l : Line) × In l (ls ++ ms) × Extends φ l
      covers φ v (inl s) = let c = x.covers φ v s in (c.0, in_left c.0 ls ms c.1, c.2)
      covers φ v (inr s) = let c = y.covers φ v s in (c.0, in_right c.0 ls ms c.1, c.2)

      once : (φ : ℕ → Term) → Values φ → (l m : Line) → Extends φ l → Extends φ m → In l ls ⊎ In l ms → In m ls ⊎ In m ms → l ≡ m
      once φ v l m g h (inl i) (inl j) = x.once φ v l m i j g h
      once φ v l m g h (inr i) (inr j) = y.once φ v l m i j g h
      once φ v l m g h (inl i) (inr j) = absurd (apart φ v (x.sound φ v l i g) (y.sound φ v m j h))
      once φ v l m g h (inr i) (inl j) = absurd (apart φ v (x.sound φ v m j h) (y.sound φ v l i g))

  -- one of several predicates, and never two
  pub lists_some :
      {A : Type 0} (Q : A → Predicate) (f : A → List Line) (xs : List A) → Distinct xs
      → ((φ : ℕ → Term) → Values φ → (x y : A) → In x xs → In y xs → Q x φ → Q y φ → x ≡ y)
      → ((x : A) → In x xs → Lists n S (Q x) (f x)) → Lists n S (λ φ. (x : A) × In x xs × Q x φ) (flat_map f xs)
  lists_some {A} Q f [] d apart g = lists_none (λ φ. (x : A) × ⊥ × Q x φ) (λ φ v s. s.1)
  lists_some {A} Q f (y ∷ xs) d apart g =
      lists_same (λ φ. (x : A) × In x (y ∷ xs) × Q x φ) (λ φ. Q y φ ⊎ ((x : A) × In x xs × Q x φ)) (f y ++ flat_map f xs)
      (λ φ v. (λ s. to φ s.0 s.1 s.2, from φ))
      (lists_or (Q y) (λ φ. (x : A) × In x xs × Q x φ) (f y) (flat_map f xs)
      (λ φ v s r. d.0 (subst (λ z. In z xs) (sym (apart φ v y r.0 (inl refl) (inr r.1) s r.2)) r.1))
      (g y (inl refl)) (lists_some Q f xs d.1 (λ φ v x z i j. apart φ v x z (inr i) (inr j)) (λ x i. g x (inr i))))
    where
      to : (φ : ℕ → Term) (x : A) → In x (y ∷ xs) → Q x φ → Q y φ ⊎ ((x : A) × In x xs × Q x φ)
      to φ x (inl e) s = inl (subst (λ z. Q z φ) e s)
      to φ x (inr i) s = inr (x, i, s)

      from : (φ : ℕ → Term) → Q y φ ⊎ ((x : A) × In x xs × Q x φ) → (x : A) × In x (y ∷ xs) × Q x φ
      from φ (inl s) = (y, inl refl, s)
      from φ (inr s) = (s.0, inr s.1, s.2)

  -- both predicates
  pub lists_and : (Q R : Predicate) (ls ms : List Line) → Lists n S Q ls → Lists n S R ms → Lists n S (λ φ. Q φ × R φ) (merge ls ms)
  lists_and Q R ls ms x y = record {
    entries = λ k i. let r = merge_in ls ms k i in length_joins r.0 r.1 k r.4 ∙ x.entries r.0 r.2;
    assigns = λ k i. let r = merge_in ls ms k i in assigned r.0 r.1 k r.2 r.3 r.4;
    sound = λ φ v k i g.
        let r = merge_in ls ms k i in
        let a = extends_joins φ r.0 r.1 k r.4 g in
        (x.sound φ v r.0 r.2 a.0, y.sound φ v r.1 r.3 a.1);
    covers = λ φ v s.
        let a = x.covers φ v s.0 in
        let b = y.covers φ v s.1 in
        let k = joins_extends φ a.0 b.0 (x.entries a.0 a.1 ∙ sym (y.entries b.0 b.1)) a.2 b.2 in
        (k.0, in_merge ls ms k.0 a.0 b.0 a.1 b.1 k.1, k.2);
    once = λ φ v k j i i' g h.
        let r = merge_in ls ms k i in
        let s = merge_in ls ms j i' in
        let a = extends_joins φ r.0 r.1 k r.4 g in
        let b = extends_joins φ s.0 s.1 j s.4 h in
        let p = x.once φ v r.0 s.0 r.2 s.2 a.0 b.0 in
        let q = y.once φ v r.1 s.1 r.3 s.3 a.1 b.1 in
        joins_once s.0 s.1 k j (subst₂ (λ (u w : Line). In k (joins u w)) p q r.4) s.4;
    distinct = distinct_flat_map (λ l. flat_map (λ m. joins l m) ms) ls x.distinct
        (λ l i. distinct_flat_map (λ m. joins l m) ms y.distinct (λ m j. joins_distinct l m)
        (λ m m' k j j' p p'.
        let w = witness S k (assigned l m k i j p) in
        y.once w.φ w.values m m' j j' (extends_joins w.φ l m k p w.extends).1
        (extends_joins w.φ l m' k p' w.extends).1))
        (λ l l' k i i' p p'.
        let r = flat_map_in (λ m. joins l m) k ms p in
        let s = flat_map_in (λ m. joins l' m) k ms p' in
        let w = witness S k (assigned l r.0 k i r.1 r.2) in
        x.once w.φ w.values l l' i i' (extends_joins w.φ l r.0 k r.2 w.extends).0
        (extends_joins w.φ l' s.0 k s.2 w.extends).0);
  }
    where
      assigned : (l m k : Line) → In l ls → In m ms → In k (joins l m) → Assigns S k
      assigned l m k i j p = assigns_joins S l m k p (x.assigns l i) (y.assigns m j)
