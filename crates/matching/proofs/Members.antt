-- Lists made from lists: what their members are, and that none stands twice. By induction on the lists. Assumes nothing.
--   guard o x     x alone where o decides yes, and nothing where it decides no
--   flat_map f l   what f makes of each member of l, one after the other
--   nub l         each member of l once
use mathlib.Core.Path.{◌≡◌, refl, sym, ap, ◌∙◌, subst}
use mathlib.Core.Logic.{◌⊎◌, inl, inr}
use mathlib.Core.List.{List, [], ◌∷◌, ◌++◌, map}
use Rattle.terms.specs.Listing.{In}
use Rattle.terms.specs.Members.{Distinct}
use Rattle.terms.proofs.Members.{dec-⊎, in_left, in_right, in_append, distinct_append}
use Rattle.matching.specs.Abstractions.{pairs}

abbrev pub guard : {A X : Type 0} → Dec A → X → List X
guard (yes p) x = x ∷ []
guard (no p) x = []

module _ {A B : Type 0} where
  abbrev pub flat_map : (A → List B) → List A → List B
  flat_map f [] = []
  flat_map f (x ∷ l) = f x ++ flat_map f l

abbrev unless : {A X : Type 0} → Dec A → X → List X → List X
unless (yes p) x l = l
unless (no p) x l = x ∷ l

module _ {A : Type 0} (same : Discrete A) where
  abbrev in? : (x : A) (l : List A) → Dec (In x l)
  in? x [] = no (λ p. p)
  in? x (y ∷ l) = dec-⊎ (same x y) (in? x l)

  abbrev pub nub : List A → List A
  nub [] = []
  nub (x ∷ l) = unless (in? x l) x (nub l)

module _ {A X : Type 0} where
  pub in_guard : (o : Dec A) (x : X) → A → In x (guard o x)
  in_guard (yes p) x h = inl refl
  in_guard (no p) x h = absurd (p h)

  pub guard_in : (o : Dec A) (x b : X) → In b (guard o x) → (b ≡ x) × A
  guard_in (yes p) x b (inl q) = (q, p)
  guard_in (no _) x b x5 = elim x5 [ ]
  guard_in (yes p) x b (inr x4) = elim x4 [ ]

  pub distinct_guard : (o : Dec A) (x : X) → Distinct (guard o x)
  distinct_guard (yes p) x = (λ q. q, tt)
  distinct_guard (no p) x = tt

module _ {A B : Type 0} (f : A → B) where
  pub in_map : (x : A) (l : List A) → In x l → In (f x) (map f l)
  in_map x (y ∷ l) (inl p) = inl (ap f p)
  in_map x (y ∷ l) (inr p) = inr (in_map x l p)
  in_map x [] x'' = elim x'' [ ]

  pub map_in : (z : B) (l : List A) → In z (map f l) → (x : A) × In x l × (z ≡ f x)
  map_in z (y ∷ l) (inl p) = (y, inl refl, p)
  map_in z (y ∷ l) (inr p) = let q = map_in z l p in (q.0, inr q.1, q.2)
  map_in z [] x' = elim x' [ ]

  pub distinct_map : ((x y : A) → f x ≡ f y → x ≡ y) → (l : List A) → Distinct l → Distinct (map f l)
  distinct_map inj [] h = tt
  distinct_map inj (x ∷ l) h =
      (λ p. let q = map_in (f x) l p in h.0 (subst (λ y. In y l) (sym (inj x q.0 q.2)) q.1), distinct_map inj l h.1)

module _ {A B : Type 0} (f : A → List B) where
  pub in_flat_map : (x : A) (z : B) (l : List A) → In x l → In z (f x) → In z (flat_map f l)
  in_flat_map x z (y ∷ l) (inl p) q = in_left z (f y) (flat_map f l) (rw p at q)
  in_flat_map x z (y ∷ l) (inr p) q = in_right z (f y) (flat_map f l) (in_flat_map x z l p q)
  in_flat_map x z [] x3 q = elim x3 [ ]

  pub flat_map_in : (z : B) (l : List A) → In z (flat_map f l) → (x : A) × In x l × In z (f x)
  flat_map_in z (y ∷ l) p = go (in_append z (f y) (flat_map f l) p) (flat_map_in z l)
    where
      go : In z (f y) ⊎ In z (flat_map f l) → (In z (flat_map f l) → (x : A) × In x l × In z (f x)) → (x : A) × In x (y ∷ l) × In z (f x)
      go (inl q) ih = (y, inl refl, q)
      go (inr q) ih = let r = ih q in (r.0, inr r.1, r.2)
  flat_map_in z [] p = elim p [ ]

module _ {A B C : Type 0} (f : A → B → C) where
  pub in_pairs : (x : A) (y : B) (l : List A) (m : List B) → In x l → In y m → In (f x y) (pairs f l m)
  in_pairs x y (z ∷ l) m (inl p) q = in_left (f x y) (map (f z) m) (pairs f l m) (rw p (in_map (f z) y m q))
  in_pairs x y (z ∷ l) m (inr p) q = in_right (f x y) (map (f z) m) (pairs f l m) (in_pairs x y l m p q)
  in_pairs x y [] m x3 q = elim x3 [ ]

  pub pairs_in : (z : C) (l : List A) (m : List B) → In z (pairs f l m) → (x : A) × (y : B) × In x l × In y m × (z ≡ f x y)
  pairs_in z (x ∷ l) m p = go (in_append z (map (f x) m) (pairs f l m) p) (pairs_in z l m)
    where
      go : In z (map (f x) m) ⊎ In z (pairs f l m) → (In z (pairs f l m) → (x : A) × (y : B) × In x l × In y m × (z ≡ f x y))
          → (w : A) × (y : B) × In w (x ∷ l) × In y m × (z ≡ f w y)
      go (inl q) ih = let r = map_in (f x) z m q in (x, r.0, inl refl, r.1, r.2)
      go (inr q) ih = let r = ih q in (r.0, r.1, inr r.2, r.3, r.4)
  pairs_in z [] m p = elim p [ ]

  pub distinct_pairs : ((x x' : A) (y y' : B) → f x y ≡ f x' y' → (x ≡ x') × (y ≡ y')) → (l : List A) (m : List B) → Distinct l → Distinct m
      → Distinct (pairs f l m)
  distinct_pairs inj [] m h k = tt
  distinct_pairs inj (x ∷ l) m h k =
      distinct_append (map (f x) m) (pairs f l m) (distinct_map (f x) (λ y y' e. (inj x x y y' e).1) m k) (distinct_pairs inj l m h.1 k)
      (λ z p q.
      let r = map_in (f x) z m p in
      let s = pairs_in z l m q in
      h.0 (subst (λ w. In w l) (inj s.0 x s.1 r.0 (sym s.4 ∙ r.2)).0 s.2))

module _ {A : Type 0} (same : Discrete A) where
  unless_in : {B : Type 0} (o : Dec B) (x y : A) (l m : List A) → (In y m → In y l) → In y (unless o x m) → In y (x ∷ l)
  unless_in (yes p) x y l m f h = inr (f h)
  unless_in (no p) x y l m f (inl h) = inl h
  unless_in (no p) x y l m f (inr h) = inr (f h)

  in_unless : (x y : A) (l m : List A) (o : Dec (In x l)) → (In y l → In y m) → In y (x ∷ l) → In y (unless o x m)
  in_unless x y l m (yes p) f (inl h) = f (subst (λ z. In z l) (sym h) p)
  in_unless x y l m (yes p) f (inr h) = f h
  in_unless x y l m (no p) f (inl h) = inl h
  in_unless x y l m (no p) f (inr h) = inr (f h)

  pub nub_in : (y : A) (l : List A) → In y (nub same l) → In y l
  nub_in y [] h = h
  nub_in y (x ∷ l) h = unless_in (in? same x l) x y l (nub same l) (nub_in y l) h

  pub in_nub : (y : A) (l : List A) → In y l → In y (nub same l)
  in_nub y [] h = h
  in_nub y (x ∷ l) h = in_unless x y l (nub same l) (in? same x l) (in_nub y l) h

  distinct_unless : (x : A) (l m : List A) (o : Dec (In x l)) → (In x m → In x l) → Distinct m → Distinct (unless o x m)
  distinct_unless x l m (yes p) f h = h
  distinct_unless x l m (no p) f h = (λ q. p (f q), h)

  pub distinct_nub : (l : List A) → Distinct (nub same l)
  distinct_nub [] = tt
  distinct_nub (x ∷ l) = distinct_unless x l (nub same l) (in? same x l) (nub_in x l) (distinct_nub l)

module _ {A B : Type 0} (f : A → List B) where
  pub distinct_flat_map : (l : List A) → Distinct l → ((x : A) → In x l → Distinct (f x))
      → ((x y : A) (z : B) → In x l → In y l → In z (f x) → In z (f y) → x ≡ y) → Distinct (flat_map f l)
  distinct_flat_map [] h g k = tt
  distinct_flat_map (x ∷ l) h g k =
      distinct_append (f x) (flat_map f l) (g x (inl refl))
      (distinct_flat_map l h.1 (λ y p. g y (inr p)) (λ y w z p q. k y w z (inr p) (inr q)))
      (λ z p q. let r = flat_map_in f z l q in h.0 (subst (λ w. In w l) (sym (k x r.0 z (inl refl) (inr r.1) p r.2)) r.1))
