-- Members of a list, and lists with no member twice. By induction on the list. Assumes nothing.
use mathlib.Core.Path.{◌≡◌, refl}
use mathlib.Core.Logic.{◌⊎◌, inl, inr, ⊎_elim}
use mathlib.Core.List.{List, [], ◌∷◌, ◌++◌}
use Rattle.terms.specs.Listing.{In}
use Rattle.terms.specs.Members.{Distinct}

module _ {A : Type 0} where
  pub in_left : (x : A) (l m : List A) → In x l → In x (l ++ m)
  in_left x (y ∷ l) m (inl p) = inl p
  in_left x (y ∷ l) m (inr p) = inr (in_left x l m p)
  in_left x [] m x'' = elim x'' [ ]

  pub in_right : (x : A) (l m : List A) → In x m → In x (l ++ m)
  in_right x [] m p = p
  in_right x (y ∷ l) m p = inr (in_right x l m p)

  pub in_append : (x : A) (l m : List A) → In x (l ++ m) → In x l ⊎ In x m
  in_append x [] m p = inr p
  in_append x (y ∷ l) m (inl p) = inl (inl p)
  in_append x (y ∷ l) m (inr p) = ⊎_elim (λ q. inl (inr q)) inr (in_append x l m p)

  pub distinct_append : (l m : List A) → Distinct l → Distinct m → ((x : A) → In x l → In x m → ⊥) → Distinct (l ++ m)
  distinct_append [] m h k f = k
  distinct_append (x ∷ l) m h k f =
      (λ p. ⊎_elim h.0 (f x (inl refl)) (in_append x l m p), distinct_append l m h.1 k (λ y p q. f y (inr p) q))

pub in_one : {X : Type 0} {x y : X} → In x (y ∷ []) → x ≡ y
in_one (inl p) = p
in_one {X = X} {y = y} (inr x'') = elim x'' [ ]

abbrev pub dec-⊎ : {A B : Type 0} → Dec A → Dec B → Dec (A ⊎ B)
dec-⊎ (yes a) b = yes (inl a)
dec-⊎ (no a) (yes b) = yes (inr b)
dec-⊎ (no a) (no b) = no (⊎_elim a b)
