-- A fit table that was right is right again: the entries written are worked out afresh, and of the others neither the rule nor the recipe
-- has changed. And nothing is left free: two tables of which the same was written are equal. Assumes nothing.
use mathlib.Core.Path.{◌≡◌, sym, ◌∙◌, subst}
use mathlib.Core.List.{List}
use mathlib.Core.Logic.{inl, inr}
use Prim.Native.Nat.{ℕ, ◌/◌, ◌%◌, ◌≤◌, ◌<◌}
use native.Mathlib.Decide.{ℕ_discrete}
use native.Mathlib.Omega.{arith}
use lib.ListN.{length, get_or}
use lib.Seq.{ext_get_or}
use Rattle.terms.specs.Figures.{pattern_records, most_places, buoys}
use Rattle.rules.specs.Rules.{left_count, left_table}
use Rattle.fit_table.specs.FitTable.{fit_bytes, entry_at, Fits, RuleFits, Marks, Afresh, Written, RowWritten, ColumnWritten}

-- an entry answers one question, and has one byte
marks_as : (n : ℕ) (P Q : Type 0) → (P → Q) → (Q → P) → Marks n P → Marks n Q
marks_as n P Q f g (inl x) = inl (x.0, f x.1)
marks_as n P Q f g (inr x) = inr (x.0, λ q. x.1 (g q))

marks_one : (m n : ℕ) (P : Type 0) → Marks m P → Marks n P → m ≡ n
marks_one m n P (inl x) (inl y) = x.0 ∙ sym y.0
marks_one m n P (inl x) (inr y) = absurd (y.1 x.1)
marks_one m n P (inr x) (inl y) = absurd (x.1 y.1)
marks_one m n P (inr x) (inr y) = x.0 ∙ sym y.0

module _ (here W : ℕ → ℕ → Type 0) (d : (b i : ℕ) → Dec (here b i)) (f : List ℕ) where
  -- the book k and what the buoys have, m, become k' and m'
  written_afresh :
      (k k' : List ℕ) (m m' : ℕ → List ℕ) (f' : List ℕ) → Written here W f f' → Afresh k m f
      → ((b i : ℕ) → here b i → (W b i → RuleFits k' i (m' b)) × (RuleFits k' i (m' b) → W b i))
      → ((b i : ℕ) → b < buoys → i < most_places → ¬ here b i
      → (RuleFits k i (m b) → RuleFits k' i (m' b)) × (RuleFits k' i (m' b) → RuleFits k i (m b)))
      → Afresh k' m' f'
  written_afresh k k' m m' f' x a p q b i hb hi = go (d b i)
    where
      go : Dec (here b i) → Marks (get_or f' (entry_at b i) 0) (RuleFits k' i (m' b))
      go (yes h) = marks_as _ (W b i) _ (p b i h).0 (p b i h).1 (x.entries b i hb hi h)
      go (no h) =
          marks_as _ (RuleFits k i (m b)) _ (q b i hb hi h).0 (q b i hb hi h).1
          (subst (λ (n : ℕ). Marks n (RuleFits k i (m b))) (sym (x.others b i hb hi h)) (a b i hb hi))

  written_one : length f ≡ fit_bytes → (g h : List ℕ) → Written here W f g → Written here W f h → g ≡ h
  written_one e g h x y = ext_get_or 0 g h (x.size ∙ sym y.size) at
    where
      same : (b i : ℕ) → b < buoys → i < most_places → Dec (here b i) → get_or g (entry_at b i) 0 ≡ get_or h (entry_at b i) 0
      same b i hb hi (yes z) = marks_one _ _ (W b i) (x.entries b i hb hi z) (y.entries b i hb hi z)
      same b i hb hi (no z) = x.others b i hb hi z ∙ sym (y.others b i hb hi z)

      at : (n : ℕ) → n < length g → get_or g n 0 ≡ get_or h n 0
      at n l =
          let b = n / most_places in
          let i = n % most_places in
          let z : entry_at b i ≡ n = omega arith in
          subst (λ (j : ℕ). get_or g j 0 ≡ get_or h j 0) z
          (same b i (omega (arith, x.size)) (omega arith) (d b i))

-- a row: what buoy b has becomes r
module _ (b : ℕ) (W : ℕ → Type 0) (f f' : List ℕ) (x : RowWritten b W f f') where
  pub row_afresh :
      (k : List ℕ) (m m' : ℕ → List ℕ) → Afresh k m f → ((i : ℕ) → (W i → RuleFits k i (m' b)) × (RuleFits k i (m' b) → W i))
      → ((c : ℕ) → ¬ (c ≡ b) → m' c ≡ m c) → Afresh k m' f'
  row_afresh k m m' a p q =
      written_afresh (λ c i. c ≡ b) (λ c i. W i) (λ c i. ℕ_discrete c b) f k k m m' f' x a
      (λ c i e. rw e (p i))
      (λ c i hc hi n. (subst (RuleFits k i) (sym (q c n)), subst (RuleFits k i) (q c n)))

  pub row_one : length f ≡ fit_bytes → (g : List ℕ) → RowWritten b W f g → f' ≡ g
  row_one e g y = written_one (λ c i. c ≡ b) (λ c i. W i) (λ c i. ℕ_discrete c b) f e f' g x y

-- a column: but for place i, the books k and k' have the same left sides
abbrev pub SameLeft : List ℕ → List ℕ → ℕ → Type 0
SameLeft k k' j = (left_count k' j ≡ left_count k j) × (left_count k j ≤ pattern_records → left_table k' j ≡ left_table k j)

same_fits : (k k' : List ℕ) (j : ℕ) (r : List ℕ) → SameLeft k k' j → (RuleFits k j r → RuleFits k' j r) × (RuleFits k' j r → RuleFits k j r)
same_fits k k' j r s = (λ z. there z, λ z. back z)
  where
    there : RuleFits k j r → RuleFits k' j r
    there z = (omega (arith, z.0, s.0), subst (λ (l : List ℕ). Fits l r) (sym (s.1 z.0)) z.1)

    back : RuleFits k' j r → RuleFits k j r
    back z =
        let h : left_count k j ≤ pattern_records = omega (arith, z.0, s.0) in
        (h, subst (λ (l : List ℕ). Fits l r) (s.1 h) z.1)

module _ (i : ℕ) (W : ℕ → Type 0) (f f' : List ℕ) (x : ColumnWritten i W f f') where
  pub column_afresh :
      (k k' : List ℕ) (m : ℕ → List ℕ) → Afresh k m f → ((b : ℕ) → (W b → RuleFits k' i (m b)) × (RuleFits k' i (m b) → W b))
      → ((j : ℕ) → j < most_places → ¬ (j ≡ i) → SameLeft k k' j) → Afresh k' m f'
  column_afresh k k' m a p q =
      written_afresh (λ b j. j ≡ i) (λ b j. W b) (λ b j. ℕ_discrete j i) f k k' m m f' x a
      (λ b j e. rw e (p b))
      (λ b j hb hj n. same_fits k k' j (m b) (q j hj n))

  pub column_one : length f ≡ fit_bytes → (g : List ℕ) → ColumnWritten i W f g → f' ≡ g
  column_one e g y = written_one (λ b j. j ≡ i) (λ b j. W b) (λ b j. ℕ_discrete j i) f e f' g x y
