-- A row or a column of the fit table, written entry by entry, and a row written at once. An entry is known by its buoy and its place, so
-- that one store changes one entry. Assumes nothing.
--   RowBelow b n W f g      the entries of buoy b at the places below n are written
--   ColumnBelow i n W f g   the entries of place i of the buoys below n are written
use mathlib.Core.Path.{◌≡◌, refl, ap, ◌∙◌}
use mathlib.Core.List.{List}
use mathlib.Core.Logic.{◌⊎◌, inl, inr, ⊎_elim}
use Prim.Native.Nat.{ℕ, ◌+◌, ◌*◌, ◌≤◌, ◌<◌}
use native.Mathlib.Decide.{ℕ_discrete, dec_lt}
use native.Mathlib.Omega.{arith}
use lib.ListN.{length, get_or, set, replicate, length-set, length-replicate}
use borrow.Author.Rules.{rules}
use borrow.Rule.Slice.PartMut.{put_mid}
use Rattle.std.proofs.lemmas.List.{places, get_or-replicate}
use lib.Seq.{get_or-set_same, get_or-set_other}
use Rattle.terms.specs.Figures.{most_places, buoys}
use Rattle.fit_table.specs.FitTable.{fit_bytes, entry_at, Marks, Written, RowWritten, ColumnWritten}

-- no two entries stand at one byte
entry_one : (b i c j : ℕ) → i < most_places → j < most_places → entry_at c j ≡ entry_at b i → (c ≡ b) × (j ≡ i)
entry_one b i c j h g e = let z : c ≡ b = omega arith in (z, omega (arith, z))

-- one entry more: those in `here` were written, and now also that of buoy b and place i
module _ (here more W : ℕ → ℕ → Type 0) (f g : List ℕ) (b i m : ℕ) (e : length f ≡ fit_bytes) (hb : b < buoys) (hi : i < most_places)
    (x : Written here W f g) (y : Marks m (W b i)) where
  entry_more : ((c j : ℕ) → more c j → here c j ⊎ ((c ≡ b) × (j ≡ i))) → ((c j : ℕ) → here c j → more c j) → more b i
      → Written more W f (set g (entry_at b i) m)
  entry_more p q r = record {
    size = length-set g (entry_at b i) m ∙ x.size;
    entries = λ c j hc hj o. written c j hc hj o (ℕ_discrete (entry_at c j) (entry_at b i));
    others = λ c j hc hj o.
        get_or-set_other g (entry_at b i) (entry_at c j) m 0 (λ z. o (here_too c j hj z)) ∙ x.others c j hc hj (λ z. o (q c j z));
  }
    where
      within : entry_at b i < length g
      within = omega (arith, x.size)

      here_too : (c j : ℕ) → j < most_places → entry_at c j ≡ entry_at b i → more c j
      here_too c j hj z = let s = entry_one b i c j hi hj z in rw (s.0, s.1) r

      written : (c j : ℕ) → c < buoys → j < most_places → more c j → Dec (entry_at c j ≡ entry_at b i)
          → Marks (get_or (set g (entry_at b i) m) (entry_at c j) 0) (W c j)
      written c j hc hj o (yes z) =
          let s = entry_one b i c j hi hj z in
          rw (s.0, s.1) (rw (get_or-set_same g (entry_at b i) m 0 within) y)
      written c j hc hj o (no z) =
          rw (get_or-set_other g (entry_at b i) (entry_at c j) m 0 z)
          (x.entries c j hc hj (⊎_elim (λ k. k) (λ k. absurd (z (both k.0 k.1))) (p c j o)))
        where
          both : c ≡ b → j ≡ i → entry_at c j ≡ entry_at b i
          both k l = omega arith

all_written : (here more W : ℕ → ℕ → Type 0) (f g : List ℕ) → ((c j : ℕ) → c < buoys → j < most_places → more c j → here c j)
    → ((c j : ℕ) → here c j → more c j) → Written here W f g → Written more W f g
all_written here more W f g p q x = record {
  size = x.size;
  entries = λ c j hc hj o. x.entries c j hc hj (p c j hc hj o);
  others = λ c j hc hj o. x.others c j hc hj (λ z. o (q c j z));
}

-- a row
pub record RowBelow (b n : ℕ) (W : ℕ → Type 0) (f g : List ℕ) : Type 0 where
  pub few : n ≤ most_places
  pub written : Written (λ c j. (c ≡ b) × (j < n)) (λ c j. W j) f g

module _ (b : ℕ) (W : ℕ → Type 0) (f : List ℕ) where
  pub row_more : length f ≡ fit_bytes → b < buoys → (i : ℕ) (g : List ℕ) → RowBelow b i W f g → i < most_places → (m : ℕ) → Marks m (W i)
      → RowBelow b (i + 1) W f (set g (entry_at b i) m)
  row_more e h i g x k m y = record {
    few = omega arith;
    written = entry_more (λ c j. (c ≡ b) × (j < i)) (λ c j. (c ≡ b) × (j < i + 1)) (λ c j. W j) f g b i m e h k x.written y
        (λ c j o. at c j o (ℕ_discrete j i)) (λ c j o. (o.0, omega (arith, o.1))) (refl, omega arith);
  }
    where
      at : (c j : ℕ) → (c ≡ b) × (j < i + 1) → Dec (j ≡ i) → ((c ≡ b) × (j < i)) ⊎ ((c ≡ b) × (j ≡ i))
      at c j o (yes z) = inr (o.0, z)
      at c j o (no z) = inl (o.0, omega (arith, o.1))

  pub row_done : (i : ℕ) (g : List ℕ) → RowBelow b i W f g → most_places ≤ i → RowWritten b W f g
  row_done i g x h =
      all_written (λ c j. (c ≡ b) × (j < i)) (λ c j. c ≡ b) (λ c j. W j) f g (λ c j hc hj o. (o, omega arith)) (λ c j o. o.0) x.written

-- a column
pub record ColumnBelow (i n : ℕ) (W : ℕ → Type 0) (f g : List ℕ) : Type 0 where
  pub few : n ≤ buoys
  pub written : Written (λ c j. (j ≡ i) × (c < n)) (λ c j. W c) f g

module _ (i : ℕ) (W : ℕ → Type 0) (f : List ℕ) where
  pub column_more :
      length f ≡ fit_bytes → i < most_places → (b : ℕ) (g : List ℕ) → ColumnBelow i b W f g → b < buoys → (m : ℕ) → Marks m (W b)
      → ColumnBelow i (b + 1) W f (set g (entry_at b i) m)
  column_more e h b g x k m y = record {
    few = omega arith;
    written = entry_more (λ c j. (j ≡ i) × (c < b)) (λ c j. (j ≡ i) × (c < b + 1)) (λ c j. W c) f g b i m e k h x.written y
        (λ c j o. at c j o (ℕ_discrete c b)) (λ c j o. (o.0, omega (arith, o.1))) (refl, omega arith);
  }
    where
      at : (c j : ℕ) → (j ≡ i) × (c < b + 1) → Dec (c ≡ b) → ((j ≡ i) × (c < b)) ⊎ ((c ≡ b) × (j ≡ i))
      at c j o (yes z) = inr (z, o.0)
      at c j o (no z) = inl (o.0, omega (arith, o.1))

  pub column_done : (b : ℕ) (g : List ℕ) → ColumnBelow i b W f g → buoys ≤ b → ColumnWritten i W f g
  column_done b g x h =
      all_written (λ c j. (j ≡ i) × (c < b)) (λ c j. j ≡ i) (λ c j. W c) f g (λ c j hc hj o. (o, omega arith)) (λ c j o. o.0) x.written
