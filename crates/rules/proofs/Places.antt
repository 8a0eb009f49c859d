-- The places of a book that have a rule: how they go on from one place to the next, and how the first of them is found. By the two counts
-- of a place. Assumes nothing.
--   EmptyUpto b from j   the places from `from` on that lie before j are empty
use mathlib.Core.Path.{◌≡◌, refl, sym, ap, ◌∙◌}
use mathlib.Core.Bool.{Bool, true, false, cond}
use mathlib.Core.List.{List, [], ◌∷◌}
use mathlib.Core.Logic.{inl}
use Prim.Native.Nat.{ℕ, zero, suc, ◌+◌, ◌-◌, ◌/◌, ◌≤◌, ◌<◌}
use native.Mathlib.Decide.{dec_lt}
use native.Mathlib.Omega.{arith}
use lib.Dec.{eqb}
use lib.ListN.{length}
use Rattle.std.specs.declared.result.Result.TheVariants.{Ok, Err}
use Rattle.std.specs.Prelude.{Option, Some, None}
use Rattle.std.specs.Option.{MatchOption, unwrap_or}
use Rattle.terms.specs.Figures.{place_bytes}
use Rattle.terms.proofs.Tests.{by_eqb}
use Rattle.refusals.specs.declared.Refusal.{Refusal}
use Rattle.refusals.specs.Judged.{Judged}
use Rattle.rules.specs.Rules.{left_count, right_count, count_up, is_empty, taken, places_from, book_bytes, book_rows}
use Rattle.rules.specs.Steps.{NextRule}

true_false : (x : Bool) → x ≡ true → x ≡ false → ⊥
true_false x p q = let z : ◌≡◌ {A = ℕ} 0 1 = cc in omega arith

-- the two counts, as the code tests them
pub left_none : (b : List ℕ) (i n m : ℕ) → n ≡ left_count b i → n ≡ 0 → m ≡ right_count b i → eqb m 0 ≡ is_empty b i
left_none b i n m e h f =
    by_eqb (λ x. eqb m 0 ≡ cond x (eqb (right_count b i) 0) false) (left_count b i) 0 (λ z. ap (λ (k : ℕ). eqb k 0) f)
    (λ z. absurd (z (sym e ∙ h)))

pub counts_empty : (b : List ℕ) (i : ℕ) → left_count b i ≡ 0 → right_count b i ≡ 0 → is_empty b i ≡ true
counts_empty b i e f = sym (left_none b i (left_count b i) (right_count b i) refl e refl) ∙ ap (λ (k : ℕ). eqb k 0) f

pub empty_left : (b : List ℕ) (i : ℕ) → is_empty b i ≡ true → left_count b i ≡ 0
empty_left b i =
    by_eqb (λ x. cond x (eqb (right_count b i) 0) false ≡ true → left_count b i ≡ 0) (left_count b i) 0 (λ z q. z)
    (λ z q. absurd (true_false true refl (sym q)))

-- one place more
module _ (b : List ℕ) (i : ℕ) where
  pub places_end : length b / place_bytes ≤ i → places_from b i ≡ []
  places_end h = let z : length b / place_bytes - i ≡ 0 = omega arith in ap (λ (k : ℕ). taken b (count_up i k)) z

  module _ (h : i < length b / place_bytes) where
    step : (x : Bool) → is_empty b i ≡ x → places_from b i ≡ cond x (places_from b (i + 1)) (i ∷ places_from b (i + 1))
    step x e =
        let n : length b / place_bytes - i ≡ suc (length b / place_bytes - (i + 1)) = omega arith in
        let j : suc i ≡ i + 1 = omega arith in
        ap (λ (k : ℕ). taken b (count_up i k)) n
        ∙ ap (λ (y : Bool). cond y (taken b (count_up (suc i) (length b / place_bytes - (i + 1))))
        (i ∷ taken b (count_up (suc i) (length b / place_bytes - (i + 1))))) e
        ∙ ap (λ (k : ℕ). cond x (taken b (count_up k (length b / place_bytes - (i + 1))))
        (i ∷ taken b (count_up k (length b / place_bytes - (i + 1))))) j

    pub places_over : is_empty b i ≡ true → places_from b i ≡ places_from b (i + 1)
    places_over e = step true e

    pub places_here : is_empty b i ≡ false → places_from b i ≡ i ∷ places_from b (i + 1)
    places_here e = step false e

-- no more than there are
length_taken : (b : List ℕ) (i n : ℕ) → length (taken b (count_up i n)) ≤ n
length_taken b i zero = omega arith
length_taken b i (suc n) = few (is_empty b i) (taken b (count_up (suc i) n)) (length_taken b (suc i) n)
  where
    few : (x : Bool) (l : List ℕ) → length l ≤ n → length (cond x l (i ∷ l)) ≤ suc n
    few true l h = omega arith
    few false l h = omega arith

pub length_places : (b : List ℕ) (i : ℕ) → length (places_from b i) ≤ length b / place_bytes - i
length_places b i = length_taken b i (length b / place_bytes - i)

-- the first place that isn't empty
module _ (b : List ℕ) (from : ℕ) where
  abbrev EmptyUpto : ℕ → Type 0
  EmptyUpto j = (k : ℕ) → from ≤ k → k < j → is_empty b k ≡ true

  passed : (d : ℕ) → from + d ≤ length b / place_bytes → EmptyUpto (from + d) → places_from b from ≡ places_from b (from + d)
  passed zero h e = ap (places_from b) (omega arith)
  passed (suc d) h e =
      passed d (omega arith) (λ k g l. e k g (omega arith))
      ∙ places_over b (from + d) (omega arith) (e (from + d) (omega arith) (omega arith)) ∙ ap (places_from b) (omega arith)

  reached : (j : ℕ) → from ≤ j → j ≤ length b / place_bytes → EmptyUpto j → (j < length b / place_bytes → is_empty b j ≡ false)
      → NextRule b from j
  reached j h g e s = record {
    from = h;
    within = g;
    same = passed (j - from) (omega arith) (λ k l m. e k l (omega arith)) ∙ ap (places_from b) (omega arith);
    some = s;
    behind = λ k l m o. beyond k l o (dec_lt k j);
  }
    where
      beyond : (k : ℕ) → from ≤ k → is_empty b k ≡ false → Dec (k < j) → j ≤ k
      beyond k l o (yes z) = absurd (true_false (is_empty b k) (e k l z) o)
      beyond k l o (no z) = omega arith

  -- as `find` finds it
  pub found : (r : Option ℕ) → from ≤ length b / place_bytes
      → MatchOption r (EmptyUpto (length b / place_bytes))
      (λ j. (from ≤ j) × (j < length b / place_bytes) × (is_empty b j ≡ false) × EmptyUpto j)
      → NextRule b from (unwrap_or r (length b / place_bytes))
  found None h x = reached _ h (omega arith) x (λ l. absurd (omega arith))
  found (Some j) h x = reached j x.0 (omega (arith, x.1)) x.3 (λ l. x.2)

-- what is found
module _ (b : List ℕ) (i j : ℕ) (x : NextRule b i j) where
  pub next_none : j ≡ length b / place_bytes → places_from b i ≡ []
  next_none e = x.same ∙ places_end b j (omega arith)

  pub next_taken : ¬ (j ≡ length b / place_bytes) → is_empty b j ≡ false
  next_taken n = x.some (omega (arith, x.within))

  pub next_some : ¬ (j ≡ length b / place_bytes) → places_from b i ≡ j ∷ places_from b (j + 1)
  next_some n = x.same ∙ places_here b j (omega (arith, x.within)) (next_taken n)

-- a book of 64 places
module _ (b : List ℕ) where
  pub book_bad : ¬ (length b ≡ book_bytes) → Judged (book_rows b) (length b ≡ book_bytes) (Err Refusal.Tables)
  unfolding Judged
  book_bad h = inl (h, refl)

  pub book_good : length b ≡ book_bytes → Judged (book_rows b) (length b ≡ book_bytes) (Ok tt)
  unfolding Judged
  book_good e = ((λ n. n e, tt), e)
