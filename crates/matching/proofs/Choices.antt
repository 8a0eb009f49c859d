-- Whatever choices a search has made at the copies, there are lines for the bodies still left. From the last copy backwards, each choice
-- being seen in the body. Assumes nothing.
--   choose_at c k b  the choices c, but b at the copy k
use mathlib.Core.Path.{◌≡◌, refl, sym, ◌∙◌, subst}
use mathlib.Core.Bool.{Bool, true, false, cond}
use mathlib.Core.List.{[], ◌++◌}
use mathlib.Core.Logic.{◌⊎◌}
use Prim.Native.Nat.{ℕ, zero, suc, ◌+◌, ◌≤◌, ◌<◌}
use native.Mathlib.Omega.{arith}
use native.Mathlib.Decide.{dec_lt}
use lib.Dec.{T, eqb}
use borrow.Author.Tests.{eq-eqb, ne_eqb}
use Rattle.terms.specs.Term.{Term, lam, uses, is_eta}
use Rattle.matching.specs.Goals.{Sweeps, Goal.match, Goal.build, Listable}
use Rattle.matching.specs.Bodies.{ChosenSoFar, copies, body}
use Rattle.matching.proofs.Decide.{by_dec}
use Rattle.matching.proofs.Lists.{lists_same, lists_none, lists_or}
use Rattle.matching.proofs.Goals.{Listing, listing_goal}
use Rattle.matching.proofs.Bodies.{body_normal, body_eta, chosen_next, chosen_apart, chosen_all}

abbrev pub choose_at : (ℕ → Bool) → ℕ → Bool → ℕ → Bool
choose_at c k b i = cond (eqb i k) b (c i)

pub choose_at_here : (c : ℕ → Bool) (k : ℕ) (b : Bool) → choose_at c k b k ≡ b
choose_at_here c k b = rw (eq-eqb k k refl)

pub choose_at_below : (c : ℕ → Bool) (k : ℕ) (b : Bool) (i : ℕ) → i < k → choose_at c k b i ≡ c i
choose_at_below c k b i l = rw (ne_eqb i k (omega arith))

-- the goal that is left can be listed, as the goal before it
pub listable_chosen :
    (n : ℕ) (S : ℕ → Type 0) (f t e : Term) (c : ℕ → Bool) → Listable n S (build f t e) → is_eta (body e 0 t c 0) ≡ false
    → Listable n S (match f (lam (body e 0 t c 0)))
listable_chosen n S f t e c (s, h) p = (s, body_normal e t c h p)

-- there are lines for any choices
module _ (n : ℕ) (S : ℕ → Type 0) (f t e : Term) (x : Listable n S (build f t e)) where
  listing_made : (c : ℕ → Bool) (k : ℕ) → copies e 0 t ≤ k → Listing n S (ChosenSoFar f t e c k)
  listing_made c k l = go (uses 0 (body e 0 t c 0)) refl (is_eta (body e 0 t c 0)) refl
    where
      none : ((φ : ℕ → Term) → ¬ ChosenSoFar f t e c k φ) → Listing n S (ChosenSoFar f t e c k)
      none g = record { lines = []; lists = lists_none n S (ChosenSoFar f t e c k) (λ φ v. g φ) }

      go : (u : Bool) → uses 0 (body e 0 t c 0) ≡ u → (p : Bool) → is_eta (body e 0 t c 0) ≡ p → Listing n S (ChosenSoFar f t e c k)
      go false u p q = none (λ φ s. subst T (sym ((chosen_all φ f t e c k l).0 s).1 ∙ u) tt)
      go true u true q = none (λ φ s. body_eta φ f e t c x.1 q ((chosen_all φ f t e c k l).0 s).0)
      go true u false q =
          let y = listing_goal n S (match f (lam (body e 0 t c 0))) (listable_chosen n S f t e c x q) in
          record {
            lines = y.lines;
            lists = lists_same n S (ChosenSoFar f t e c k) (Sweeps f (lam (body e 0 t c 0))) y.lines
                (λ φ v. (λ s. ((chosen_all φ f t e c k l).0 s).0, λ s. (chosen_all φ f t e c k l).1 (s, u))) y.lists;
          }

  listing_next : (c : ℕ → Bool) (k : ℕ) → k < copies e 0 t → ((d : ℕ → Bool) → Listing n S (ChosenSoFar f t e d (suc k)))
      → Listing n S (ChosenSoFar f t e c k)
  listing_next c k l g = record {
    lines = (g c₀).lines ++ (g c₁).lines;
    lists =
        lists_same n S (ChosenSoFar f t e c k) (λ φ. ChosenSoFar f t e c₀ (suc k) φ ⊎ ChosenSoFar f t e c₁ (suc k) φ)
        ((g c₀).lines ++ (g c₁).lines)
        (λ φ v. chosen_next φ f t e c c₀ c₁ k (choose_at_below c k false) (choose_at_below c k true) (choose_at_here c k false)
        (choose_at_here c k true))
        (lists_or n S (ChosenSoFar f t e c₀ (suc k)) (ChosenSoFar f t e c₁ (suc k)) (g c₀).lines (g c₁).lines
        (λ φ v. chosen_apart φ f t e c c₀ c₁ k (choose_at_below c k false) (choose_at_below c k true) (choose_at_here c k false)
        (choose_at_here c k true) l)
        (g c₀).lists (g c₁).lists);
  }
    where
      c₀ : ℕ → Bool
      c₀ = choose_at c k false

      c₁ : ℕ → Bool
      c₁ = choose_at c k true

  listing_left : (m k : ℕ) → copies e 0 t ≤ k + m → (c : ℕ → Bool) → Listing n S (ChosenSoFar f t e c k)
  listing_left zero k h c = listing_made c k (omega arith)
  listing_left (suc m) k h c =
      by_dec (λ _. Listing n S (ChosenSoFar f t e c k)) (dec_lt k (copies e 0 t))
      (λ l. listing_next c k l (listing_left m (suc k) (omega arith)))
      (λ l. listing_made c k (omega arith))

  pub listing_chosen : (c : ℕ → Bool) (k : ℕ) → Listing n S (ChosenSoFar f t e c k)
  listing_chosen c k = listing_left (copies e 0 t) k (omega arith) c
