-- "A pattern without variables has one all-zero line or none. No match is a count of 0." The lines of such a pattern assign nothing, so
-- each is the line of open entries, whose bytes are zero and which has no values; and since lines go up, none stands there twice. A line of
-- any listing has a filling, which is a match. Assumes nothing.
use mathlib.Core.Path.{◌≡◌, refl, ap, sym, ◌∙◌, subst}
use mathlib.Core.Option.{none, some}
use mathlib.Core.List.{List, [], ◌∷◌, append-nil}
use mathlib.Core.Logic.{◌⊎◌, inl, inr}
use Prim.Native.Nat.{ℕ, zero, suc, ◌*◌}
use native.Mathlib.Omega.{arith}
use lib.ListN.{length, replicate}
use Rattle.terms.specs.Term.{Term, Occurs, Below}
use Rattle.terms.specs.Assignment.{Assignment, Assigns, Match}
use Rattle.terms.specs.Listing.{Line, In, Less, Full}
use Rattle.terms.specs.Layout.{line_bytes, line_values, line_table, value_table}
use Rattle.terms.proofs.Order.{less_irrefl}
use Rattle.matching.proofs.Lines.{open_line}
use Rattle.matching.proofs.Lists.{witness}
use Rattle.matching.proofs.Partial.{restrict, entries_restrict, complete_restrict, agrees_restrict}

assigns_none : (S : ℕ → Type 0) → ((i : ℕ) → ¬ S i) → (l : Line) → Assigns S l → l ≡ open_line (length l)
assigns_none S h [] a = refl
assigns_none S h (none ∷ l) a = ap (λ (m : Line). none ∷ m) (assigns_none (λ i. S (suc i)) (λ i. h (suc i)) l a.1)
assigns_none S h (some v ∷ l) a = absurd (h 0 a.0.0)

module _ (n : ℕ) (p t : Term) (h : (i : ℕ) → ¬ Occurs i p) where
  all_open : (ls : List Line) → Full n p t ls → (l : Line) → In l ls → l ≡ open_line n
  all_open ls f l i = assigns_none (λ j. Occurs j p) h l (f.assigns l i) ∙ ap open_line (f.entries l i)

  pub no_variable : (ls : List Line) → Full n p t ls → (ls ≡ []) ⊎ (ls ≡ open_line n ∷ [])
  no_variable [] f = inl refl
  no_variable (l ∷ []) f = inr (ap (λ (m : Line). m ∷ []) (all_open (l ∷ []) f l (inl refl)))
  no_variable (l ∷ m ∷ ls) f =
      let e : l ≡ open_line n = all_open (l ∷ m ∷ ls) f l (inl refl) in
      let d : m ≡ open_line n = all_open (l ∷ m ∷ ls) f m (inr (inl refl)) in
      absurd (less_irrefl m (subst (λ (z : Line). Less z m) (e ∙ sym d) (f.rising.0 m (inl refl))))

-- its bytes
open_bytes : (k n : ℕ) → line_bytes k (open_line n) ≡ replicate (4 * n) 0
open_bytes k zero = refl
open_bytes k (suc n) =
    let e : suc (suc (suc (suc (4 * n)))) ≡ 4 * suc n = omega arith in
    ap (λ (b : List ℕ). 0 ∷ 0 ∷ 0 ∷ 0 ∷ b) (open_bytes k n) ∙ ap (λ (j : ℕ). replicate j 0) e

open_values : (n : ℕ) → line_values (open_line n) ≡ []
open_values zero = refl
open_values (suc n) = open_values n

pub open_line_table : (n : ℕ) → line_table 0 (open_line n ∷ []) ≡ replicate (4 * n) 0
open_line_table n = append-nil (line_bytes 0 (open_line n)) ∙ open_bytes 0 n

pub open_value_table : (n : ℕ) → value_table (open_line n ∷ []) ≡ []
open_value_table n = append-nil (line_values (open_line n)) ∙ open_values n

-- no match, no line
pub no_match : (n : ℕ) (p t : Term) → Below n p → ((a : Assignment) → ¬ Match n p t a) → (ls : List Line) → Full n p t ls → ls ≡ []
no_match n p t b h [] f = refl
no_match n p t b h (l ∷ ls) f =
    let w = witness (λ i. Occurs i p) l (f.assigns l (inl refl)) in
    let a = restrict n w.φ in
    absurd (h a (f.sound a (entries_restrict n w.φ w.values) (complete_restrict n p b w.φ) l (inl refl)
    ((agrees_restrict n w.φ l (f.entries l (inl refl))).0 w.extends)))
