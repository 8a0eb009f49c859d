-- One outcome comes of a rule and a part: two that meet the definition are equal, if the variables of the left side are below 8. A term is
-- known from its table, there is one full listing only, at most one row of refusal is given, none where all pass, and a term has one first
-- normal form. Assumes nothing.
--   Lower p    the variables of the term of the table p are below 8
use mathlib.Core.Path.{◌≡◌, sym, ap, ◌∙◌, subst}
use mathlib.Core.List.{List}
use mathlib.Core.Logic.{inl, inr}
use Prim.Native.Nat.{ℕ}
use Rattle.terms.specs.Figures.{variables, most_sweeps}
use Rattle.terms.specs.Term.{Term, Below}
use Rattle.terms.specs.Table.{IsTable}
use Rattle.terms.specs.Sweep.{fill}
use Rattle.terms.specs.Listing.{Line, Full}
use Rattle.terms.specs.Refusal.{Row, listing_rows}
use Rattle.terms.proofs.Table.{encode_one}
use Rattle.terms.proofs.Refusal.{refused_once, refused_passed}
use Rattle.terms.proofs.Normalization.{first_normal_one}
use Rattle.matching.proofs.Listing.{unique}
use Rattle.attempts.specs.Pairs.{full_lines, full_records, ListedPair, line_zero, filling, sides_rows, PairOutcome, form, stop, Unless}
use Rattle.attempts.specs.Pairs.{PairRewritten, Used, Tried}

-- a search that rows end, or that goes on in one way
pub unless_one : {A : Type 0} (rows : List Row) (refuse : ℕ → A) (o z : A) (X Y : Type 0) → (X → Y → o ≡ z) → Unless rows refuse o X
    → Unless rows refuse z Y → o ≡ z
unless_one rows refuse o z X Y g (inl (k, x, e)) (inl (m, y, f)) = e ∙ ap refuse (refused_once rows k m x y) ∙ sym f
unless_one rows refuse o z X Y g (inl (k, x, e)) (inr (h, w)) = absurd (refused_passed rows k x h)
unless_one rows refuse o z X Y g (inr (h, v)) (inl (m, y, f)) = absurd (refused_passed rows m y h)
unless_one rows refuse o z X Y g (inr (h, v)) (inr (i, w)) = g v w

rewritten_one : (p q : Term) (φ : ℕ → Term) (o z : PairOutcome) → PairRewritten p q φ o → PairRewritten p q φ z → o ≡ z
rewritten_one p q φ o z =
    unless_one (sides_rows p q φ) stop o z _ _
    (λ x y. x.2 ∙ ap form (first_normal_one most_sweeps 1 (fill φ q) x.0 y.0 x.1 y.1) ∙ sym y.2)

used_one : (p q : Term) (ls : List Line) (o z : PairOutcome) → Used p q ls o → Used p q ls z → o ≡ z
used_one p q ls o z (inl (u, e)) (inl (v, f)) = e ∙ sym f
used_one p q ls o z (inl (u, e)) (inr (v, y)) = absurd (u v)
used_one p q ls o z (inr (u, x)) (inl (v, f)) = absurd (v u)
used_one p q ls o z (inr (u, x)) (inr (v, y)) = rewritten_one p q (filling (line_zero ls)) o z x y

-- what row 2 of the left side leaves
abbrev pub Lower : List ℕ → Type 0
Lower p = (u : Term) → IsTable p u → Below variables u

abbrev Listed : Term → Term → List Line → PairOutcome → Type 0
Listed p q ls o = Unless (listing_rows full_lines full_records ls) stop o (Used p q ls o)

-- the same of another listing of the pair
module _ (p q : List ℕ) (t : Term) (h : Lower p) (x y : ListedPair p q t) where
  same_left : x.left ≡ y.left
  same_left = encode_one x.left y.left (sym x.left_table.0 ∙ y.left_table.0)

  same_right : x.right ≡ y.right
  same_right = encode_one x.right y.right (sym x.right_table.0 ∙ y.right_table.0)

  same_lines : x.lines ≡ y.lines
  same_lines =
      unique variables y.left t (h y.left y.left_table) x.lines y.lines
      (subst (λ (l : Term). Full variables l t x.lines) same_left x.full) y.full

  listed_same : (o : PairOutcome) → Listed x.left x.right x.lines o → Listed y.left y.right y.lines o
  listed_same o w =
      subst (λ (ls : List Line). Listed y.left y.right ls o) same_lines
      (subst (λ (u : Term). Listed y.left u x.lines o) same_right
      (subst (λ (l : Term). Listed l x.right x.lines o) same_left w))

pub tried_one : (p q : List ℕ) (t : Term) → Lower p → (o z : PairOutcome) → Tried p q t o → Tried p q t z → o ≡ z
tried_one p q t h o z (x, v) (y, w) =
    unless_one (listing_rows full_lines full_records y.lines) stop o z _ _ (used_one y.left y.right y.lines o z)
    (listed_same p q t h x y o v) w
