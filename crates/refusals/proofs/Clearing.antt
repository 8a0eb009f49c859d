-- A work area made zero, and one of another length. The laws speak of any length, so that nothing counts up to a work area's. Assumes
-- nothing.
use mathlib.Core.Path.{◌≡◌, ap, ◌∙◌}
use mathlib.Core.Bool.{cond}
use mathlib.Core.List.{List}
use Prim.Native.Nat.{ℕ}
use borrow.Author.Tests.{eq-eqb, ne_eqb}
use lib.Dec.{eqb}
use lib.ListN.{length, replicate}
use Rattle.terms.specs.Figures.{table_bytes}
use Rattle.refusals.specs.Lent.{cleared}

-- a work area of k bytes
module _ (k : ℕ) where
  abbrev cleared_of : List ℕ → List ℕ
  cleared_of w = cond (eqb (length w) k) (replicate k 0) w

  all : (l : List ℕ) → length l ≡ k → replicate (length l) 0 ≡ cleared_of l
  all l e = ap (λ (n : ℕ). replicate n 0) e ∙ simp (eq-eqb (length l) k e)

  same_cleared : (l m : List ℕ) → length m ≡ length l → length l ≡ k → cleared_of m ≡ cleared_of l
  same_cleared l m e f = simp (eq-eqb (length m) k (e ∙ f), eq-eqb (length l) k f)

pub cleared_all : (l m : List ℕ) → length l ≡ table_bytes → m ≡ replicate (length l) 0 → m ≡ cleared l
cleared_all l m e f = f ∙ all table_bytes l e

-- a work area that a search used
pub cleared_same : (l m : List ℕ) → length m ≡ length l → length l ≡ table_bytes → cleared m ≡ cleared l
cleared_same = same_cleared table_bytes
