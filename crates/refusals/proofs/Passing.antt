-- Right tables pass the rows of refusal: the table of a term those of a pattern or a recipe, and a table of a right length its row 8. The
-- examples of what the operations promise rest on this. Assumes nothing.
use mathlib.Core.Path.{◌≡◌, sym, ◌∙◌, subst}
use mathlib.Core.Bool.{true, false}
use mathlib.Core.List.{List}
use mathlib.Core.Logic.{inl, inr}
use Prim.Native.Nat.{ℕ, ◌%◌, ◌≤◌}
use native.Mathlib.Omega.{arith}
use lib.Dec.{T}
use lib.ListN.{length}
use Rattle.terms.specs.Figures.{variables, pattern_records, table_bytes}
use Rattle.terms.specs.Term.{Term, size, Normal}
use Rattle.terms.specs.Table.{encode, good_records, IsTable}
use Rattle.terms.specs.Refusal.{Passed, BadLength, BadTable, pattern_rows, normal_rows}
use Rattle.terms.proofs.Substitute.{size_pos}
use Rattle.terms.proofs.Table.{encode_length}

pub table_passed : (place : ℕ) (l : List ℕ) → length l ≤ table_bytes → length l % place ≡ 0 → ¬ BadTable place l
table_passed place l h e (inl d) = omega arith
table_passed place l h e (inr d) = d e

module _ (t : Term) where
  length_passed : (most : ℕ) → size t ≤ most → ¬ BadLength most (encode t)
  length_passed most h (inl d) = omega (arith, encode_length t, size_pos t)
  length_passed most h (inr (inl d)) = omega (arith, encode_length t)
  length_passed most h (inr (inr d)) = d (omega (arith, encode_length t))

  good_passed : (v : ℕ) → good_records v (encode t) ≡ true → ¬ (good_records v (encode t) ≡ false)
  good_passed v g e = subst T (sym g ∙ e) tt

  pub pattern_passed : IsTable (encode t) t → size t ≤ pattern_records → good_records variables (encode t) ≡ true
      → Passed (pattern_rows (encode t))
  pattern_passed i h g = (length_passed pattern_records h, (good_passed variables g, (λ n. n t i, tt)))

  pub normal_passed : (most : ℕ) → IsTable (encode t) t → size t ≤ most → good_records 0 (encode t) ≡ true → Normal t
      → Passed (normal_rows most (encode t))
  normal_passed most i h g m = (length_passed most h, (good_passed 0 g, (λ n. n t i, (λ n. n t i m, tt))))
