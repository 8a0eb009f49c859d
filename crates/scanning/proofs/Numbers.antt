-- The numbers with which the search ends: 9, 10, 12 and 15, of a pair or of the whole. By induction on the pairs. Assumes nothing.
use mathlib.Core.Path.{◌≡◌, sym, subst}
use mathlib.Core.List.{List, [], ◌∷◌}
use mathlib.Core.Logic.{inl, inr}
use Prim.Native.Nat.{ℕ, suc}
use native.Mathlib.Omega.{arith}
use Rattle.terms.specs.Term.{Term}
use Rattle.rules.specs.Rules.{left_table, right_table, places}
use Rattle.rules.specs.Pairs.{Pair, pairs}
use Rattle.attempts.proofs.Numbers.{SearchNumber, normal_number, tried_number}
use Rattle.scanning.specs.Search.{refused, SearchEnds, Found}

search_number : (b r : List ℕ) (s : Term) (xs : List Pair) (c k : ℕ) → SearchEnds b r s xs c (refused k) → SearchNumber k
search_number b r s [] c k e = absurd (let z : ◌≡◌ {A = ℕ} 0 1 = cc in omega arith)
search_number b r s (((j, t), i) ∷ xs) c k (inl (x, y)) = search_number b r s xs (suc c) k y
search_number b r s (((j, t), i) ∷ xs) c k (inr (inl (n, x, e))) =
    let d : k ≡ n = cc in subst SearchNumber (sym d) (tried_number (left_table b i) (right_table b i) t n x)
search_number b r s (((j, t), i) ∷ xs) c k (inr (inr (u, w, x, y, inl (n, z, e)))) =
    let d : k ≡ n = cc in subst SearchNumber (sym d) (normal_number (λ v. v ≡ w) 0 n z)
search_number b r s (((j, t), i) ∷ xs) c k (inr (inr (u, w, x, y, inr (p, (v, f, e))))) =
    absurd (let z : ◌≡◌ {A = ℕ} 0 1 = cc in omega arith)

pub found_number : (b r : List ℕ) (k : ℕ) → Found b r (refused k) → SearchNumber k
found_number b r k x = search_number b r x.term (pairs x.parts (places b)) 0 k x.searched
