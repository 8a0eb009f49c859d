-- The numbers with which a pair ends the search: 9 and 10 of its listing, 12 and 15 of its sides. Assumes nothing.
--   SearchNumber k   k is one of these
use mathlib.Core.Path.{◌≡◌, sym, subst}
use mathlib.Core.List.{List}
use mathlib.Core.Logic.{◌⊎◌, inl, inr}
use Prim.Native.Nat.{ℕ}
use native.Mathlib.Omega.{arith}
use Rattle.terms.specs.Term.{Term}
use Rattle.terms.specs.Refusal.{Refused, normal_form_rows}
use Rattle.attempts.specs.Pairs.{stop, Tried}

-- "A refusal 9, 10, 12 or 15 on the way"
abbrev pub SearchNumber : ℕ → Type 0
SearchNumber k = (k ≡ 9) ⊎ ((k ≡ 10) ⊎ ((k ≡ 12) ⊎ (k ≡ 15)))

pub normal_number : (F : Term → Type 0) (least k : ℕ) → Refused (normal_form_rows F least) k → SearchNumber k
normal_number F least k (inl (x, e)) = inr (inr (inl e))
normal_number F least k (inr (n, inl (x, e))) = inr (inr (inr e))
normal_number F least k (inr (n, inr (m, z))) = absurd z

pub tried_number : (p q : List ℕ) (t : Term) (k : ℕ) → Tried p q t (stop k) → SearchNumber k
tried_number p q t k (x, inl (m, inl (y, e), f)) = let d : k ≡ m = cc in subst SearchNumber (sym d) (inl e)
tried_number p q t k (x, inl (m, inr (n, inl (y, e)), f)) = let d : k ≡ m = cc in subst SearchNumber (sym d) (inr (inl e))
tried_number p q t k (x, inl (m, inr (n, inr (o, z)), f)) = absurd z
tried_number p q t k (x, inr (room, inl (n, e))) = absurd (let z : ◌≡◌ {A = ℕ} 0 1 = cc in omega arith)
tried_number p q t k (x, inr (room, inr (u, inl (m, inl (y, e), f)))) = let d : k ≡ m = cc in subst SearchNumber (sym d) (inr (inr (inl e)))
tried_number p q t k (x, inr (room, inr (u, inl (m, inr (n, z), f)))) =
    let d : k ≡ m = cc in subst SearchNumber (sym d) (normal_number _ 1 m z)
tried_number p q t k (x, inr (room, inr (u, inr (fits, (v, g, e))))) = absurd (let z : ◌≡◌ {A = ℕ} 0 1 = cc in omega arith)
