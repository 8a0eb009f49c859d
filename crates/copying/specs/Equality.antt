-- Same a b r: r says whether the lists a and b are equal.
use Rattle.std.specs.Prelude.{◌≡◌, Bool, true, false, List, ℕ}

unfoldable pub Same : List ℕ → List ℕ → Bool → Type 0
Same a b true = a ≡ b
Same a b false = ¬ (a ≡ b)
