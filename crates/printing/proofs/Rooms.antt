-- Room for a printed line. A value's records are within its table, which is bounded. Assumes nothing.
use mathlib.Core.Path.{◌≡◌, ◌∙◌, ap}
use mathlib.Core.List.{List}
use Prim.Native.Nat.{ℕ, ◌+◌, ◌*◌, ◌/◌, ◌≤◌}
use native.Mathlib.Omega.{arith}
use lib.ListN.{length, take, drop, length-drop}
use lib.Seq.{length-take-le}
use Rattle.terms.specs.Figures.{table_bytes}
use Rattle.assignments.specs.declared.Span.{Span}
use Rattle.printing.specs.Text.{room}

-- room for the printed line of a value
pub value_room : (x : Span) (s v : List ℕ) (n : ℕ) → v ≡ take (4 * x.count) (drop (4 * x.first) s) → 4 * (x.first + x.count) ≤ length s
    → length s ≤ table_bytes → room ≤ n → 64 + 9 * (length v / 4) ≤ n
value_room x s v n e w f r =
    let m : length v ≡ 4 * x.count =
    ap length e ∙ length-take-le (4 * x.count) (drop (4 * x.first) s) (omega (arith, length-drop (4 * x.first) s)) in
    omega (arith, m)
