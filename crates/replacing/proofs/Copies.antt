-- Three tables copied one behind another. Assumes nothing.
use mathlib.Core.Path.{◌≡◌, refl, ap, ◌∙◌}
use mathlib.Core.List.{List, ◌++◌, append_assoc}
use Prim.Native.Nat.{ℕ, ◌+◌, ◌-◌}
use native.Mathlib.Omega.{arith}
use lib.ListN.{length, take, drop, length-take, length-drop, length-append}
use lib.Seq.{sets}
use Rattle.records.specs.Parts.{slice}
use Rattle.records.proofs.Parts.{rest_part}
use Rattle.copying.proofs.Stores.{written_then}
use Rattle.replacing.specs.Replacing.{splice, SpliceRoom, SpliceWritten}

three_written :
    (a b c w p q v : List ℕ) (m n : ℕ) → p ≡ sets w 0 a → q ≡ sets p m b → v ≡ sets q n c → m ≡ length a → n ≡ m + length b
    → v ≡ sets w 0 (a ++ (b ++ c))
three_written a b c w p q v m n x y z e f =
    written_then (a ++ b) c w q v 0 n (written_then a b w p q 0 m x y (omega arith)) z (omega (arith, length-append a b))
    ∙ ap (sets w 0) (append_assoc a b c)

module _ (r : List ℕ) (at end : ℕ) (f w : List ℕ) (h : SpliceRoom r at end f w) where
  splice_length : at + length f + (length r - end) ≡ length (splice r at end f)
  splice_length =
      simp (length-append, length-take, length-drop) (omega (arith, h.from, h.within))

  -- the copies, as the code makes them
  pub splice_copied :
      (p q v : List ℕ) → p ≡ sets w 0 (take (at - 0) (drop 0 r)) → q ≡ sets p at f → v ≡ sets q (at + length f) (slice r end)
      → SpliceWritten r at end f w (at + length f + (length r - end)) v
  splice_copied p q v x y z =
      let n : at - 0 ≡ at = omega arith in
      record {
        bytes = three_written (take at r) f (drop end r) w p q v at (at + length f) (x ∙ ap (λ (k : ℕ). sets w 0 (take k r)) n) y
            (z ∙ ap (sets q (at + length f)) (rest_part r end)) (omega (arith, length-take at r, h.from, h.within)) refl;
        count = splice_length;
      }
