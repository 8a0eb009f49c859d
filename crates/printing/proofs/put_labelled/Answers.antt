-- `printing::put_labelled` meets its contract. The word, a blank, the number and the line's end are put one behind another.
-- Assumes nothing.
use native.Mathlib.Omega.{arith}
use Rattle.printing.proofs.Texts.{puts_then, word_put}
use Rattle.printing.proofs.put_labelled.Goals as goal

pub returns : goal.returns
returns c =
    let a = puts_then _ _ _ _ _ _ _ _ (word_put _ _ _ c.copy_into.ensures) c.put-a.ensures.0 in
    let b = puts_then _ _ _ _ _ _ _ _ a c.put_decimal-b.ensures.0 in
    (puts_then _ _ _ _ _ _ _ _ b c.put.ensures.0, omega arith)
