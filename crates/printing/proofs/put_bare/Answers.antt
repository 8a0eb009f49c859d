-- `printing::put_bare` meets its contract. Four texts are put one behind another.
-- Assumes nothing.
use Rattle.printing.proofs.Texts.{puts_then}
use borrow.Author.Rules.{rules}
use Rattle.printing.proofs.put_bare.Goals as goal

pub returns : goal.returns
returns c =
    let a = puts_then _ _ _ _ _ _ _ _ c.put_decimal-a.ensures.0 c.put-b.ensures.0 in
    let b = puts_then _ _ _ _ _ _ _ _ a c.put-c.ensures.0 in
    search (rules, puts_then)
