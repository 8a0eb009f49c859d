-- `attempts::rewrite_sides` meets its contract. Assumes nothing.
use Rattle.std.proofs.lemmas.Result.{err_from_is_err_and}
use Rattle.records.proofs.Options.{some_left, none_left}
use Rattle.attempts.proofs.Sides.{left_long, right_fault, right_given}
use Rattle.attempts.proofs.rewrite_sides.Goals as goal

pub returns-then-is_none : goal.returns-then-is_none
returns-then-is_none c = left_long _ _ _ _ _ _ _ c.sweep_side.ensures _ (none_left _ _ _ c.is_none.ensures c.if-is_none.true)

pub returns-in_err-n : goal.returns-in_err-n
returns-in_err-n c =
    let p = err_from_is_err_and c.from_residual.result c.from_residual.ensures.1 in
    let k = some_left _ _ _ c.is_none.ensures c.if-is_none.false in
    rw (p.1, p.2) (right_fault _ _ _ _ _ _ _ c.sweep_side.ensures _ k.1 _ _ c.in_err-n.ensures)

pub returns : goal.returns
returns c =
    let k = some_left _ _ _ c.is_none.ensures c.if-is_none.false in
    right_given _ _ _ _ _ _ _ c.sweep_side.ensures _ k.1 _ _ c.in_ok-n.ensures
