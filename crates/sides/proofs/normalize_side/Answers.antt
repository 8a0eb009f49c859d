-- `sides::normalize_side` meets its contract: the first sweep fills the side, and the others go on from its swept form. Assumes nothing.
use Rattle.std.proofs.lemmas.Result.{err_from_is_err_and}
use Rattle.normalizing.proofs.Sweeps.{or_fault}
use Rattle.sides.proofs.Sides.{normal_long, normal_start, normal_rest}
use borrow.Author.Rules.{rules}
use Rattle.sides.proofs.normalize_side.Goals as goal

pub returns-in_err-n : goal.returns-in_err-n
returns-in_err-n c =
    let p = err_from_is_err_and c.from_residual.result c.from_residual.ensures.1 in
    let o = or_fault _ _ _ c.in_err-n.ensures.value in
    λ t f. rw (p.1, p.2, o.1) (normal_long _ _ _ _ _ _ c.requires c.sweep_side.ensures _ o.0 t f)

pub normalize-requires : goal.normalize-requires
normalize-requires c = search (rules, normal_start, c.in_ok-n.ensures.ok_part)

pub returns : goal.returns
returns c = search (rules, normal_rest, c.in_ok-n.ensures.ok_part)
