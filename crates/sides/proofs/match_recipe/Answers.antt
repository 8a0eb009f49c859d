-- `sides::match_recipe` meets its contract: the swept form's bytes are the recipe's exactly if the terms are equal. Assumes nothing.
use native.Mathlib.Omega.{arith}
use Rattle.std.proofs.lemmas.Result.{err_from_is_err_and}
use Rattle.sides.proofs.Sides.{or_refusal, swept_as, matched_long, matched_says}
use borrow.Author.Rules.{rules}
use Rattle.sides.proofs.match_recipe.Goals as goal

pub returns-in_err-n : goal.returns-in_err-n
returns-in_err-n c =
    let p = err_from_is_err_and c.from_residual.result c.from_residual.ensures.1 in
    let o = or_refusal _ _ _ c.in_err-n.ensures.value in
    rw (p.1, p.2, o.1) (matched_long _ _ _ _ _ _ c.requires.0 c.sweep_side.ensures _ o.0)

pub overflow_mul-n : goal.overflow_mul-n
overflow_mul-n c =
    let x = swept_as _ _ _ _ _ _ c.requires.0 c.sweep_side.ensures _ (omega arith) c.in_ok-n.ensures.ok_part in
    search rules

pub slice_bounds-same_bytes-end : goal.slice_bounds-same_bytes-end
slice_bounds-same_bytes-end c = (swept_as _ _ _ _ _ _ c.requires.0 c.sweep_side.ensures _ (omega arith) c.in_ok-n.ensures.ok_part).within

pub returns : goal.returns
returns c =
    let y = swept_as _ _ _ _ _ _ c.requires.0 c.sweep_side.ensures _ (omega arith) c.in_ok-n.ensures.ok_part in
    matched_says _ _ _ _ _ y _ c.requires.1 _ c.same_bytes.ensures
