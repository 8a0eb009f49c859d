-- `rewriting::put_swept` meets its contract: the swept form is written where it has room. Assumes nothing.
use native.Mathlib.Omega.{arith}
use Rattle.std.proofs.lemmas.Result.{err_from_is_err_and}
use Rattle.sides.proofs.Sides.{or_refusal, swept_as}
use Rattle.rewriting.proofs.Forms.{put_long, put_short, put_done}
use borrow.Author.Rules.{rules}
use Rattle.rewriting.proofs.put_swept.Goals as goal

pub returns-in_err-n : goal.returns-in_err-n
returns-in_err-n c =
    let p = err_from_is_err_and c.from_residual.result c.from_residual.ensures.1 in
    let o = or_refusal _ _ _ c.in_err-n.ensures.value in
    rw (p.1, p.2, o.1) (put_long _ _ _ _ _ _ c.requires c.sweep_side.ensures _ o.0)

pub overflow_mul-n : goal.overflow_mul-n
overflow_mul-n c =
    let x = swept_as _ _ _ _ _ _ c.requires c.sweep_side.ensures _ (omega arith) c.in_ok-n.ensures.ok_part in
    search rules

pub slice_bounds-write_form-end : goal.slice_bounds-write_form-end
slice_bounds-write_form-end c =
    let x = swept_as _ _ _ _ _ _ c.requires c.sweep_side.ensures _ (omega arith) c.in_ok-n.ensures.ok_part in
    search rules

pub returns-then-write_form : goal.returns-then-write_form
returns-then-write_form c =
    let x = swept_as _ _ _ _ _ _ c.requires c.sweep_side.ensures _ (omega arith) c.in_ok-n.ensures.ok_part in
    put_done _ _ _ _ _ x _ _ _ c.write_form.ensures c.if-write_form.true

pub returns : goal.returns
returns c =
    let x = swept_as _ _ _ _ _ _ c.requires c.sweep_side.ensures _ (omega arith) c.in_ok-n.ensures.ok_part in
    put_short _ _ _ _ _ x _ _ _ c.write_form.ensures c.if-write_form.false
