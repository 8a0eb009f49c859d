-- `rewriting::put_normal` meets its contract: the first normal form is written where it has room. Assumes nothing.
use mathlib.Core.Path.{refl}
use Rattle.std.proofs.lemmas.Result.{err_from_is_err_and}
use Rattle.rewriting.proofs.Forms.{normal_form, normal_put_fault, normal_put_short, normal_put_done}
use borrow.Author.Rules.{rules}
use Rattle.rewriting.proofs.put_normal.Goals as goal

pub returns-in_err-n : goal.returns-in_err-n
returns-in_err-n c =
    let p = err_from_is_err_and c.from_residual.result c.from_residual.ensures.1 in
    rw (p.1, p.2) (normal_put_fault _ _ _ c.requires _ _ c.in_err-n.ensures _)

pub overflow_mul-n : goal.overflow_mul-n
overflow_mul-n c =
    let x = (normal_form _ _ _ c.requires _ _ c.in_ok-n.ensures _ refl).2 in
    search rules

pub slice_bounds-write_form-end : goal.slice_bounds-write_form-end
slice_bounds-write_form-end c =
    let x = (normal_form _ _ _ c.requires _ _ c.in_ok-n.ensures _ refl).2 in
    search rules

pub returns-then-not-write_form : goal.returns-then-not-write_form
returns-then-not-write_form c =
    normal_put_short _ _ _ c.requires _ _ c.in_ok-n.ensures _ refl _ _ _ c.write_form.ensures c.if-not-write_form.true

pub returns : goal.returns
returns c = normal_put_done _ _ _ c.requires _ _ c.in_ok-n.ensures _ refl _ _ _ c.write_form.ensures c.if-not-write_form.false
