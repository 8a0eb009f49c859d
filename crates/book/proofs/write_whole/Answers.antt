-- `book::write_whole` meets its contract. Assumes nothing.
use mathlib.Core.List.{[]}
use Rattle.std.proofs.lemmas.Result.{err_from_is_err_and}
use Rattle.book.proofs.Answers.{whole_fault, whole_few, whole_form}
use borrow.Author.Rules.{rules}
use Rattle.book.proofs.write_whole.Goals as goal

pub overflow_mul-n : goal.overflow_mul-n
overflow_mul-n c =
    let few = whole_few _ _ _ _ _ c.normalize_whole.ensures 0 [] _ c.in_ok-n.was c.requires in
    search rules

pub slice_bounds-write_recipe-end : goal.slice_bounds-write_recipe-end
slice_bounds-write_recipe-end c =
    let few = whole_few _ _ _ _ _ c.normalize_whole.ensures 0 [] _ c.in_ok-n.was c.requires in
    search rules

pub returns-in_err-n : goal.returns-in_err-n
returns-in_err-n c =
    let p = err_from_is_err_and c.from_residual.result c.from_residual.ensures.1 in
    rw (p.1, p.2) (whole_fault _ _ _ _ _ c.normalize_whole.ensures _ _ _ c.in_err-n.was)

pub returns : goal.returns
returns c = search (rules, whole_form, c.in_ok-n.was)
