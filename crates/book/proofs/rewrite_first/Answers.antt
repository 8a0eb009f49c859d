-- `book::rewrite_first` meets its contract. Assumes nothing.
use mathlib.Core.Path.{ap, ◌∙◌}
use Rattle.std.proofs.lemmas.Result.{err_from_is_err_and}
use Rattle.std.specs.declared.result.Result.TheVariants.{Ok}
use Rattle.book.proofs.Answers.{answered_refused, answered_nothing, answered_form}
use Rattle.book.proofs.rewrite_first.Goals as goal

pub returns-in_err-pairs : goal.returns-in_err-pairs
returns-in_err-pairs c =
    let p = err_from_is_err_and c.from_residual.result c.from_residual.ensures.1 in
    rw (p.1, p.2) (answered_refused _ _ _ c.requires _ _ c.search.ensures _ c.in_err-pairs.was _)

pub returns-in-Nothing : goal.returns-in-Nothing
returns-in-Nothing c =
    answered_nothing _ _ _ c.requires _ _ c.search.ensures _ (c.in_ok-pairs.was ∙ ap Ok c.in-Nothing.is) _ _ _ c.write_recipe.ensures

pub returns-in-Form : goal.returns-in-Form
returns-in-Form c =
    answered_form _ _ _ c.requires _ _ c.search.ensures _ _ _ (c.in_ok-pairs.was ∙ ap Ok c.in-Form.is) _ _ _ c.write_whole.ensures
