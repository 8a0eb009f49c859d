-- `matcher::list` meets its contract, from the verdict on its tables and from the search; that 9 is exact follows from its answer. Assumes
-- nothing.
use mathlib.Core.Path.{◌∙◌}
use Rattle.refusals.proofs.Judging.{known}
use Rattle.refusals.proofs.Clearing.{cleared_same}
use Rattle.matcher.proofs.Listed.{listed_all, listed_lent, listed_enumerated}
use Rattle.matcher.proofs.list.Goals as goal

pub returns-in-Err : goal.returns-in-Err
returns-in-Err c =
    let x = listed_all c.args.pattern.now c.args.recipe.now c.args.lines.now c.args.values.now c.args.work.now _ _ _ _
    (listed_lent _ _ _ _ _ _ c.in-Err.ensures) c.clear.ensures in
    record { answer = x.0; nine = x.1.0; area = x.1.1 }

pub enumerate-answer-requires : goal.enumerate-answer-requires
enumerate-answer-requires c = known _ _ c.in-Ok.ensures

pub returns-in-Ok : goal.returns-in-Ok
returns-in-Ok c =
    let x = listed_all c.args.pattern.now c.args.recipe.now c.args.lines.now c.args.values.now c.args.work.now _ _ _ _
    (listed_enumerated _ _ _ _ _ c.in-Ok.ensures _ _ _ c.enumerate-answer.ensures) (c.clear-in-Ok.ensures ∙ cleared_same c.args.work.now
    c.enumerate-answer.new.work c.enumerate-answer.auto.work (known _ _ c.in-Ok.ensures).area) in
    record { answer = x.0; nine = x.1.0; area = x.1.1 }
