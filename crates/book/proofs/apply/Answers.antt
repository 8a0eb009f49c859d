-- `book::apply` meets its contract. Assumes nothing.
use mathlib.Core.Path.{◌∙◌}
use Rattle.refusals.proofs.Judging.{known}
use Rattle.refusals.proofs.Clearing.{cleared_same}
use Rattle.book.proofs.Answers.{booked_lent, booked_answered}
use Rattle.book.proofs.apply.Goals as goal

pub returns-in-Err : goal.returns-in-Err
returns-in-Err c = record { answer = booked_lent _ _ _ _ _ c.in-Err.ensures; area = c.clear.ensures }

pub rewrite_first-answer-requires : goal.rewrite_first-answer-requires
rewrite_first-answer-requires c = known _ _ c.in-Ok.ensures

pub returns-in-Ok : goal.returns-in-Ok
returns-in-Ok c = record {
  answer = booked_answered _ _ _ _ c.in-Ok.ensures _ _ c.rewrite_first-answer.ensures;
  area = c.clear-in-Ok.ensures ∙ cleared_same c.args.work.now c.rewrite_first-answer.new.work
      c.rewrite_first-answer.auto.work (known _ _ c.in-Ok.ensures).area;
}
