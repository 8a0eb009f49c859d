-- `book::judge_book` meets its contract. Assumes nothing.
use Rattle.refusals.proofs.Judging.{judged_on}
use Rattle.book.proofs.Judges.{book_stop, book_next}
use Rattle.book.proofs.judge_book.Goals as goal

pub returns-in_err-and : goal.returns-in_err-and
returns-in_err-and c =
    judged_on _ _ _ _ c.from_residual.ensures.1
    (book_stop _ _ _ _ _ _ c.judge_lengths.ensures c.judge_places.ensures _ c.in_err-and.ensures)

pub returns : goal.returns
returns c =
    rw c.and-2.ensures (book_next _ _ _ _ _ _ c.judge_lengths.ensures c.judge_places.ensures c.in_ok-and.ensures _ _ c.judge_rules.ensures
    c.judge_recipe.ensures)
