-- `exports::onestep_book` meets its contract: the number is that of the book's answer, and its pairs are written. Assumes nothing.
use mathlib.Core.Path.{refl, sym, ap, ◌∙◌}
use Rattle.exports.specs.Answers.{book_code, pairs_after}
use Rattle.exports.proofs.Answers.{handed_on, fits_records, booked_few}
use borrow.Author.Rules.{rules}
use Rattle.exports.proofs.onestep_book.Goals as goal

pub overflow_cast-result : goal.overflow_cast-result
overflow_cast-result c = fits_records _ (booked_few _ _ _ _ _ _ c.apply.ensures.answer _ c.in-Ok.is)

pub returns-in-Ok : goal.returns-in-Ok
returns-in-Ok c = record {
  answer = (
    c.apply.result,
    c.apply.ensures.answer,
    handed_on _ _ refl (fits_records _ (booked_few _ _ _ _ _ _ c.apply.ensures.answer _ c.in-Ok.is)) ∙ sym (ap book_code c.in-Ok.is),
    sym (ap (pairs_after _) c.in-Ok.is),
  );
  area = search rules;
}
