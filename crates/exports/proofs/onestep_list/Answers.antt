-- `exports::onestep_list` meets its contract: the number is that of list's answer, and -9 comes exactly if list's 9 does. Assumes nothing.
use Rattle.exports.proofs.Answers.{handed_on, fits_counted, few_counts, listed_few}
use Rattle.exports.proofs.Codes.{listed_as}
use Rattle.exports.proofs.onestep_list.Goals as goal

pub count_code-requires : goal.count_code-requires
count_code-requires c = few_counts _ (listed_few _ _ _ _ _ _ _ _ c.list.ensures.answer)

pub returns : goal.returns
returns c =
    let e = handed_on _ _ c.count_code.ensures (fits_counted _ (few_counts _ (listed_few _ _ _ _ _ _ _ _ c.list.ensures.answer))) in
    let x = listed_as _ _ _ _ _ _ c.list.result _ _ _ c.list.ensures.answer c.list.ensures.nine e c.list.ensures.area in
    record { answer = x.0; nine = x.1.0; area = x.1.1 }
