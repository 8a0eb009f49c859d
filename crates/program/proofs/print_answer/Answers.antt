-- `program::print_answer` is safe and ends. What list has written, if it isn't refused, can be printed.
-- Assumes nothing.
use native.Mathlib.Omega.{arith}
use Rattle.program.proofs.Listings.{listed_printable}
use Rattle.program.proofs.print_answer.Goals as goal

pub print_listing-requires : goal.print_listing-requires
print_listing-requires c =
    listed_printable _ _ _ _ _ _ _ _ c.list-answer.ensures.answer _ c.in-Ok.is (omega (arith, c.list-answer.auto.lines))
    (omega (arith, c.list-answer.auto.values))
