-- `test_book::build_book` meets its contract. The invariant of both loops: the end is within the book. Assumes nothing.
use Rattle.std.proofs.Common.{◌≤◌, length}
use Rattle.test_book.proofs.build_book.Given as goal

abbrev pub invariant-loop : goal.invariant-loop
invariant-loop l = l.at ≤ length l.places

abbrev pub invariant-loop-entry : goal.invariant-loop-entry
invariant-loop-entry l = l.at ≤ length l.places
