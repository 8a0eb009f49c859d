-- `notation::put_items` meets its contract. The loop's invariant: the end is within the table. Assumes nothing.
use Rattle.std.proofs.Common.{length, ◌≤◌}
use Rattle.notation.proofs.put_items.Given as goal

abbrev pub invariant-loop : goal.invariant-loop
invariant-loop l = l.end ≤ length l.out
