-- `notation::build` meets its contract. The loop's invariant: the end is within the table. Assumes nothing.
use Rattle.std.proofs.Common.{length, ◌≤◌}
use Rattle.notation.proofs.build.Given as goal

abbrev pub invariant-loop-c : goal.invariant-loop-c
invariant-loop-c l = l.end ≤ length l.out
