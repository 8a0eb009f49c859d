-- `printing::put_records` meets its contract. The loop's invariant: the text of the records passed is put. Assumes nothing.
use Rattle.std.proofs.Common.{◌≡◌, ◌+◌, ◌*◌}
use Rattle.printing.specs.Text.{Is, records_text, Puts}
use Rattle.printing.proofs.put_records.Given as goal

abbrev pub invariant-loop-k : goal.invariant-loop-k
invariant-loop-k l = (l.end ≡ l.at + 9 * l.k) × Puts (Is (records_text l.table l.k)) l.initial.out l.at l.end l.out
