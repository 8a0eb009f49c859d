-- `records::good_records` meets its contract. The invariant: the table's records are good exactly if those that are left are. Assumes
-- nothing.
use Rattle.std.proofs.Common.{◌≡◌, ◌%◌, length}
use Rattle.std.specs.Slice.Iter.{chunks_exact_size, chunks_exact_rest}
use Rattle.terms.specs.Table.{good_records}
use Rattle.records.proofs.good_records.Given as goal

abbrev pub invariant-loop-record : goal.invariant-loop-record
invariant-loop-record l = record {
  size : chunks_exact_size l.record-iterator ≡ 4;
  rest : length (chunks_exact_rest l.record-iterator) % 4 ≡ length l.s % 4;
  good : good_records l.variables l.s ≡ good_records l.variables (chunks_exact_rest l.record-iterator);
}
