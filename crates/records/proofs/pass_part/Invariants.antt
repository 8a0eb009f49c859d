-- `records::pass_part` meets its contract. The invariant: as many terms stand at `at` as parts are missing there. Assumes nothing.
use Rattle.std.proofs.Common.{◌≡◌, drop}
use Rattle.std.specs.Slice.Iter.{chunks_exact_size, chunks_exact_rest}
use Rattle.records.proofs.Passing.{Passing}
use Rattle.records.proofs.pass_part.Given as goal

abbrev pub invariant-loop-record : goal.invariant-loop-record
invariant-loop-record l = record {
  size : chunks_exact_size l.record-iterator ≡ 4;
  passing : Passing l.s l.from l.at l.missing × (chunks_exact_rest l.record-iterator ≡ drop l.at l.s);
}
