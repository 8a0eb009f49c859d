-- `listing::records_of` meets its contract. The loop's invariant: what was counted and what the entries left say is what all entries say.
-- Assumes nothing.
use Rattle.std.proofs.Common.{◌≡◌, ◌+◌, drop}
use Rattle.listing.specs.Writers.{entries_records}
use Rattle.listing.proofs.records_of.Given as goal

abbrev pub invariant-loop-entry : goal.invariant-loop-entry
invariant-loop-entry l = l.n + entries_records (drop l.entry-index l.fn.entries) ≡ entries_records l.fn.entries
