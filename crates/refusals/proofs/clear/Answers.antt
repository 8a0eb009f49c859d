-- `refusals::clear` meets its contract. Assumes nothing.
use Rattle.std.proofs.Common.{rules}
use Rattle.refusals.proofs.Clearing.{cleared_all}
use Rattle.refusals.proofs.clear.Goals as goal

pub returns-then-work-eq-TABLE_BYTES : goal.returns-then-work-eq-TABLE_BYTES
returns-then-work-eq-TABLE_BYTES c = search (rules, cleared_all)
