-- `slots::records_before` meets its contract. Assumes nothing.
use Rattle.std.proofs.Common.{◌≡◌, ◌*◌, ◌≤◌, take}
use Rattle.slots.specs.Slots.{total}
use Rattle.slots.proofs.records_before.Given as goal

abbrev pub invariant-loop-count : goal.invariant-loop-count
invariant-loop-count l = (l.sum ≤ 255 * l.count-index) × (l.sum ≡ total (take l.count-index l.count-items))
