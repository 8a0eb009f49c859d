-- `ordering::order::bodies_cost` is safe: its number at most doubles before it is tested. Assumes nothing.
use Prim.Native.Nat.{◌<◌}
use Rattle.ordering.proofs.order.bodies_cost.Given as goal

abbrev pub invariant-loop : goal.invariant-loop
invariant-loop l = l.n < 16380
