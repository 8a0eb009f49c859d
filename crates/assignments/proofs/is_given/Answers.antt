-- `assignments::is_given` meets its contract: each test that fails is a field of `Given` that is missing. Assumes nothing.
use native.Mathlib.Omega.{arith}
use Rattle.assignments.proofs.Entries.{says_given}
use Rattle.assignments.proofs.is_given.Goals as goal

pub returns : goal.returns
returns c =
    says_given _ c.args.entries _ _ c.in-Assigned.is (omega arith) (omega arith) _ c.check_value.result
    c.value_of.ensures c.check_value.ensures
