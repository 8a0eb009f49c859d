-- `joins::joining::join_constants_into` meets its contract. Two constants are joined as the local of their pair,
-- and other ones if they are equal. Assumes nothing.
use native.Mathlib.Omega.{arith}
use mathlib.Core.Path.{refl}
use Rattle.joins.proofs.Joins.{joined_pair, alike_constants, local_fits}
use borrow.Author.Rules.{rules}
use Rattle.joins.proofs.joining.join_constants_into.Goals as goal

pub put_record-requires : goal.put_record-requires
put_record-requires c =
    (omega arith, local_fits _ _ _ _ _ _ c.in-Some.ensures refl (omega arith))

pub same_leaf_into-requires : goal.same_leaf_into-requires
same_leaf_into-requires c = (
  search rules,
  record { no_application = λ e. omega arith; no_abstraction = λ e. omega arith },
  alike_constants c.number_at-m.ensures.0 c.number_at-n.ensures.0 c.requires.1 c.requires.2
      c.in-None.ensures refl,
)

pub returns-in-Some : goal.returns-in-Some
returns-in-Some c = search (rules, joined_pair, c.in-Some.ensures, refl)
