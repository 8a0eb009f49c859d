-- `joins::joining::enclose_into` meets its contract. One abstraction over the body is contracted, and the others come over what is left,
-- for which there is room; the measure is how many abstractions are left. Assumes nothing.
use native.Mathlib.Omega.{arith}
use Rattle.joins.proofs.Joins.{enclosed_none, encloses_abstracted, never_long, contracted_few, contracted_within, encloses_next}
use Rattle.joins.proofs.Joins.{enclosed_next}
use borrow.Author.Rules.{rules}
use Rattle.joins.proofs.joining.+enclose_into.Goals as goal

pub returns-then-n-eq0 : goal.returns-then-n-eq0
returns-then-n-eq0 t c = search (rules, enclosed_none)

pub contract_abstraction-requires : goal.contract_abstraction-requires
contract_abstraction-requires t c = search (rules, encloses_abstracted)

pub returns-in_default : goal.returns-in_default
returns-in_default t c = search (rules, never_long)

pub overflow_mul-m : goal.overflow_mul-m
overflow_mul-m t c =
    omega (
      arith,
      contracted_few c.requires c.if-n-eq0.false _ _ _ c.contract_abstraction.ensures
          (omega arith) _ c.in-Some.is,
    )

pub slice_bounds-enclose_into-end : goal.slice_bounds-enclose_into-end
slice_bounds-enclose_into-end t c = search (rules, contracted_within)

pub enclose_into-requires : goal.enclose_into-requires
enclose_into-requires t c = search (rules, encloses_next)

pub returns : goal.returns
returns t c = search (rules, enclosed_next)
