-- `sweep_part`, `sweep_application` and `sweep_abstraction` of `sweeping` meet their contracts. The sweep of a term follows from those of
-- its parts, whose tables are shorter; the measure is the table's length. Assumes nothing.
use native.Mathlib.Omega.{arith}
use Rattle.sweeping.proofs.Sweeps.{ready_head, ready_argument, ready_body, ready_value, sweepable_few, sweepable_within}
use Rattle.sweeping.proofs.Sweeps.{head_long, argument_long, sweepable_parts_swept, sweeps_application, body_long, sweepable_body_swept}
use Rattle.sweeping.proofs.Sweeps.{sweeps_abstraction, sweeps_variable, sweepable_leaf_length, sweeps_leaf}
use borrow.Author.Rules.{rules}
use Rattle.sweeping.proofs.+sweep.Goals as goal

pub sweep_abstraction-sweep_part-requires : goal.sweep_abstraction-sweep_part-requires
sweep_abstraction-sweep_part-requires t c = search (rules, ready_body)

pub sweep_abstraction-returns-in_err-n : goal.sweep_abstraction-returns-in_err-n
sweep_abstraction-returns-in_err-n t c = rw c.from_residual.ensures (search (rules, body_long, c.in_err-n.was))

pub sweep_abstraction-overflow_mul-n : goal.sweep_abstraction-overflow_mul-n
sweep_abstraction-overflow_mul-n t c =
    omega (
      arith,
      sweepable_few _ _ _ _ _ _ _ c.sweep_part.ensures c.in_ok-n.was (omega arith)
          (ready_body _ _ _ _ c.requires.0 c.requires.1 c.body_of.ensures.is),
    )

pub sweep_abstraction-slice_bounds-contract_abstraction-end : goal.sweep_abstraction-slice_bounds-contract_abstraction-end
sweep_abstraction-slice_bounds-contract_abstraction-end t c = search (rules, sweepable_within, ready_body, c.in_ok-n.was)

pub sweep_abstraction-contract_abstraction-requires : goal.sweep_abstraction-contract_abstraction-requires
sweep_abstraction-contract_abstraction-requires t c = search (rules, sweepable_body_swept, c.in_ok-n.was)

pub sweep_abstraction-returns : goal.sweep_abstraction-returns
sweep_abstraction-returns t c = search (rules, sweeps_abstraction, c.in_ok-n.was)

pub sweep_application-sweep_part-requires : goal.sweep_application-sweep_part-requires
sweep_application-sweep_part-requires t c = search (rules, ready_head)

pub sweep_application-returns-in_err-n : goal.sweep_application-returns-in_err-n
sweep_application-returns-in_err-n t c = rw c.from_residual.ensures (search (rules, head_long, c.in_err-n.was))

pub sweep_application-sweep_part-requires-2 : goal.sweep_application-sweep_part-requires-2
sweep_application-sweep_part-requires-2 t c = search (rules, ready_argument)

pub sweep_application-returns-in_err-m : goal.sweep_application-returns-in_err-m
sweep_application-returns-in_err-m t c =
    rw c.from_residual-in_err-m.ensures (search (rules, argument_long, c.in_ok-n.was, c.in_err-m.was))

pub sweep_application-overflow_mul-n : goal.sweep_application-overflow_mul-n
sweep_application-overflow_mul-n t c =
    omega (
      arith,
      sweepable_few _ _ _ _ _ _ _ c.sweep_part.ensures c.in_ok-n.was (omega arith)
          (ready_head _ _ _ _ c.requires.0 c.requires.1 c.head_of.ensures.is),
    )

pub sweep_application-overflow_mul-m : goal.sweep_application-overflow_mul-m
sweep_application-overflow_mul-m t c =
    omega (
      arith,
      sweepable_few _ _ _ _ _ _ _ c.sweep_part-2.ensures c.in_ok-m.was (omega arith)
          (ready_argument _ _ _ _ c.requires.0 c.requires.1 c.argument_of.ensures.is),
    )

pub sweep_application-slice_bounds-contract_application-end : goal.sweep_application-slice_bounds-contract_application-end
sweep_application-slice_bounds-contract_application-end t c = search (rules, sweepable_within, ready_head, c.in_ok-n.was)

pub sweep_application-slice_bounds-contract_application-end-2 : goal.sweep_application-slice_bounds-contract_application-end-2
sweep_application-slice_bounds-contract_application-end-2 t c = search (rules, sweepable_within, ready_argument, c.in_ok-m.was)

pub sweep_application-contract_application-requires : goal.sweep_application-contract_application-requires
sweep_application-contract_application-requires t c = search (rules, sweepable_parts_swept, c.in_ok-n.was, c.in_ok-m.was)

pub sweep_application-returns : goal.sweep_application-returns
sweep_application-returns t c = search (rules, sweeps_application, c.in_ok-n.was, c.in_ok-m.was)

pub sweep_part-write_value-requires : goal.sweep_part-write_value-requires
sweep_part-write_value-requires t c = search (rules, ready_value)

pub sweep_part-returns-then-kind-3 : goal.sweep_part-returns-then-kind-3
sweep_part-returns-then-kind-3 t c = search (rules, sweeps_variable)

pub sweep_part-copy_into-requires : goal.sweep_part-copy_into-requires
sweep_part-copy_into-requires t c =
    omega (arith, sweepable_leaf_length _ _ _ c.if-kind-2.false c.if-kind.false c.requires)

pub sweep_part-returns : goal.sweep_part-returns
sweep_part-returns t c = search (rules, sweeps_leaf)
