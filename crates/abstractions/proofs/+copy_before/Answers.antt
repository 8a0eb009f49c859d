-- `abstractions::copy_before` meets its contract. Each branch is one law of copies among the first parts, by the kind of the first record;
-- the measure is the length of the slice. Assumes nothing.
use native.Mathlib.Omega.{arith}
use Rattle.shifting.proofs.Slices.{shorter}
use Rattle.abstractions.proofs.Occurrences.{copy_answer, looks_head, looks_argument, looks_body, head_passed, before_none}
use Rattle.abstractions.proofs.Occurrences.{before_here, before_stop, before_cut, before_argument, before_body, before_leaf}
use borrow.Author.Rules.{rules}
use Rattle.abstractions.proofs.+copy_before.Goals as goal

pub returns-then-goal-eq0 : goal.returns-then-goal-eq0
returns-then-goal-eq0 t c = search (rules, before_none)

pub returns-then-is_copy : goal.returns-then-is_copy
returns-then-is_copy t c = search (rules, before_here, copy_answer)

pub copy_before-requires : goal.copy_before-requires
copy_before-requires t c = (search (rules, shorter), search (rules, looks_head))

pub returns-in_err-left : goal.returns-in_err-left
returns-in_err-left t c = rw c.from_residual.ensures (search (rules, before_stop, copy_answer, c.in_err-left.was))

pub returns-then-left-eq0 : goal.returns-then-left-eq0
returns-then-left-eq0 t c = search (rules, before_cut, copy_answer, c.in_ok-left.was)

pub overflow_sub-next : goal.overflow_sub-next
overflow_sub-next t c =
    let n = head_passed _ _ _ _ _ _ c.if-k.true c.in_ok-left.was c.if-left-eq0.false c.copy_before.ensures
    c.requires in
    omega arith

pub overflow_mul-next : goal.overflow_mul-next
overflow_mul-next t c =
    let n = head_passed _ _ _ _ _ _ c.if-k.true c.in_ok-left.was c.if-left-eq0.false c.copy_before.ensures
    c.requires in
    omega arith

pub slice_bounds-copy_before-count-then-k : goal.slice_bounds-copy_before-count-then-k
slice_bounds-copy_before-count-then-k t c =
    let n = head_passed _ _ _ _ _ _ c.if-k.true c.in_ok-left.was c.if-left-eq0.false c.copy_before.ensures
    c.requires in
    omega arith

pub slice_bounds-copy_before-start-then-k : goal.slice_bounds-copy_before-start-then-k
slice_bounds-copy_before-start-then-k t c =
    let n = head_passed _ _ _ _ _ _ c.if-k.true c.in_ok-left.was c.if-left-eq0.false c.copy_before.ensures
    c.requires in
    omega arith

pub copy_before-requires-then-k : goal.copy_before-requires-then-k
copy_before-requires-then-k t c =
    let n = head_passed _ _ _ _ _ _ c.if-k.true c.in_ok-left.was c.if-left-eq0.false c.copy_before.ensures
    c.requires in (
      omega arith,
      looks_argument _ _ _ _ _ _ c.if-k.true c.in_ok-left.was c.if-left-eq0.false c.copy_before.ensures
          c.requires,
    )

pub returns-then-k : goal.returns-then-k
returns-then-k t c = search (rules, before_argument, copy_answer, c.in_ok-left.was)

pub copy_before-requires-then-k-2 : goal.copy_before-requires-then-k-2
copy_before-requires-then-k-2 t c = (search (rules, shorter), search (rules, looks_body))

pub returns-then-k-2 : goal.returns-then-k-2
returns-then-k-2 t c = search (rules, before_body, copy_answer)

pub returns : goal.returns
returns t c = search (rules, before_leaf, copy_answer)
