-- `records::head_part` and `records::normal_part` meet their contracts. Each branch is one law of walks; the measure is the length of the
-- slice that is handed on. Assumes nothing.
use Prim.Native.Nat.{◌+◌}
use native.Mathlib.Omega.{arith}
use Rattle.records.proofs.Parts.{whole_body}
use Rattle.records.proofs.Tests.{walked_ends, head_two, head_abstraction, head_none, normal_two, normal_none}
use Rattle.records.proofs.Slices.{slice_length, slice_most, slice_tree, head_slice, argument_slice, body_slice, slice_end}
use Rattle.records.proofs.Slices.{walked_parts, walked_argument_no, walked_head_no, normal_body_no, normal_body_redex, normal_body_kept}
use borrow.Author.Rules.{rules}
use Rattle.records.proofs.+normal.Goals as goal

pub head_part-returns-then-kind : goal.head_part-returns-then-kind
head_part-returns-then-kind t c = head_abstraction _ _ c.if-kind.true

pub head_part-head_part-requires : goal.head_part-head_part-requires
head_part-head_part-requires t c =
    let n = slice_length c.args.s.now 4 in
    (omega (arith, n), (search (rules, head_slice), omega (arith, n)))

pub head_part-returns-in_err-next : goal.head_part-returns-in_err-next
head_part-returns-in_err-next t c = rw c.from_residual.ensures (walked_head_no _ _ _ _ c.in_err-next.ensures c.if-kind-2.true head_two)

pub head_part-overflow_add-next : goal.head_part-overflow_add-next
head_part-overflow_add-next t c =
    let e = slice_end c.args.s.now 4 _ _ c.in_ok-next.ensures in
    omega (arith, e.more, e.within)

pub head_part-slice_bounds-normal_part-count : goal.head_part-slice_bounds-normal_part-count
head_part-slice_bounds-normal_part-count t c =
    let e = slice_end c.args.s.now 4 _ _ c.in_ok-next.ensures in
    omega (arith, e.more, e.within)

pub head_part-slice_bounds-normal_part-start : goal.head_part-slice_bounds-normal_part-start
head_part-slice_bounds-normal_part-start t c =
    let e = slice_end c.args.s.now 4 _ _ c.in_ok-next.ensures in
    omega (arith, e.more, e.within)

pub head_part-normal_part-requires : goal.head_part-normal_part-requires
head_part-normal_part-requires t c =
    let e = slice_end c.args.s.now 4 _ _ c.in_ok-next.ensures in
    let n = slice_length c.args.s.now (4 + c.in_ok-next.field-0) in
    let a = argument_slice c.args.s.now _ _ c.in_ok-next.ensures c.requires.0 c.if-kind-2.true in
    (omega (arith, n, e.more), (a, omega (arith, n)))

pub head_part-returns-in_err-normal_part : goal.head_part-returns-in_err-normal_part
head_part-returns-in_err-normal_part t c =
    rw c.from_residual-in_err-normal_part.ensures
    (walked_argument_no _ _ _ c.in_ok-next.ensures _ _ c.if-kind-2.true head_two c.in_err-normal_part.ensures)

pub head_part-overflow_add-result : goal.head_part-overflow_add-result
head_part-overflow_add-result t c =
    let e = slice_end c.args.s.now _ _ _ c.in_ok-normal_part.ensures in
    omega (arith, e.more, e.within)

pub head_part-returns-then-kind-2 : goal.head_part-returns-then-kind-2
head_part-returns-then-kind-2 t c =
    walked_parts _ _ _ c.in_ok-next.ensures _ _ _ c.if-kind-2.true head_two c.in_ok-normal_part.ensures

pub head_part-returns : goal.head_part-returns
head_part-returns t c =
    head_none _ _ c.requires.0 c.if-kind-2.false c.if-kind.false

pub normal_part-normal_part-requires : goal.normal_part-normal_part-requires
normal_part-normal_part-requires t c =
    let n = slice_length c.args.s.now 4 in
    (omega (arith, n), (search (rules, body_slice), omega (arith, n)))

pub normal_part-returns-in_err-end : goal.normal_part-returns-in_err-end
normal_part-returns-in_err-end t c = rw c.from_residual.ensures (search (rules, normal_body_no))

pub normal_part-overflow_add-end : goal.normal_part-overflow_add-end
normal_part-overflow_add-end t c =
    let e = slice_end c.args.s.now 4 _ _ c.in_ok-end.ensures in
    omega (arith, e.more, e.within)

pub normal_part-slice_bounds-is_eta-end : goal.normal_part-slice_bounds-is_eta-end
normal_part-slice_bounds-is_eta-end t c =
    let e = slice_end c.args.s.now 4 _ _ c.in_ok-end.ensures in
    omega (arith, e.more, e.within)

pub normal_part-is_eta-requires : goal.normal_part-is_eta-requires
normal_part-is_eta-requires t c =
    let s = c.args.s.now in
    let e = walked_ends _ _ _ _ c.in_ok-end.ensures in
    let x = slice_tree s 4 c.in_ok-end.field-0 (whole_body s 0 c.requires.0 c.if-kind.true) e in
    (x, omega (arith, slice_most s 4 c.in_ok-end.field-0))

pub normal_part-returns-then-is_eta : goal.normal_part-returns-then-is_eta
normal_part-returns-then-is_eta t c =
    normal_body_redex c.args.s.now c.if-kind.true _ c.in_ok-end.ensures _ c.is_eta.ensures c.if-is_eta.true

pub normal_part-returns-then-kind : goal.normal_part-returns-then-kind
normal_part-returns-then-kind t c =
    normal_body_kept c.args.s.now c.if-kind.true _ c.in_ok-end.ensures _ c.is_eta.ensures c.if-is_eta.false

pub normal_part-head_part-requires : goal.normal_part-head_part-requires
normal_part-head_part-requires t c =
    let n = slice_length c.args.s.now 4 in
    (omega (arith, n), (search (rules, head_slice), omega (arith, n)))

pub normal_part-returns-in_err-next : goal.normal_part-returns-in_err-next
normal_part-returns-in_err-next t c = rw c.from_residual-in_err-next.ensures
    (walked_head_no _ _ _ _ c.in_err-next.ensures c.if-kind-2.true normal_two)

pub normal_part-overflow_add-next : goal.normal_part-overflow_add-next
normal_part-overflow_add-next t c =
    let e = slice_end c.args.s.now 4 _ _ c.in_ok-next.ensures in
    omega (arith, e.more, e.within)

pub normal_part-slice_bounds-normal_part-count-then-kind-2 : goal.normal_part-slice_bounds-normal_part-count-then-kind-2
normal_part-slice_bounds-normal_part-count-then-kind-2 t c =
    let e = slice_end c.args.s.now 4 _ _ c.in_ok-next.ensures in
    omega (arith, e.more, e.within)

pub normal_part-slice_bounds-normal_part-start-then-kind-2 : goal.normal_part-slice_bounds-normal_part-start-then-kind-2
normal_part-slice_bounds-normal_part-start-then-kind-2 t c =
    let e = slice_end c.args.s.now 4 _ _ c.in_ok-next.ensures in
    omega (arith, e.more, e.within)

pub normal_part-normal_part-requires-then-kind-2 : goal.normal_part-normal_part-requires-then-kind-2
normal_part-normal_part-requires-then-kind-2 t c =
    let e = slice_end c.args.s.now 4 _ _ c.in_ok-next.ensures in
    let n = slice_length c.args.s.now (4 + c.in_ok-next.field-0) in
    let a = argument_slice c.args.s.now _ _ c.in_ok-next.ensures c.requires.0 c.if-kind-2.true in
    (omega (arith, n, e.more), (a, omega (arith, n)))

pub normal_part-returns-in_err-normal_part : goal.normal_part-returns-in_err-normal_part
normal_part-returns-in_err-normal_part t c =
    rw c.from_residual-in_err-normal_part.ensures
    (walked_argument_no _ _ _ c.in_ok-next.ensures _ _ c.if-kind-2.true normal_two c.in_err-normal_part.ensures)

pub normal_part-overflow_add-result : goal.normal_part-overflow_add-result
normal_part-overflow_add-result t c =
    let e = slice_end c.args.s.now _ _ _ c.in_ok-normal_part.ensures in
    omega (arith, e.more, e.within)

pub normal_part-returns-then-kind-2 : goal.normal_part-returns-then-kind-2
normal_part-returns-then-kind-2 t c =
    walked_parts _ _ _ c.in_ok-next.ensures _ _ _ c.if-kind-2.true normal_two c.in_ok-normal_part.ensures

pub normal_part-returns : goal.normal_part-returns
normal_part-returns t c =
    normal_none _ _ c.requires.0 c.if-kind-2.false c.if-kind.false
