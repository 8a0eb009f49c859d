-- `skeletons::exact_part` meets its contract. Each branch is one law of walks, with holes split by the term's kind; the measure is the
-- length of the slice that is handed on. Assumes nothing.
use Prim.Native.Nat.{◌+◌}
use native.Mathlib.Omega.{arith}
use Rattle.records.proofs.Tests.{walked_leaf, walked_no}
use Rattle.records.proofs.Slices.{slice_length, head_slice, argument_slice, body_slice, slice_end}
use Rattle.records.proofs.Slices.{walked_parts, walked_argument_no, walked_head_no, walked_body, walked_body_no}
use Rattle.skeletons.proofs.Tests.{exact_two, exact_under, hole_inexact, leaf_exact}
use borrow.Author.Rules.{rules}
use Rattle.skeletons.proofs.+exact_part.Goals as goal

pub exact_part-requires : goal.exact_part-requires
exact_part-requires t c =
    let n = slice_length c.args.s.now 4 in
    (omega (arith, n), (search (rules, head_slice), omega (arith, n)))

pub returns-in_err-next : goal.returns-in_err-next
returns-in_err-next t c = rw c.from_residual.ensures (search (rules, walked_head_no, exact_two))

pub overflow_add-next : goal.overflow_add-next
overflow_add-next t c =
    let e = slice_end c.args.s.now 4 _ _ c.in_ok-next.ensures in
    omega (arith, e.more, e.within)

pub slice_bounds-exact_part-count-then-kind : goal.slice_bounds-exact_part-count-then-kind
slice_bounds-exact_part-count-then-kind t c =
    let e = slice_end c.args.s.now 4 _ _ c.in_ok-next.ensures in
    omega (arith, e.more, e.within)

pub slice_bounds-exact_part-start-then-kind : goal.slice_bounds-exact_part-start-then-kind
slice_bounds-exact_part-start-then-kind t c =
    let e = slice_end c.args.s.now 4 _ _ c.in_ok-next.ensures in
    omega (arith, e.more, e.within)

pub exact_part-requires-then-kind : goal.exact_part-requires-then-kind
exact_part-requires-then-kind t c =
    let e = slice_end c.args.s.now 4 _ _ c.in_ok-next.ensures in
    let n = slice_length c.args.s.now (4 + c.in_ok-next.field-0) in
    let a = argument_slice c.args.s.now _ _ c.in_ok-next.ensures c.requires.0 c.if-kind.true in
    (omega (arith, n, e.more), (a, omega (arith, n)))

pub returns-in_err-exact_part : goal.returns-in_err-exact_part
returns-in_err-exact_part t c = rw c.from_residual-in_err-exact_part.ensures (search (rules, walked_argument_no, exact_two))

pub overflow_add-result : goal.overflow_add-result
overflow_add-result t c =
    let e = slice_end c.args.s.now _ _ _ c.in_ok-exact_part.ensures in
    omega (arith, e.more, e.within)

pub returns-then-kind : goal.returns-then-kind
returns-then-kind t c = search (rules, walked_parts, exact_two)

pub exact_part-requires-then-kind-2 : goal.exact_part-requires-then-kind-2
exact_part-requires-then-kind-2 t c =
    let n = slice_length c.args.s.now 4 in
    (omega (arith, n), (search (rules, body_slice), omega (arith, n)))

pub returns-in_err-exact_part-2 : goal.returns-in_err-exact_part-2
returns-in_err-exact_part-2 t c = rw c.from_residual-in_err-exact_part-2.ensures
    (walked_body_no _ _ _ c.if-kind-2.true exact_under c.in_err-exact_part-2.ensures)

pub overflow_add-result-then-kind-2 : goal.overflow_add-result-then-kind-2
overflow_add-result-then-kind-2 t c =
    let e = slice_end c.args.s.now 4 _ _ c.in_ok-exact_part-2.ensures in
    omega (arith, e.more, e.within)

pub returns-then-kind-2 : goal.returns-then-kind-2
returns-then-kind-2 t c = walked_body _ _ _ _ c.if-kind-2.true exact_under c.in_ok-exact_part-2.ensures

pub returns-then-kind-3 : goal.returns-then-kind-3
returns-then-kind-3 t c = walked_no _ _ _ (hole_inexact _ _ c.if-kind-3.true)

pub returns : goal.returns
returns t c =
    walked_leaf _ _ _ c.requires.0 c.if-kind.false c.if-kind-2.false
    (leaf_exact _ _ c.if-kind.false c.if-kind-2.false c.if-kind-3.false)
