-- `records::ask_part` meets its contract. Each branch is one law of walks, with what is asked of a local split by the term's kind; the
-- measure is the length of the slice that is handed on. Assumes nothing.
use mathlib.Core.Path.{ap, ◌∙◌}
use Prim.Native.Nat.{◌+◌}
use native.Mathlib.Omega.{arith}
use Rattle.records.specs.Tests.{asked}
use Rattle.records.proofs.Tests.{walked_leaf, part_other, walked_asked, asks_two, asks_under, asks_con, asks_var}
use Rattle.records.proofs.Slices.{slice_length, head_slice, argument_slice, body_slice, slice_end}
use Rattle.records.proofs.Slices.{walked_parts, walked_argument_no, walked_head_no, walked_body, walked_body_no}
use borrow.Author.Rules.{rules}
use Rattle.records.proofs.+ask_part.Goals as goal

pub ask_part-requires : goal.ask_part-requires
ask_part-requires t c =
    let n = slice_length c.args.s.now 4 in
    (omega (arith, n), (search (rules, head_slice), omega (arith, n)))

pub returns-in_err-next : goal.returns-in_err-next
returns-in_err-next t c = rw c.from_residual.ensures (search (rules, walked_head_no, asks_two))

pub overflow_add-next : goal.overflow_add-next
overflow_add-next t c =
    let e = slice_end c.args.s.now 4 _ _ c.in_ok-next.ensures in
    omega (arith, e.more, e.within)

pub slice_bounds-ask_part-count-then-kind : goal.slice_bounds-ask_part-count-then-kind
slice_bounds-ask_part-count-then-kind t c =
    let e = slice_end c.args.s.now 4 _ _ c.in_ok-next.ensures in
    omega (arith, e.more, e.within)

pub slice_bounds-ask_part-start-then-kind : goal.slice_bounds-ask_part-start-then-kind
slice_bounds-ask_part-start-then-kind t c =
    let e = slice_end c.args.s.now 4 _ _ c.in_ok-next.ensures in
    omega (arith, e.more, e.within)

pub ask_part-requires-then-kind : goal.ask_part-requires-then-kind
ask_part-requires-then-kind t c =
    let e = slice_end c.args.s.now 4 _ _ c.in_ok-next.ensures in
    let n = slice_length c.args.s.now (4 + c.in_ok-next.field-0) in
    let a = argument_slice c.args.s.now _ _ c.in_ok-next.ensures c.requires.0 c.if-kind.true in
    (omega (arith, n, e.more), (a, omega (arith, n)))

pub returns-in_err-ask_part : goal.returns-in_err-ask_part
returns-in_err-ask_part t c = rw c.from_residual-in_err-ask_part.ensures (search (rules, walked_argument_no, asks_two))

pub overflow_add-result : goal.overflow_add-result
overflow_add-result t c =
    let e = slice_end c.args.s.now _ _ _ c.in_ok-ask_part.ensures in
    omega (arith, e.more, e.within)

pub returns-then-kind : goal.returns-then-kind
returns-then-kind t c = search (rules, walked_parts, asks_two)

pub ask_part-requires-then-kind-2 : goal.ask_part-requires-then-kind-2
ask_part-requires-then-kind-2 t c =
    let n = slice_length c.args.s.now 4 in
    (omega (arith, n), (search (rules, body_slice), omega (arith, n)))

pub returns-in_err-ask_part-2 : goal.returns-in_err-ask_part-2
returns-in_err-ask_part-2 t c = rw c.from_residual-in_err-ask_part-2.ensures
    (walked_body_no _ _ _ c.if-kind-2.true (asks_under c.args.ask c.args.n) c.in_err-ask_part-2.ensures)

pub overflow_add-result-then-kind-2 : goal.overflow_add-result-then-kind-2
overflow_add-result-then-kind-2 t c =
    let e = slice_end c.args.s.now 4 _ _ c.in_ok-ask_part-2.ensures in
    omega (arith, e.more, e.within)

pub returns-then-kind-2 : goal.returns-then-kind-2
returns-then-kind-2 t c = walked_body _ _ _ _ c.if-kind-2.true (asks_under c.args.ask c.args.n) c.in_ok-ask_part-2.ensures

pub returns-then-kind-3 : goal.returns-then-kind-3
returns-then-kind-3 t c =
    rw c.then_some.ensures
    (walked_asked _ _ _ _ c.requires.0 c.if-kind-3.true
    (c.holds.ensures ∙ ap (λ i. asked c.args.ask i c.args.n) c.number_at.ensures.0))

pub returns : goal.returns
returns t c =
    walked_leaf _ _ _ c.requires.0 c.if-kind.false c.if-kind-2.false
    (part_other _ _ _ c.if-kind.false c.if-kind-2.false c.if-kind-3.false (asks_con c.args.ask c.args.n)
    (asks_var c.args.ask c.args.n))
