-- `substitution::count_uses` meets its contract. The uses of an application are those of its head and of its argument; the measure is the
-- slice's length. Assumes nothing.
use native.Mathlib.Omega.{arith}
use Rattle.records.proofs.Parts.{whole_head, whole_body, whole_argument}
use Rattle.records.proofs.Slices.{whole_slice, slice_ends, slice_length}
use Rattle.substitution.proofs.Counts.{used_application, used_abstraction, used_once, used_never, used_other}
use borrow.Author.Rules.{rules}
use Prim.Native.Nat.{◌+◌}
use Rattle.substitution.proofs.+count_uses.Goals as goal

pub count_uses-head-requires : goal.count_uses-head-requires
count_uses-head-requires t c =
    let n = slice_length c.args.b.now 4 in
    (omega arith, (whole_slice _ 4 (whole_head _ 0 c.requires.0 c.if-kind.true), omega arith))

pub count_uses-argument-requires : goal.count_uses-argument-requires
count_uses-argument-requires t c =
    let e = slice_ends c.args.b.now 4 _ c.count_uses-head.ensures.ends in
    let n = slice_length c.args.b.now (4 + c.count_uses-head.result.length) in
    (omega arith, (whole_slice _ _ (whole_argument _ 0 _ c.requires.0 c.if-kind.true e), omega arith))

pub returns-then-kind : goal.returns-then-kind
returns-then-kind t c = search (rules, used_application)

pub count_uses-body-requires : goal.count_uses-body-requires
count_uses-body-requires t c =
    let n = slice_length c.args.b.now 4 in
    (omega arith, (whole_slice _ 4 (whole_body _ 0 c.requires.0 c.if-kind-2.true), omega arith))

pub returns-then-kind-2 : goal.returns-then-kind-2
returns-then-kind-2 t c = search (rules, used_abstraction)

pub returns-then-number_at-k : goal.returns-then-number_at-k
returns-then-number_at-k t c = search (rules, used_once)

pub returns-then-kind-3 : goal.returns-then-kind-3
returns-then-kind-3 t c = search (rules, used_never)

pub returns : goal.returns
returns t c = search (rules, used_other)
