-- `substitution::shift_into` meets its contract. Each record is written as its term's shifted one, and a part's bytes follow its record's;
-- the measure is the slice's length. Assumes nothing.
use mathlib.Core.Path.{◌∙◌}
use native.Mathlib.Omega.{arith}
use Rattle.records.proofs.Slices.{slice_length}
use Rattle.substitution.proofs.Writers.{shifts, source_head, source_body, source_argument, wrote_parts, wrote_body}
use borrow.Author.Rules.{rules}
use Prim.Native.Nat.{◌+◌}
use Rattle.substitution.proofs.+shift_into.Goals as goal

pub shift_into-head-requires : goal.shift_into-head-requires
shift_into-head-requires t c =
    let n = slice_length c.args.s.now 4 in
    (omega arith, search (rules, source_head, shifts))

pub shift_into-argument-requires : goal.shift_into-argument-requires
shift_into-argument-requires t c =
    let w = c.shift_into-head.ensures in
    let n = slice_length c.args.s.now (4 + c.shift_into-head.result.length) in (
      omega (arith, w.ends.more, w.ends.within),
      source_argument _ (shifts _) _ _ _ _ c.requires _
          (c.shift_into-head.auto.out ∙ c.put_record.auto.out) _ _ _ _ c.if-kind.true w,
    )

pub returns-then-kind : goal.returns-then-kind
returns-then-kind t c = search (rules, wrote_parts, shifts)

pub shift_into-body-requires : goal.shift_into-body-requires
shift_into-body-requires t c =
    let n = slice_length c.args.s.now 4 in
    (omega arith, search (rules, source_body, shifts))

pub returns-then-kind-2 : goal.returns-then-kind-2
returns-then-kind-2 t c = search (rules, wrote_body, shifts)
