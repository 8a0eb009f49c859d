-- `substitution::substitute_into` meets its contract. Each record is written as its term's substituted one, and a part's bytes follow its
-- record's; the measure is the slice's length. Assumes nothing.
use mathlib.Core.Path.{◌∙◌}
use native.Mathlib.Omega.{arith}
use Rattle.records.proofs.Slices.{slice_length}
use Rattle.substitution.proofs.Writers.{replaces, substitution_head, substitution_body, substitution_argument, wrote_parts}
use Rattle.substitution.proofs.Writers.{wrote_body}
use borrow.Author.Rules.{rules}
use Prim.Native.Nat.{◌+◌}
use Rattle.substitution.proofs.+substitute_into.Goals as goal

pub substitute_into-head-requires : goal.substitute_into-head-requires
substitute_into-head-requires t c =
    let n = slice_length c.args.b.now 4 in
    search (rules, substitution_head)

pub substitute_into-argument-requires : goal.substitute_into-argument-requires
substitute_into-argument-requires t c =
    let x = c.requires in
    let w = c.substitute_into-head.ensures in
    let e = (w x.argument x.table).ends in
    let n = slice_length c.args.b.now (4 + c.substitute_into-head.result.length) in (
      omega (arith, e.more, e.within),
      substitution_argument _ _ _ _ _ x _ (c.substitute_into-head.auto.out ∙ c.put_record.auto.out)
          _ _ _ _ c.if-kind.true w,
    )

pub returns-then-kind : goal.returns-then-kind
returns-then-kind t c =
    λ x q. wrote_parts _ (replaces x) _ _ _ _ _ _ _ _ _ _ _ c.if-kind.true c.put_record.ensures
    (c.substitute_into-head.ensures x q) (c.substitute_into-argument.ensures x q)

pub substitute_into-body-requires : goal.substitute_into-body-requires
substitute_into-body-requires t c =
    let n = slice_length c.args.b.now 4 in
    search (rules, substitution_body)

pub returns-then-kind-2 : goal.returns-then-kind-2
returns-then-kind-2 t c =
    λ x q. wrote_body _ (replaces x) _ _ _ _ _ _ _ _ c.if-kind-2.true c.put_record-then-kind-2.ensures
    (c.substitute_into-body.ensures x q)
