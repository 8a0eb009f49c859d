-- `abstractions::body_into` meets its contract. A copy is written by its choice, and the bytes of the parts of any other part follow its
-- record's; the measure is the length of the slice. Assumes nothing.
use mathlib.Core.Path.{◌∙◌}
use Rattle.shifting.proofs.Slices.{shorter, shorter_behind}
use Rattle.abstractions.proofs.Bodies.{no_copy, body_copy, body_application, body_abstraction, body_other}
use Rattle.abstractions.proofs.Bodies.{choosing_whole, choosing_head}
use Rattle.abstractions.proofs.Bodies.{choosing_argument, choosing_body}
use borrow.Author.Rules.{rules}
use Rattle.abstractions.proofs.+body_into.Goals as goal

pub returns-in-Some : goal.returns-in-Some
returns-in-Some t c = search (rules, body_copy, choosing_whole, c.in-Some.ensures)

pub body_into-head-requires : goal.body_into-head-requires
body_into-head-requires t c = (search (rules, shorter), search (rules, choosing_head))

pub body_into-argument-requires : goal.body_into-argument-requires
body_into-argument-requires t c = (
  search (rules, shorter_behind),
  choosing_argument _ _ _ _ _ _ _ c.requires _
      (c.body_into-head.auto.out ∙ c.put_record.auto.out) _ _ _ _ _ _ c.if-kind.true
      c.body_into-head.ensures,
)

pub returns-then-kind : goal.returns-then-kind
returns-then-kind t c =
    body_application _ _ _ _ _ _ _ (no_copy _ _ _ c.in_default.ensures) _ _ _ _ _ _ _ _ _
    c.if-kind.true c.put_record.ensures c.body_into-head.ensures c.body_into-argument.ensures _ _ _
    c.built_further.ensures.0 c.built_further.ensures.1 c.built_further.ensures.2

pub body_into-body-requires : goal.body_into-body-requires
body_into-body-requires t c = (search (rules, shorter), search (rules, choosing_body))

pub returns-then-kind-2 : goal.returns-then-kind-2
returns-then-kind-2 t c = search (rules, body_abstraction, no_copy, c.in_default.ensures)

pub returns : goal.returns
returns t c = search (rules, body_other, no_copy, c.in_default.ensures, choosing_whole)
