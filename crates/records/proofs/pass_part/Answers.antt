-- `records::pass_part` meets its contract. Assumes nothing.
use Rattle.std.proofs.Common.{get_or, length, ap, ◌∙◌, length-drop, arith, rules}
use Rattle.records.proofs.Record.{read_parts_lem}
use Rattle.records.proofs.Passing.{passing_chunk, reached}
use Rattle.records.proofs.pass_part.Goals as goal

pub loop-record-preserved : goal.loop-record-preserved
loop-record-preserved c =
    let step = c.in-Some.ensures.steps.1 in
    let i = c.loop-record.invariant in
    record {
      size = c.in-Some.ensures.steps.0 ∙ i.size;
      passing = passing_chunk _ _ _ _ _ _ _ i.passing step.0 (step.1 ∙ i.size) _ c.if-missing-eq0.false (λ k. omega (arith, c.type_inv.s k))
          (c.parts_behind.ensures.0 ∙ read_parts_lem (get_or c.in-Some.record.now 0 0))
          c.parts_behind.ensures.1;
    }

pub returns-in-None : goal.returns-in-None
returns-in-None c =
    let i = c.loop-record.invariant in
    let few = c.in-None.ensures.steps.1.0 in
    reached _ _ _ _ c.requires i.passing.0
    (λ h. omega (arith, i.size, few, ap length i.passing.1, length-drop c.loop-record.at c.args.s.now))

pub returns-then-missing-eq0 : goal.returns-then-missing-eq0
returns-then-missing-eq0 c = search (rules, reached)
