-- `agenda::heads::heads_agree` meets its contract. Each record is read once, and of two applications the heads are compared; the
-- measure is the length of the part's slice. Assumes nothing.
use Rattle.records.proofs.Slices.{head_slice}
use Rattle.shifting.proofs.Slices.{shorter}
use Rattle.agenda.proofs.Agreement.{agree, agree_other, target_head, agree_application, agree_constant}
use borrow.Author.Rules.{rules}
use Rattle.agenda.proofs.heads.+heads_agree.Goals as goal

pub returns-then-kind-target : goal.returns-then-kind-target
returns-then-kind-target t c = agree_other _ _ c.if-kind-target.true

pub heads_agree-requires : goal.heads_agree-requires
heads_agree-requires t c = (search (rules, shorter), search (rules, head_slice, target_head))

pub returns-then-kind : goal.returns-then-kind
returns-then-kind t c = search (rules, agree_application)

pub returns-then-kind-2 : goal.returns-then-kind-2
returns-then-kind-2 t c = search (rules, agree_constant)

pub returns : goal.returns
returns t c = agree _ _
