-- `records::check_normal` meets its contract. What `check_table` found decides the first three rows, and `is_normal` the last. Assumes
-- nothing.
use native.Mathlib.Omega.{arith}
use Rattle.std.proofs.lemmas.Result.{err_from_is_err_and}
use Rattle.terms.specs.Term.{Normal}
use Rattle.records.proofs.Tests.{says}
use Rattle.records.proofs.Checks.{normal_faulty, tree_checked, most_checked, normal_right, normal_not}
use Rattle.records.proofs.check_normal.Goals as goal

pub returns-in_err-check_table : goal.returns-in_err-check_table
returns-in_err-check_table c =
    let p = err_from_is_err_and c.from_residual.result c.from_residual.ensures.1 in
    rw (p.1, p.2) (normal_faulty _ _ _ c.in_err-check_table.ensures)

pub is_normal-requires : goal.is_normal-requires
is_normal-requires c =
    let x = c.in_ok-check_table.ensures in
    (tree_checked _ _ _ x, omega (arith, most_checked _ _ _ x))

pub returns-then-not-is_normal : goal.returns-then-not-is_normal
returns-then-not-is_normal c =
    normal_not c.args.most c.args.table.now c.in_ok-check_table.ensures
    (λ t e. says (Normal t) _ _ (c.is_normal.ensures t e) c.if-not-is_normal.true)

pub returns : goal.returns
returns c =
    normal_right c.args.most c.args.table.now (λ i. omega (arith, c.type_inv.table i)) c.in_ok-check_table.ensures
    (λ t e. says (Normal t) _ _ (c.is_normal.ensures t e) c.if-not-is_normal.false)
