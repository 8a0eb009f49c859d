-- `normalizing::normalize` meets its contract: what the sweeps behind the first come to is what all of them come to. The measure is the
-- number of sweeps that are left. Assumes nothing.
use native.Mathlib.Omega.{arith}
use Rattle.std.proofs.lemmas.Result.{err_from_is_err_and}
use Rattle.normalizing.proofs.Sweeps.{normalizable_table, normalized_now, normalized_none, normalized_long, normalizable_again}
use Rattle.normalizing.proofs.Sweeps.{or_fault, normalized_later}
use borrow.Author.Rules.{rules}
use Rattle.normalizing.proofs.+normalize.Goals as goal

pub is_normal-requires : goal.is_normal-requires
is_normal-requires t c = search (rules, normalizable_table)

pub returns-then-is_normal : goal.returns-then-is_normal
returns-then-is_normal t c = search (rules, normalized_now)

pub returns-then-most-eq0 : goal.returns-then-most-eq0
returns-then-most-eq0 t c = search (rules, normalized_none)

pub returns-in_err-m : goal.returns-in_err-m
returns-in_err-m t c =
    let p = err_from_is_err_and c.from_residual.result c.from_residual.ensures.1 in
    let o = or_fault _ _ _ c.in_err-m.ensures.value in
    λ u y. rw (p.1, p.2, o.1)
    (normalized_long _ _ _ c.is_normal.ensures u y c.if-is_normal.false _ _ _ c.sweep_again.ensures (omega arith) o.0)

pub normalize-requires : goal.normalize-requires
normalize-requires t c = search (rules, normalizable_again, c.in_ok-m.ensures.ok_part)

pub returns : goal.returns
returns t c =
    normalized_later _ _ _ c.is_normal.ensures c.if-is_normal.false _ _ c.sweep_again.ensures _ c.in_ok-m.ensures.ok_part _ _ (omega arith)
    _ _ c.normalize.ensures
