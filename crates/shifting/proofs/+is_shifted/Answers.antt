-- `shifting::is_shifted` meets its contract. Each branch is one law of two parts compared, by the kind that both first records have; the
-- measure is the length of the first slice. Assumes nothing.
use native.Mathlib.Omega.{arith}
use Rattle.std.specs.declared.option.Option.TheVariants.{Some, None}
use Rattle.shifting.proofs.Slices.{shorter, shorter_behind}
use Rattle.shifting.proofs.Tests.{compared_within, compared_kinds, compared_app, compared_stop, compared_lam}
use Rattle.shifting.proofs.Tests.{compared_local_says, compared_other_says, compares_head}
use Rattle.shifting.proofs.Tests.{compares_argument, compares_body, compared_passed}
use borrow.Author.Rules.{rules}
use Rattle.shifting.proofs.+is_shifted.Goals as goal

pub returns-then-k-e : goal.returns-then-k-e
returns-then-k-e t c = compared_kinds _ _ _ _ c.if-k-e.true

pub is_shifted-requires : goal.is_shifted-requires
is_shifted-requires t c = (search (rules, shorter), search (rules, compares_head))

pub returns-in_err-next : goal.returns-in_err-next
returns-in_err-next t c = rw c.from_residual.ensures (compared_stop _ _ _ _ c.if-k-e.false c.if-k.true c.in_err-next.ensures)

pub overflow_add-next : goal.overflow_add-next
overflow_add-next t c =
    omega (arith, (compared_passed _ _ _ _ c.if-k-e.false c.if-k.true _ c.in_ok-next.ensures c.requires).0)

pub slice_bounds-is_shifted-count-then-k-2 : goal.slice_bounds-is_shifted-count-then-k-2
slice_bounds-is_shifted-count-then-k-2 t c =
    (compared_passed _ _ _ _ c.if-k-e.false c.if-k.true _ c.in_ok-next.ensures c.requires).0

pub slice_bounds-is_shifted-start-then-k-2 : goal.slice_bounds-is_shifted-start-then-k-2
slice_bounds-is_shifted-start-then-k-2 t c =
    (compared_passed _ _ _ _ c.if-k-e.false c.if-k.true _ c.in_ok-next.ensures c.requires).0

pub slice_bounds-is_shifted-count-then-k-3 : goal.slice_bounds-is_shifted-count-then-k-3
slice_bounds-is_shifted-count-then-k-3 t c =
    (compared_passed _ _ _ _ c.if-k-e.false c.if-k.true _ c.in_ok-next.ensures c.requires).1

pub slice_bounds-is_shifted-start-then-k-3 : goal.slice_bounds-is_shifted-start-then-k-3
slice_bounds-is_shifted-start-then-k-3 t c =
    (compared_passed _ _ _ _ c.if-k-e.false c.if-k.true _ c.in_ok-next.ensures c.requires).1

pub is_shifted-requires-then-k : goal.is_shifted-requires-then-k
is_shifted-requires-then-k t c = (
  search (rules, shorter_behind),
  compares_argument _ _ _ _ c.if-k-e.false c.if-k.true _ c.in_ok-next.ensures c.requires,
)

pub returns-in_err-is_shifted : goal.returns-in_err-is_shifted
returns-in_err-is_shifted t c =
    rw c.from_residual-in_err-is_shifted.ensures
    (compared_app _ _ _ _ c.if-k-e.false c.if-k.true _ c.in_ok-next.ensures None c.in_err-is_shifted.ensures)

pub overflow_add-result : goal.overflow_add-result
overflow_add-result t c = omega (arith, compared_within c.args.s.now _ _ _ _ c.in_ok-is_shifted.ensures, c.requires.shallow)

pub returns-then-k : goal.returns-then-k
returns-then-k t c =
    compared_app _ _ _ _ c.if-k-e.false c.if-k.true _ c.in_ok-next.ensures (Some c.in_ok-is_shifted.field-0) c.in_ok-is_shifted.ensures

pub is_shifted-requires-then-k-2 : goal.is_shifted-requires-then-k-2
is_shifted-requires-then-k-2 t c = (search (rules, shorter), search (rules, compares_body))

pub returns-in_err-is_shifted-2 : goal.returns-in_err-is_shifted-2
returns-in_err-is_shifted-2 t c =
    rw c.from_residual-in_err-is_shifted-2.ensures (compared_lam _ _ _ _ c.if-k-e.false c.if-k-2.true None c.in_err-is_shifted-2.ensures)

pub overflow_add-result-then-k-2 : goal.overflow_add-result-then-k-2
overflow_add-result-then-k-2 t c = omega (arith, compared_within c.args.s.now _ _ _ _ c.in_ok-is_shifted-2.ensures, c.requires.shallow)

pub returns-then-k-2 : goal.returns-then-k-2
returns-then-k-2 t c =
    compared_lam _ _ _ _ c.if-k-e.false c.if-k-2.true (Some c.in_ok-is_shifted-2.field-0) c.in_ok-is_shifted-2.ensures

pub returns-then-k-3 : goal.returns-then-k-3
returns-then-k-3 t c =
    rw c.then_some.ensures
    (compared_local_says _ _ _ _ c.if-k-e.false _ _ c.number_at-m.ensures.0 c.number_at-n.ensures.0 c.requires.first c.if-k-3.true _
    c.is_shifted_local.ensures)

pub returns : goal.returns
returns t c =
    rw c.then_some-2.ensures
    (compared_other_says _ _ _ _ c.if-k-e.false _ _ c.number_at-m.ensures.0 c.number_at-n.ensures.0
    (record { no_application = c.if-k.false; no_abstraction = c.if-k-2.false; no_local = c.if-k-3.false }) c.requires.first)
