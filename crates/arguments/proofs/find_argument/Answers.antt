-- `arguments::find_argument` meets its contract. The part that is placed is an argument unless it has another head, doesn't fit
-- the argument's skeleton, stands earlier or leaves a local of the target out; two goals are written for it. Assumes nothing.
use mathlib.Core.Path.{◌∙◌}
use borrow.Author.Tests.{not-true}
use native.Mathlib.Omega.{arith}
use Rattle.arguments.proofs.Applications.{argument_whole_slice, argument_ends}
use Rattle.arguments.proofs.Arguments.{places, depth, few_records, target_part_within, part_whole_slice, unlike, no_argument}
use Rattle.arguments.proofs.Arguments.{looks, pushed_target_within, found_within, found_comparable}
use Rattle.arguments.proofs.Arguments.{comparable, unfitting, again, lacking, argument_room, argument_found}
use borrow.Author.Rules.{rules}
use Rattle.arguments.proofs.find_argument.Goals as goal

pub overflow_mul-j : goal.overflow_mul-j
overflow_mul-j c =
    omega (arith, target_part_within _ _ _ _ c.requires.0 _ c.goal_at-goal.ensures.is _ _ c.requires.1 c.requires.2)

pub overflow_add-target : goal.overflow_add-target
overflow_add-target c =
    omega (arith, target_part_within _ _ _ _ c.requires.0 _ c.goal_at-goal.ensures.is _ _ c.requires.1 c.requires.2)

pub slice_bounds-heads_agree-count-then-ways : goal.slice_bounds-heads_agree-count-then-ways
slice_bounds-heads_agree-count-then-ways c = search (rules, target_part_within)

pub slice_bounds-heads_agree-start-then-ways : goal.slice_bounds-heads_agree-start-then-ways
slice_bounds-heads_agree-start-then-ways c = search (rules, target_part_within)

pub heads_agree-requires : goal.heads_agree-requires
heads_agree-requires c = search (rules, argument_whole_slice, argument_ends, part_whole_slice)

pub returns-then-not-heads_agree : goal.returns-then-not-heads_agree
returns-then-not-heads_agree c = search (rules, unlike, not-true)

pub bounds-depths-j : goal.bounds-depths-j
bounds-depths-j c = search (rules, few_records)

pub place_argument-requires : goal.place_argument-requires
place_argument-requires c = (
  search (rules, places),
  λ t p k. c.wide-depth.ensures.0 ∙ depth _ _ _ _ c.requires.0 _ c.goal_at-goal.ensures.is _ _ c.requires.1
      c.requires.2 t p k,
)

pub returns-in_err-end : goal.returns-in_err-end
returns-in_err-end c = rw c.from_residual.ensures (search (rules, no_argument, c.in_err-end.was))

pub slice_bounds-may_be-count-2 : goal.slice_bounds-may_be-count-2
slice_bounds-may_be-count-2 c = search (rules, found_within, c.in_ok-end.was)

pub slice_bounds-may_be-start-2 : goal.slice_bounds-may_be-start-2
slice_bounds-may_be-start-2 c = search (rules, found_within, c.in_ok-end.was)

pub may_be-requires : goal.may_be-requires
may_be-requires c = search (rules, found_comparable, c.in_ok-end.was)

pub returns-then-not-may_be : goal.returns-then-not-may_be
returns-then-not-may_be c =
    unfitting _ _ _ _ c.requires.0 _ c.goal_at-goal.ensures.is _ _ _ _ c.place_argument.ensures
    c.in_ok-end.was _ c.requires.1 _ c.may_be.ensures c.if-not-may_be.true

pub slice_bounds-occurs_before-count : goal.slice_bounds-occurs_before-count
slice_bounds-occurs_before-count c = search (rules, pushed_target_within, c.in_ok-end.was)

pub slice_bounds-occurs_before-start : goal.slice_bounds-occurs_before-start
slice_bounds-occurs_before-start c = search (rules, pushed_target_within, c.in_ok-end.was)

pub slice_bounds-occurs_before-count-2 : goal.slice_bounds-occurs_before-count-2
slice_bounds-occurs_before-count-2 c = search (rules, found_within, c.in_ok-end.was)

pub slice_bounds-occurs_before-start-2 : goal.slice_bounds-occurs_before-start-2
slice_bounds-occurs_before-start-2 c = search (rules, found_within, c.in_ok-end.was)

pub occurs_before-requires : goal.occurs_before-requires
occurs_before-requires c = search (rules, looks, c.in_ok-end.was)

pub returns-then-occurs_before : goal.returns-then-occurs_before
returns-then-occurs_before c =
    again _ _ _ _ c.requires.0 _ c.goal_at-goal.ensures.is _ _ _ _ c.place_argument.ensures
    c.in_ok-end.was _ c.occurs_before.ensures c.if-occurs_before.true

pub slice_bounds-misses_local-count-then-ways-2 : goal.slice_bounds-misses_local-count-then-ways-2
slice_bounds-misses_local-count-then-ways-2 c =
    search (rules, pushed_target_within, c.in_ok-end.was)

pub slice_bounds-misses_local-start-then-ways-2 : goal.slice_bounds-misses_local-start-then-ways-2
slice_bounds-misses_local-start-then-ways-2 c =
    search (rules, pushed_target_within, c.in_ok-end.was)

pub slice_bounds-misses_local-count-then-ways-2-2 : goal.slice_bounds-misses_local-count-then-ways-2-2
slice_bounds-misses_local-count-then-ways-2-2 c =
    search (rules, found_within, c.in_ok-end.was)

pub slice_bounds-misses_local-start-then-ways-2-2 : goal.slice_bounds-misses_local-start-then-ways-2-2
slice_bounds-misses_local-start-then-ways-2-2 c =
    search (rules, found_within, c.in_ok-end.was)

pub misses_local-requires : goal.misses_local-requires
misses_local-requires c =
    search (rules, comparable, c.in_ok-end.was)

pub returns-then-misses_local : goal.returns-then-misses_local
returns-then-misses_local c =
    lacking _ _ _ _ c.requires.0 _ c.goal_at-goal.ensures.is _ _ _ _ c.place_argument.ensures
    c.in_ok-end.was _ c.misses_local.ensures c.if-misses_local.true

pub push_argument-requires : goal.push_argument-requires
push_argument-requires c =
    argument_room _ _ _ _ c.requires.0 _ c.goal_at-goal.ensures.is _ _ _ _ c.place_argument.ensures
    c.in_ok-end.was c.goal_at-goal.ensures.fits _
    (argument_ends _ _ _ _ c.requires.0 _ c.goal_at-goal.ensures.is _ c.requires.1)

pub returns : goal.returns
returns c =
    argument_found _ _ _ _ c.requires.0 _ c.goal_at-goal.ensures.is _ _ _ _
    c.place_argument.ensures c.in_ok-end.was _ _ _ _
    (argument_ends _ _ _ _ c.requires.0 _ c.goal_at-goal.ensures.is _ c.requires.1) c.occurs_before.ensures
    c.if-occurs_before.false c.push_argument.ensures
