-- `ordering::repeated::force` meets its contract. The value that comes to both targets is the only one, so that one goal for it has the
-- assignments of the two, whose room it takes. Assumes nothing.
use native.Mathlib.Omega.{arith}
use Rattle.ordering.proofs.Forcing.{found_twice, forced_open, first_room, second_room, first_target, second_target}
use Rattle.ordering.proofs.Forcing.{forced_joins, forced_failed, forced_target_within, forced_encloses, forced_drops}
use Rattle.ordering.proofs.Forcing.{forced_target, forced_drops_two, forced_room, forced_whole, forced_fits, forced_next}
use borrow.Author.Rules.{rules}
use Rattle.ordering.proofs.repeated.force.Goals as goal

pub returns-in_default : goal.returns-in_default
returns-in_default c = search (rules, forced_open)

pub goal_at-first-requires : goal.goal_at-first-requires
goal_at-first-requires c = search (rules, first_room, found_twice)

pub goal_at-second-requires : goal.goal_at-second-requires
goal_at-second-requires c = search (rules, second_room, found_twice)

pub slice_bounds-join_into-count : goal.slice_bounds-join_into-count
slice_bounds-join_into-count c =
    first_target c.requires.0 (found_twice _ _ _ _ _ c.in-Some.is c.find_first-search.ensures)
    c.goal_at-first.ensures.is

pub slice_bounds-join_into-start : goal.slice_bounds-join_into-start
slice_bounds-join_into-start c =
    first_target c.requires.0 (found_twice _ _ _ _ _ c.in-Some.is c.find_first-search.ensures)
    c.goal_at-first.ensures.is

pub slice_bounds-join_into-count-2 : goal.slice_bounds-join_into-count-2
slice_bounds-join_into-count-2 c =
    second_target c.requires.0 (found_twice _ _ _ _ _ c.in-Some.is c.find_first-search.ensures)
    c.goal_at-second.ensures.is

pub slice_bounds-join_into-start-2 : goal.slice_bounds-join_into-start-2
slice_bounds-join_into-start-2 c =
    second_target c.requires.0 (found_twice _ _ _ _ _ c.in-Some.is c.find_first-search.ensures)
    c.goal_at-second.ensures.is

pub join_into-walk-requires : goal.join_into-walk-requires
join_into-walk-requires c = search (rules, forced_joins, found_twice)

pub returns-in_default-walk : goal.returns-in_default-walk
returns-in_default-walk c =
    search (rules, forced_failed, found_twice)

pub slice_bounds-enclose_into-end : goal.slice_bounds-enclose_into-end
slice_bounds-enclose_into-end c =
    omega (
      arith,
      forced_target_within c.requires.0 (found_twice _ _ _ _ _ c.in-Some.is c.find_first-search.ensures)
          c.goal_at-first.ensures.is c.goal_at-second.ensures.is c.join_into-walk.ensures c.in-Some-walk.is,
    )

pub enclose_into-top-requires : goal.enclose_into-top-requires
enclose_into-top-requires c =
    forced_encloses c.requires.0 (found_twice _ _ _ _ _ c.in-Some.is c.find_first-search.ensures)
    c.goal_at-first.ensures.is c.goal_at-second.ensures.is c.join_into-walk.ensures c.in-Some-walk.is (omega arith)

pub keep_heights-requires : goal.keep_heights-requires
keep_heights-requires c =
    forced_target c.requires.0 (found_twice _ _ _ _ _ c.in-Some.is c.find_first-search.ensures)
    c.goal_at-first.ensures.is c.goal_at-second.ensures.is c.join_into-walk.ensures c.in-Some-walk.is (omega arith)
    c.enclose_into-top.ensures

pub without-one-requires : goal.without-one-requires
without-one-requires c =
    search (rules, forced_drops, found_twice)

pub without-both-requires : goal.without-both-requires
without-both-requires c =
    forced_drops_two c.requires.0 (found_twice _ _ _ _ _ c.in-Some.is c.find_first-search.ensures)
    c.goal_at-first.ensures.is c.goal_at-second.ensures.is c.join_into-walk.ensures c.in-Some-walk.is (omega arith)
    c.enclose_into-top.ensures c.keep_heights.ensures c.without-one.ensures

pub put_goal-requires : goal.put_goal-requires
put_goal-requires c = (
  omega (
    arith,
    forced_room c.requires.0 (found_twice _ _ _ _ _ c.in-Some.is c.find_first-search.ensures)
        c.goal_at-first.ensures.is c.goal_at-second.ensures.is c.join_into-walk.ensures
        c.in-Some-walk.is (omega arith)
        c.enclose_into-top.ensures c.keep_heights.ensures
        c.without-one.ensures c.without-both.ensures,
    forced_whole c.requires.0
        (found_twice _ _ _ _ _ c.in-Some.is c.find_first-search.ensures) c.goal_at-first.ensures.is
        c.goal_at-second.ensures.is c.join_into-walk.ensures c.in-Some-walk.is (omega arith)
        c.enclose_into-top.ensures c.keep_heights.ensures
        c.without-one.ensures c.without-both.ensures,
  ),
  forced_fits c.requires.0 (found_twice _ _ _ _ _ c.in-Some.is c.find_first-search.ensures)
      c.goal_at-first.ensures.is c.goal_at-second.ensures.is c.join_into-walk.ensures
      c.in-Some-walk.is (omega arith)
      c.enclose_into-top.ensures c.keep_heights.ensures
      c.without-one.ensures c.without-both.ensures c.requires.1
      c.match_goal-goal.ensures,
)

pub overflow_add-result : goal.overflow_add-result
overflow_add-result c =
    omega (
      arith,
      forced_room c.requires.0 (found_twice _ _ _ _ _ c.in-Some.is c.find_first-search.ensures)
          c.goal_at-first.ensures.is c.goal_at-second.ensures.is c.join_into-walk.ensures
          c.in-Some-walk.is (omega arith)
          c.enclose_into-top.ensures c.keep_heights.ensures
          c.without-one.ensures c.without-both.ensures,
    )

pub returns : goal.returns
returns c =
    forced_next c.requires.0 (found_twice _ _ _ _ _ c.in-Some.is c.find_first-search.ensures)
    c.goal_at-first.ensures.is c.goal_at-second.ensures.is c.join_into-walk.ensures c.in-Some-walk.is (omega arith)
    c.enclose_into-top.ensures c.keep_heights.ensures
    c.without-one.ensures c.without-both.ensures c.requires.1
    c.match_goal-goal.ensures c.put_goal.ensures
