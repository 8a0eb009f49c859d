-- The functions of the search meet their contracts. Each returns what a law of moves, of ways or of choices makes of the searches that it
-- calls; the measure is the room above the agenda and the place of its first easy goal, with a rank for the functions that call without a
-- step between. Assumes nothing.
use mathlib.Core.Path.{refl}
use native.Mathlib.Omega.{arith}
use lib.ListN.{replicate}
use Rattle.terms.specs.Figures.{value_records}
use Rattle.search.proofs.Taken.{stepped_failed, stepped_left, stepped_assign, branched_failed, branched_next, taken_failed}
use Rattle.search.proofs.Taken.{taken_next, taken_open, planned_failed, planned_next, planned_bodies}
use Rattle.search.proofs.Searching.{begins_move, searched_move, searched_failed, searched_found, begins_open, searched_open}
use Rattle.search.proofs.Searching.{begins_going, going_next, searching_end, going_stop, searched_last}
use Rattle.search.proofs.Searching.{searched_stop, choosing_next, searched_both, begins_forwarded, searched_forwarded, begins_kept}
use Rattle.search.proofs.Searching.{matches_kept, counted_kept, builds_kept, planned_begins, planned_searched}
use borrow.Author.Rules.{rules}
use Rattle.search.proofs.+search.Goals as goal

pub advance-returns-in-Failed : goal.advance-returns-in-Failed
advance-returns-in-Failed t c = search (rules, searched_failed, stepped_failed)

pub advance-search-requires : goal.advance-search-requires
advance-search-requires t c =
    let m = stepped_left _ _ _ _ _ _ c.step.ensures _ c.in-Left.is in
    search (rules, begins_move)

pub advance-returns-in-Left : goal.advance-returns-in-Left
advance-returns-in-Left t c = search (rules, stepped_left, searched_move)

pub advance-offset_bounds-b-binding : goal.advance-offset_bounds-b-binding
advance-offset_bounds-b-binding t c =
    let m = stepped_assign _ _ _ _ _ _ c.step.ensures _ c.in-Assign.is in
    search rules

pub advance-bounds-b-binding : goal.advance-bounds-b-binding
advance-bounds-b-binding t c =
    let m = stepped_assign _ _ _ _ _ _ c.step.ensures _ c.in-Assign.is in
    search rules

pub advance-search-requires-in-Assign : goal.advance-search-requires-in-Assign
advance-search-requires-in-Assign t c =
    let m = stepped_assign _ _ _ _ _ _ c.step.ensures _ c.in-Assign.is in
    search (rules, begins_move)

pub advance-returns-in-Assign : goal.advance-returns-in-Assign
advance-returns-in-Assign t c =
    let m = stepped_assign _ _ _ _ _ _ c.step.ensures _ c.in-Assign.is in
    search (rules, searched_move)

pub attempt-returns-in_default : goal.attempt-returns-in_default
attempt-returns-in_default t c = search (rules, searched_failed, branched_failed)

pub attempt-search-requires : goal.attempt-search-requires
attempt-search-requires t c =
    let m = branched_next _ _ _ _ _ _ _ c.way.ensures _ c.in-Some.is in
    search (rules, begins_move)

pub attempt-returns : goal.attempt-returns
attempt-returns t c = search (rules, branched_next, searched_move)

pub attempt_body-returns-in_default : goal.attempt_body-returns-in_default
attempt_body-returns-in_default t c = search (rules, searched_failed, branched_failed)

pub attempt_body-search-requires : goal.attempt_body-search-requires
attempt_body-search-requires t c =
    let m = branched_next _ _ _ _ _ _ _ c.body.ensures _ c.in-Some.is in
    search (rules, begins_move)

pub attempt_body-returns : goal.attempt_body-returns
attempt_body-returns t c = search (rules, branched_next, searched_move)

pub bodies-returns-then-n-k : goal.bodies-returns-then-n-k
bodies-returns-then-n-k t c = search (rules, searched_last)

pub bodies-returns-then-limit-found : goal.bodies-returns-then-limit-found
bodies-returns-then-limit-found t c = search (rules, searched_stop)

pub bodies-bodies-requires : goal.bodies-bodies-requires
bodies-bodies-requires t c =
    let z = c.requires.2 in
    let y = c.bodies-found.ensures in (
      omega arith,
      (
        begins_kept _ _ _ _ _ _ _ _ _ _ _ _ _ y.kept c.bodies-found.auto.work
            c.bodies-found.auto.lines c.bodies-found.auto.values
            c.if-limit-found.false y.records c.requires.0,
        builds_kept _ _ _ _ c.requires.0.ready.bounds y.kept
            c.requires.1,
        choosing_next _ _ _ _ _ _ _ _ _ _ _ z c.if-n-k.false _ _ _ _ y c.requires.0
            c.bodies-found.auto.work c.if-limit-found.false,
      ),
    )

pub bodies-returns : goal.bodies-returns
bodies-returns t c =
    search (rules, searched_both)

pub build-returns-in-Failed : goal.build-returns-in-Failed
build-returns-in-Failed t c = search (rules, searched_failed, planned_failed)

pub build-search-requires : goal.build-search-requires
build-search-requires t c =
    let m = planned_next _ _ _ _ _ _ c.plan.ensures _ c.in-Next.is in
    search (rules, begins_move)

pub build-returns-in-Next : goal.build-returns-in-Next
build-returns-in-Next t c = search (rules, planned_next, searched_move)

pub build-bodies-requires : goal.build-bodies-requires
build-bodies-requires t c =
    let m = planned_bodies _ _ _ _ _ _ c.plan.ensures _ c.in-Bodies.is in
    (omega arith, planned_begins _ _ _ _ _ _ _ _ _ _ _ m.0 c.requires.0 c.requires.1 m.1 refl m.2)

pub build-returns-in-Bodies : goal.build-returns-in-Bodies
build-returns-in-Bodies t c =
    let m = planned_bodies _ _ _ _ _ _ c.plan.ensures _ c.in-Bodies.is in
    planned_searched _ _ _ _ _ _ _ _ (replicate value_records 0) _ _ _ _ _ _ m.0 m.2 c.bodies.ensures

pub cheapest-decide-requires : goal.cheapest-decide-requires
cheapest-decide-requires t c =
    let f = c.bring_forward-t.ensures in
    let b = begins_forwarded _ _ _ _ _ _ _ _ _ _ f c.requires.0 in
    search rules

pub cheapest-returns-in-Failed : goal.cheapest-returns-in-Failed
cheapest-returns-in-Failed t c = search (rules, searched_forwarded, searched_failed, taken_failed, begins_forwarded)

pub cheapest-search-requires : goal.cheapest-search-requires
cheapest-search-requires t c =
    let f = c.bring_forward-t.ensures in
    let m = taken_next _ _ _ _ _ _ _ c.decide.ensures _ c.in-Next.is in (
      omega (arith, m.falls, f.level),
      begins_move _ _ _ _ _ _ _ _ _ _ _ _ _ m (begins_forwarded _ _ _ _ _ _ _ _ _ _ f c.requires.0),
    )

pub cheapest-returns-in-Next : goal.cheapest-returns-in-Next
cheapest-returns-in-Next t c =
    let f = c.bring_forward-t.ensures in
    let m = taken_next _ _ _ _ _ _ _ c.decide.ensures _ c.in-Next.is in
    searched_forwarded _ _ _ _ _ _ _ _ _ _ f _ _ _ _ (searched_move _ _ _ _ _ _ _ _ _ _ _ _ _ _ _ _ _ m c.search.ensures)

pub cheapest-branch-pattern-requires : goal.cheapest-branch-pattern-requires
cheapest-branch-pattern-requires t c =
    let f = c.bring_forward-t.ensures in
    let e = taken_open _ _ _ _ _ _ _ c.decide.ensures c.in-Open.is in (
      omega (arith, f.level),
      (begins_open _ _ _ _ _ _ _ _ _ _ e (begins_forwarded _ _ _ _ _ _ _ _ _ _ f c.requires.0), f.none_easy, f.some_deferred),
    )

pub cheapest-returns-in-Open : goal.cheapest-returns-in-Open
cheapest-returns-in-Open t c =
    let f = c.bring_forward-t.ensures in
    let e = taken_open _ _ _ _ _ _ _ c.decide.ensures c.in-Open.is in
    search (rules, searched_forwarded, searched_open)

pub flexible-returns-then-limit-found : goal.flexible-returns-then-limit-found
flexible-returns-then-limit-found t c = search (rules, going_stop)

pub flexible-attempt-found-requires : goal.flexible-attempt-found-requires
flexible-attempt-found-requires t c =
    let x = c.requires in
    let g = c.loop-i.invariant in
    let b = begins_going _ _ _ _ _ _ _ _ _ x.0 _ _ _ _ _ g c.if-limit-found.false in (
      omega arith,
      (
        b,
        matches_kept _ _ _ _ _ g.kept b.ready x.1,
        counted_kept _ _ _ _ _ _ g.kept g.area x.0.ready.bounds
            c.ways-ways.ensures,
        c.loop-i-test.true,
      ),
    )

pub flexible-loop-i-preserved : goal.flexible-loop-i-preserved
flexible-loop-i-preserved t c =
    search (rules, going_next)

pub flexible-returns : goal.flexible-returns
flexible-returns t c = search (rules, searching_end)

pub next_deferred-returns-in-Failed : goal.next_deferred-returns-in-Failed
next_deferred-returns-in-Failed t c = search (rules, searched_failed, taken_failed)

pub next_deferred-search-requires : goal.next_deferred-search-requires
next_deferred-search-requires t c =
    let m = taken_next _ _ _ _ _ _ _ c.force.ensures _ c.in-Next.is in
    search (rules, begins_move)

pub next_deferred-returns-in-Next : goal.next_deferred-returns-in-Next
next_deferred-returns-in-Next t c = search (rules, taken_next, searched_move)

pub next_deferred-cheapest-requires : goal.next_deferred-cheapest-requires
next_deferred-cheapest-requires t c = search (rules, taken_open, begins_open)

pub next_deferred-returns-in-Open : goal.next_deferred-returns-in-Open
next_deferred-returns-in-Open t c = search (rules, taken_open, searched_open)

pub search-returns : goal.search-returns
search-returns t c = search (rules, searched_found)
