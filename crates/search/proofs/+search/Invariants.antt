-- The functions of the search meet their contracts. Each returns what a law of moves, of ways or of choices makes of the searches that it
-- calls; the measure is the room above the agenda and the place of its first easy goal, with a rank for the functions that call without a
-- step between. Assumes nothing.
use Prim.Native.Nat.{◌+◌, ◌-◌, ◌*◌}
use Rattle.terms.specs.Figures.{value_records}
use Rattle.agenda.specs.Moves.{progress}
use Rattle.search.proofs.Searching.{SearchingOn}
use Rattle.search.proofs.+search.Given as goal

abbrev pub decreases-advance : goal.decreases-advance
decreases-advance l = 1000 * progress l.agenda + 899

abbrev pub decreases-attempt : goal.decreases-attempt
decreases-attempt l = 1000 * progress l.agenda + 800

abbrev pub decreases-attempt_body : goal.decreases-attempt_body
decreases-attempt_body l = 1000 * progress l.agenda + 500

abbrev pub decreases-bodies : goal.decreases-bodies
decreases-bodies l = 1000 * progress l.agenda + 600 + (value_records - l.k)

abbrev pub decreases-branch : goal.decreases-branch
decreases-branch l = 1000 * progress l.agenda + 896

abbrev pub decreases-build : goal.decreases-build
decreases-build l = 1000 * progress l.agenda + 895

abbrev pub decreases-cheapest : goal.decreases-cheapest
decreases-cheapest l = 1000 * progress l.agenda + 897

abbrev pub decreases-flexible : goal.decreases-flexible
decreases-flexible l = 1000 * progress l.agenda + 895

abbrev pub decreases-next_deferred : goal.decreases-next_deferred
decreases-next_deferred l = 1000 * progress l.agenda + 898

abbrev pub decreases-search : goal.decreases-search
decreases-search l = 1000 * progress l.agenda + 900

abbrev pub invariant-flexible-loop-i : goal.invariant-flexible-loop-i
invariant-flexible-loop-i l =
    SearchingOn l.pattern l.initial.work l.agenda l.entries l.limit l.initial.lines l.initial.values l.initial.found l.ways.count l.i l.work
    l.lines l.values l.found
