-- `deciding::decide` meets its contract. The part's skeleton is its swept form if it has no hole, and is compared with the goal's
-- targets; else it may refuse the goal. Each way out is one law. Assumes nothing.
use Rattle.deciding.proofs.Decisions.{deferred_part_within, walkable, undecided, deferred_comparing, known_failed, known_next}
use Rattle.deciding.proofs.Refutations.{part_source, judges, decided_refused, exact_form}
use borrow.Author.Rules.{rules}
use Rattle.deciding.proofs.decide.Goals as goal

pub slice_bounds-part-count : goal.slice_bounds-part-count
slice_bounds-part-count c = search (rules, deferred_part_within)

pub slice_bounds-part-start : goal.slice_bounds-part-start
slice_bounds-part-start c = search (rules, deferred_part_within)

pub ask_part-walk-requires : goal.ask_part-walk-requires
ask_part-walk-requires c =
    walkable _ _ _ _ c.requires.0 c.requires.1 _ c.goal_at-goal.ensures.is

pub skeleton_of-skeleton-requires : goal.skeleton_of-skeleton-requires
skeleton_of-skeleton-requires c = search (rules, part_source)

pub is_possible-requires : goal.is_possible-requires
is_possible-requires c = search (rules, judges)

pub returns-then-is_possible : goal.returns-then-is_possible
returns-then-is_possible c = undecided _ _ _ _

pub returns-then-not-is_exact : goal.returns-then-not-is_exact
returns-then-not-is_exact c = search (rules, decided_refused)

pub is_met-requires : goal.is_met-requires
is_met-requires c =
    deferred_comparing _ _ _ _ c.requires.0 c.requires.1 _ c.goal_at-goal.ensures.is _
    (exact_form _ _ _ _ c.requires.0 c.requires.1 _ c.goal_at-goal.ensures.is _ _ c.skeleton_of-skeleton.ensures
    c.is_exact.result c.if-not-is_exact.false c.is_exact.ensures)

pub returns-then-is_met : goal.returns-then-is_met
returns-then-is_met c =
    known_next _ _ _ _ c.requires.0 c.requires.1 _ c.goal_at-goal.ensures.is _
    (exact_form _ _ _ _ c.requires.0 c.requires.1 _ c.goal_at-goal.ensures.is _ _ c.skeleton_of-skeleton.ensures
    c.is_exact.result c.if-not-is_exact.false c.is_exact.ensures) _ c.is_met.ensures
    c.if-is_met.true

pub returns : goal.returns
returns c =
    known_failed _ _ _ _ c.requires.0 c.requires.1 _ c.goal_at-goal.ensures.is _
    (exact_form _ _ _ _ c.requires.0 c.requires.1 _ c.goal_at-goal.ensures.is _ _ c.skeleton_of-skeleton.ensures
    c.is_exact.result c.if-not-is_exact.false c.is_exact.ensures) _ c.is_met.ensures
    c.if-is_met.false
