-- `deciding::is_met` meets its contract. Tables are equal exactly if their terms are, and what solves a goal to build is asked of the parts
-- that stand in the work area. Assumes nothing.
use Rattle.deciding.proofs.Decisions.{compared_match, solving_swept, compared_build}
use borrow.Author.Rules.{rules}
use Rattle.deciding.proofs.is_met.Goals as goal

pub returns-then-goal-eq0 : goal.returns-then-goal-eq0
returns-then-goal-eq0 c = search (rules, compared_match)

pub is_solved-requires : goal.is_solved-requires
is_solved-requires c = search (rules, solving_swept)

pub returns : goal.returns
returns c = search (rules, compared_build)
