-- `deciding::is_possible` meets its contract: each way out is one law of goals that a skeleton refuses, by whether the goal has an
-- argument and by the skeleton's first record. Assumes nothing.
use Rattle.deciding.proofs.Refutations.{possible, possible_match, possible_other, possible_build}
use borrow.Author.Rules.{rules}
use Rattle.deciding.proofs.is_possible.Goals as goal

pub returns-then-goal-eq0 : goal.returns-then-goal-eq0
returns-then-goal-eq0 c = search (rules, possible_match)

pub returns-then-c : goal.returns-then-c
returns-then-c c = possible _ _ _

pub returns-then-c-2 : goal.returns-then-c-2
returns-then-c-2 c = search (rules, possible_other)

pub returns : goal.returns
returns c = search (rules, possible_build)
