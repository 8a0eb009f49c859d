-- `skeletons::may_build` meets its contract: the skeleton is applied to the argument's term, and what it gives is compared with the target.
-- By the laws of an applied skeleton. Assumes nothing.
use Rattle.skeletons.proofs.Applying.{skeleton_applied, built_comparable, built_answer}
use borrow.Author.Rules.{rules}
use Rattle.skeletons.proofs.may_build.Goals as goal

pub apply_skeleton-n-requires : goal.apply_skeleton-n-requires
apply_skeleton-n-requires c = search (rules, skeleton_applied)

pub may_be-requires : goal.may_be-requires
may_be-requires c = search (rules, built_comparable)

pub returns : goal.returns
returns c = search (rules, built_answer)
