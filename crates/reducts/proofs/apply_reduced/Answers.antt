-- `reducts::apply_reduced` meets its contract, by the three tests that tell whether a redex is contracted. Assumes nothing.
use Rattle.reducts.proofs.Reducts.{applies_rigid, applies_guarded, applies_kept}
use borrow.Author.Rules.{rules}
use Rattle.reducts.proofs.apply_reduced.Goals as goal

pub returns-then-is_rigid : goal.returns-then-is_rigid
returns-then-is_rigid c = search (rules, applies_rigid)

pub returns-then-is_guarded : goal.returns-then-is_guarded
returns-then-is_guarded c = search (rules, applies_guarded)

pub returns : goal.returns
returns c = search (rules, applies_kept)
