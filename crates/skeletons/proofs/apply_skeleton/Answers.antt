-- `skeletons::apply_skeleton` meets its contract, by whether the contracted application is too long. Assumes nothing.
use Rattle.skeletons.proofs.Contractions.{applies_hole, applies_contracted}
use borrow.Author.Rules.{rules}
use Rattle.skeletons.proofs.apply_skeleton.Goals as goal

pub returns-in-None : goal.returns-in-None
returns-in-None c = search (rules, applies_hole)

pub returns-in-Some : goal.returns-in-Some
returns-in-Some c = search (rules, applies_contracted)
