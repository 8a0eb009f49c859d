-- `skeletons::abstract_over` meets its contract, by whether the body is unsure and whether the contracted abstraction is too long. Assumes
-- nothing.
use Rattle.skeletons.proofs.Contractions.{abstracts_hole, abstracts_contracted}
use borrow.Author.Rules.{rules}
use Rattle.skeletons.proofs.abstract_over.Goals as goal

pub returns-in-None : goal.returns-in-None
returns-in-None c = search (rules, abstracts_hole)

pub returns-in-Some : goal.returns-in-Some
returns-in-Some c = search (rules, abstracts_contracted)
