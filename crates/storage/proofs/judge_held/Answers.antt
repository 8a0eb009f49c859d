-- `storage::judge_held` meets its contract. Assumes nothing.
use Rattle.storage.proofs.Judges.{recipe_none, recipe_some}
use borrow.Author.Rules.{rules}
use Rattle.storage.proofs.judge_held.Goals as goal

pub returns-then-directory-buoy-eq0 : goal.returns-then-directory-buoy-eq0
returns-then-directory-buoy-eq0 c = search (rules, recipe_none)

pub returns : goal.returns
returns c = search (rules, recipe_some)
