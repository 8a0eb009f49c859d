-- `storage::store` meets its contract. Assumes nothing.
use Rattle.storage.proofs.Storing.{stored}
use borrow.Author.Rules.{rules}
use Rattle.storage.proofs.store.Goals as goal

pub returns : goal.returns
returns c = search (rules, stored)
