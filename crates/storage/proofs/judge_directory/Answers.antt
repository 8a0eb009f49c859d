-- `storage::judge_directory` meets its contract. Assumes nothing.
use Rattle.storage.proofs.Judges.{length_bad, directory_good}
use borrow.Author.Rules.{rules}
use Rattle.storage.proofs.judge_directory.Goals as goal

pub returns-then-directory-ne-DIRECTORY_BYTES : goal.returns-then-directory-ne-DIRECTORY_BYTES
returns-then-directory-ne-DIRECTORY_BYTES c = search (rules, length_bad)

pub returns : goal.returns
returns c = search (rules, directory_good)
