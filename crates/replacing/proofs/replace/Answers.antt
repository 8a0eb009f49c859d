-- `replacing::replace` meets its contract: three copies, one behind another. Assumes nothing.
use Rattle.replacing.proofs.Copies.{splice_copied}
use borrow.Author.Rules.{rules}
use Rattle.replacing.proofs.replace.Goals as goal

pub returns : goal.returns
returns c = search (rules, splice_copied)
