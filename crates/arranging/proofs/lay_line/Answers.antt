-- `arranging::lay_line` meets its contract. The entries read from the line are those of the line that stands there, so writing them writes
-- the same line with its values in their new place. Assumes nothing.
use Rattle.arranging.proofs.Laying.{lay_write, laid_line}
use borrow.Author.Rules.{rules}
use Rattle.arranging.proofs.lay_line.Goals as goal

pub write_line-requires : goal.write_line-requires
write_line-requires c = search (rules, lay_write)

pub returns : goal.returns
returns c = search (rules, laid_line)
