-- `arranging::lay_out` meets its contract. The work area begins with a copy of the values, so the lines stand with them there as they did.
-- Assumes nothing.
use Rattle.arranging.proofs.Laying.{lay_lines, laid_out}
use borrow.Author.Rules.{rules}
use Rattle.arranging.proofs.lay_out.Goals as goal

pub lay_lines-requires : goal.lay_lines-requires
lay_lines-requires c = search (rules, lay_lines)

pub returns : goal.returns
returns c = search (rules, laid_out)
