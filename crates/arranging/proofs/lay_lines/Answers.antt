-- `arranging::lay_lines` meets its contract. Assumes nothing.
use Rattle.arranging.proofs.Laying.{laying_start, lay_line, laying_more, laying_done}
use borrow.Author.Rules.{rules}
use Rattle.arranging.proofs.lay_lines.Goals as goal

pub loop-i-init : goal.loop-i-init
loop-i-init c = laying_start _ _ _ _

pub lay_line-first-requires : goal.lay_line-first-requires
lay_line-first-requires c = search (rules, lay_line)

pub loop-i-preserved : goal.loop-i-preserved
loop-i-preserved c = search (rules, laying_more)

pub returns : goal.returns
returns c = search (rules, laying_done)
