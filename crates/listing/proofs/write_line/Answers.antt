-- `listing::write_line` meets its contract. Assumes nothing.
use Rattle.listing.proofs.Writers.{writing_entry, writing_more, writing_done}
use borrow.Author.Rules.{rules}
use Rattle.listing.proofs.write_line.Goals as goal

pub write_entry-next-requires : goal.write_entry-next-requires
write_entry-next-requires c = search (rules, writing_entry)

pub loop-i-preserved : goal.loop-i-preserved
loop-i-preserved c = search (rules, writing_more)

pub returns : goal.returns
returns c = search (rules, writing_done)
