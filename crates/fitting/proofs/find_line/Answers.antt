-- `fitting::find_line` meets its contract. Assumes nothing.
use Rattle.fitting.proofs.Matches.{found_match}
use borrow.Author.Rules.{rules}
use Rattle.fitting.proofs.find_line.Goals as goal

pub returns : goal.returns
returns c = search (rules, found_match)
