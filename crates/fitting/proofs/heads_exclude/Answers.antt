-- `fitting::heads_exclude` meets its contract. Assumes nothing.
use Rattle.fitting.proofs.Heads.{pattern_whole, recipe_whole, not_excluded}
use borrow.Author.Rules.{rules}
use Rattle.fitting.proofs.heads_exclude.Goals as goal

pub is_rigid-requires : goal.is_rigid-requires
is_rigid-requires c = search (rules, pattern_whole)

pub heads_agree-requires : goal.heads_agree-requires
heads_agree-requires c = search (rules, pattern_whole, recipe_whole)

pub returns : goal.returns
returns c = search (rules, not_excluded)
