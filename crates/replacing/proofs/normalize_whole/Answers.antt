-- `replacing::normalize_whole` meets its contract: the whole is a term without variables, which `normalizing` sweeps. Assumes nothing.
use Rattle.replacing.proofs.Wholes.{recipe_whole, whole_room, whole_start, whole_rest}
use borrow.Author.Rules.{rules}
use Rattle.replacing.proofs.normalize_whole.Goals as goal

pub end_at-end-requires : goal.end_at-end-requires
end_at-end-requires c = search (rules, recipe_whole)

pub replace-bytes-requires : goal.replace-bytes-requires
replace-bytes-requires c = search (rules, whole_room)

pub normalize-requires : goal.normalize-requires
normalize-requires c = search (rules, whole_start)

pub returns : goal.returns
returns c = search (rules, whole_rest)
