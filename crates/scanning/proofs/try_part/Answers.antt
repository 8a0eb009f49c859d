-- `scanning::try_part` meets its contract. Assumes nothing.
use Rattle.replacing.proofs.Wholes.{recipe_whole}
use Rattle.scanning.proofs.Parts.{here_tree, here_recipe, pairs_most, part_open, part_closed}
use borrow.Author.Rules.{rules}
use Rattle.scanning.proofs.try_part.Goals as goal

pub end_at-end-requires : goal.end_at-end-requires
end_at-end-requires c = search (rules, recipe_whole)

pub is_closed-requires : goal.is_closed-requires
is_closed-requires c =
    here_tree _ c.requires.1 _ c.requires.2 _ c.end_at-end.ensures

pub try_rules-requires : goal.try_rules-requires
try_rules-requires c = (
  c.requires.0,
  here_recipe _ c.requires.1 _ c.requires.2 _ c.end_at-end.ensures _ c.is_closed.ensures c.if-is_closed.true,
  pairs_most _ c.requires.1 _ c.requires.2 _ c.requires.3,
)

pub returns-then-is_closed : goal.returns-then-is_closed
returns-then-is_closed c = search (rules, part_closed)

pub returns : goal.returns
returns c = search (rules, part_open)
