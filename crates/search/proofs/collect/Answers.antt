-- `search::collect` meets its contract: it begins with the one goal that the pattern sweeps to the recipe, and a search answers for it.
-- Assumes nothing.
use native.Mathlib.Omega.{arith}
use Rattle.search.proofs.Starting.{recipe_short, recipe_target_written, first_room, begins, answers}
use borrow.Author.Rules.{rules}
use Rattle.search.proofs.collect.Goals as goal

pub copy_into-requires : goal.copy_into-requires
copy_into-requires c = omega (arith, recipe_short)

pub keep_heights-requires : goal.keep_heights-requires
keep_heights-requires c = search (rules, recipe_target_written)

pub put_goal-requires : goal.put_goal-requires
put_goal-requires c = (
  first_room _ _ _ _ _ _ c.requires _ c.copy_into.ensures _ c.keep_heights.ensures,
  record {
    part = omega arith;
    origin = omega arith;
    from = omega arith;
    near = omega arith;
    next = omega arith;
    argument = omega arith;
  },
)

pub search-requires : goal.search-requires
search-requires c =
    begins _ _ _ _ _ _ c.requires _ c.copy_into.ensures _ c.keep_heights.ensures _
    c.put_goal.ensures

pub returns : goal.returns
returns c = search (rules, answers)
