-- `builds::is_solved` meets its contract. The head's first record, the walk over its body and the walk over body and target decide
-- one condition each. Assumes nothing.
use Rattle.builds.proofs.Solutions.{asking, substituting, solved_unused, solved_says}
use borrow.Author.Rules.{rules}
use Rattle.builds.proofs.is_solved.Goals as goal

pub ask_part-requires : goal.ask_part-requires
ask_part-requires c =
    asking _ _ _ c.if-head.false c.requires

pub returns-then-is_some : goal.returns-then-is_some
returns-then-is_some c =
    solved_unused _ _ _ c.if-head.false _ _ c.is_some.ensures c.if-is_some.true c.ask_part.ensures

pub is_substituted-requires : goal.is_substituted-requires
is_substituted-requires c = search (rules, substituting)

pub returns : goal.returns
returns c =
    rw c.is_some-2.ensures
    (solved_says _ _ _ c.if-head.false _ _ c.is_some.ensures c.if-is_some.false c.ask_part.ensures _ c.is_substituted.ensures)
