-- `abstractions::depths_into` meets its contract. The record's own depth is stored, and the depths of its parts follow it; the measure is
-- the length of the slice. Assumes nothing.
use mathlib.Core.Path.{◌∙◌}
use lib.ListN.{length-set}
use Rattle.shifting.proofs.Slices.{shorter, shorter_behind}
use Rattle.abstractions.proofs.Depths.{depths_whole, depths_head, depths_argument, depths_body, depths_application}
use Rattle.abstractions.proofs.Depths.{depths_abstraction, depths_leaf}
use borrow.Author.Rules.{rules}
use Rattle.abstractions.proofs.+depths_into.Goals as goal

pub depths_into-next-requires : goal.depths_into-next-requires
depths_into-next-requires t c =
    (search (rules, shorter), depths_head _ _ _ _ _ (simp length-set) c.requires c.if-k.true)

pub depths_into-requires : goal.depths_into-requires
depths_into-requires t c = (
  search (rules, shorter_behind),
  depths_argument _ _ _ _ _ (c.depths_into-next.auto.out ∙ simp length-set) c.requires _ c.if-k.true
      c.depths_into-next.ensures.ends,
)

pub returns-then-k : goal.returns-then-k
returns-then-k t c = search (rules, depths_application)

pub depths_into-requires-then-k-2 : goal.depths_into-requires-then-k-2
depths_into-requires-then-k-2 t c =
    (search (rules, shorter), depths_body _ _ _ _ _ (simp length-set) c.requires c.if-k-2.true)

pub returns-then-k-2 : goal.returns-then-k-2
returns-then-k-2 t c = search (rules, depths_abstraction)

pub returns : goal.returns
returns t c = search (rules, depths_leaf, depths_whole)
