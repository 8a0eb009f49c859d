-- `builds::push_abstraction` meets its contract. The first two runs of stores are the table of the abstraction; its heights are stored in
-- front of it, and the goal behind it. Assumes nothing.
use Rattle.agenda.proofs.Targets.{new_target}
use Rattle.builds.proofs.Pushing.{abstraction_written, abstraction_room, abstraction_target, pushed_stored}
use borrow.Author.Rules.{rules}
use Rattle.builds.proofs.push_abstraction.Goals as goal

pub keep_heights-requires : goal.keep_heights-requires
keep_heights-requires c = search (rules, abstraction_target)

pub returns : goal.returns
returns c =
    pushed_stored _ _ _ _ c.requires _ _ _
    (new_target _ _ _ _ _
    (abstraction_written _ _ _ _ c.requires _ _ c.put_record.ensures c.copy_into.ensures)
    (abstraction_room _ _ _ _ c.requires) c.requires.few c.keep_heights.ensures)
    c.match_goal-head.ensures c.put_goal.ensures
