-- `arguments::place_argument` meets its contract. A part that can be moved out of the binders above it is written as a target at the
-- top, and then its heights in front of it; no other one is an argument. Assumes nothing.
use native.Mathlib.Omega.{arith}
use Rattle.agenda.proofs.Targets.{new_target}
use Rattle.arguments.proofs.Arguments.{lowers, stuck, moved_end, argument_target, placed}
use borrow.Author.Rules.{rules}
use Rattle.arguments.proofs.place_argument.Goals as goal

pub lower_into-requires : goal.lower_into-requires
lower_into-requires c = search (rules, lowers)

pub returns-in_err-n : goal.returns-in_err-n
returns-in_err-n c = rw c.from_residual.ensures (search (rules, stuck, c.in_err-n.was))

pub slice_bounds-copy_into-end : goal.slice_bounds-copy_into-end
slice_bounds-copy_into-end c =
    omega (arith, moved_end _ _ _ _ c.requires.0 _ c.requires.1 _ _ _ c.lower_into.ensures _ c.in_ok-n.was)

pub keep_heights-requires : goal.keep_heights-requires
keep_heights-requires c = search (rules, argument_target, c.in_ok-n.was)

pub returns : goal.returns
returns c = search (rules, placed, new_target, c.in_ok-n.was)
