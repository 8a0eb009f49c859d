-- `shifting::loose_locals` meets its contract. Each branch is one law of marks, by the kind of the first record; the measure is the length
-- of the slice. Assumes nothing.
use mathlib.Core.Path.{refl}
use native.Mathlib.Omega.{arith}
use Rattle.shifting.proofs.Slices.{shorter, shorter_behind}
use Rattle.shifting.proofs.Locals.{marks_whole, marks_head, marks_argument, marks_body, marks_local, marked_application}
use Rattle.shifting.proofs.Locals.{marked_abstraction, marked_loose, marked_bound, marked_other}
use borrow.Author.Rules.{rules}
use Rattle.shifting.proofs.+loose_locals.Goals as goal

pub loose_locals-next-requires : goal.loose_locals-next-requires
loose_locals-next-requires t c = (search (rules, shorter), search (rules, marks_head))

pub loose_locals-requires : goal.loose_locals-requires
loose_locals-requires t c = (search (rules, shorter_behind), search (rules, marks_argument))

pub returns-then-k : goal.returns-then-k
returns-then-k t c = search (rules, marked_application)

pub loose_locals-requires-then-k-2 : goal.loose_locals-requires-then-k-2
loose_locals-requires-then-k-2 t c = (search (rules, shorter), search (rules, marks_body))

pub returns-then-k-2 : goal.returns-then-k-2
returns-then-k-2 t c = search (rules, marked_abstraction)

pub returns-then-n-depth : goal.returns-then-n-depth
returns-then-n-depth t c = search (rules, marked_bound, marks_whole)

pub bounds-marks-j : goal.bounds-marks-j
bounds-marks-j t c =
    omega (arith, marks_local _ _ _ _ refl c.requires _ c.if-k-3.true c.number_at-n.ensures.0)

pub returns-else-n-depth : goal.returns-else-n-depth
returns-else-n-depth t c = search (rules, marked_loose, marks_whole)

pub returns-else-k-3 : goal.returns-else-k-3
returns-else-k-3 t c = search (rules, marked_other, marks_whole)
