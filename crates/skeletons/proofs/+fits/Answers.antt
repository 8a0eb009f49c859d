-- `skeletons::fits` meets its contract. Each branch is one law of a term compared with a skeleton, by the kind that both first records
-- have; the measure is the length of the skeleton's slice. Assumes nothing.
use native.Mathlib.Omega.{arith}
use Rattle.shifting.proofs.Slices.{shorter, shorter_behind}
use Rattle.skeletons.proofs.Comparison.{heights_some, skeleton_compared_near, skeleton_compared_kinds, skeleton_compares_head}
use Rattle.skeletons.proofs.Comparison.{skeleton_compared_stop, skeleton_compares_argument}
use Rattle.skeletons.proofs.Comparison.{heads_passed, skeleton_compared_app, skeleton_compares_body, skeleton_compared_lam}
use Rattle.skeletons.proofs.Comparison.{compared_same, skeleton_compared_other}
use Rattle.std.specs.declared.option.Option.TheVariants.{Some, None}
use borrow.Author.Rules.{rules}
use Rattle.skeletons.proofs.+fits.Goals as goal

pub returns-then-kind-s : goal.returns-then-kind-s
returns-then-kind-s t c = search (rules, skeleton_compared_kinds)

pub slice_bounds-fits-count-then-kind-2-2 : goal.slice_bounds-fits-count-then-kind-2-2
slice_bounds-fits-count-then-kind-2-2 t c = search (rules, heights_some)

pub slice_bounds-fits-start-then-kind-2-2 : goal.slice_bounds-fits-start-then-kind-2-2
slice_bounds-fits-start-then-kind-2-2 t c = search (rules, heights_some)

pub fits-requires : goal.fits-requires
fits-requires t c = (search (rules, shorter), search (rules, skeleton_compares_head))

pub returns-in_err-head : goal.returns-in_err-head
returns-in_err-head t c = rw c.from_residual.ensures (skeleton_compared_stop _ _ c.if-kind-s.false c.if-kind-2.true c.in_err-head.ensures)

pub overflow_add-n : goal.overflow_add-n
overflow_add-n t c =
    omega (arith, (heads_passed _ _ c.if-kind-s.false c.if-kind-2.true _ c.in_ok-head.ensures _ c.requires).0, c.requires.skeleton_most)

pub overflow_add-m : goal.overflow_add-m
overflow_add-m t c =
    omega (arith, (heads_passed _ _ c.if-kind-s.false c.if-kind-2.true _ c.in_ok-head.ensures _ c.requires).1, c.requires.term_most)

pub slice_bounds-fits-count-then-kind-2-3 : goal.slice_bounds-fits-count-then-kind-2-3
slice_bounds-fits-count-then-kind-2-3 t c =
    (heads_passed _ _ c.if-kind-s.false c.if-kind-2.true _ c.in_ok-head.ensures _ c.requires).0

pub slice_bounds-fits-start-then-kind-2-3 : goal.slice_bounds-fits-start-then-kind-2-3
slice_bounds-fits-start-then-kind-2-3 t c =
    (heads_passed _ _ c.if-kind-s.false c.if-kind-2.true _ c.in_ok-head.ensures _ c.requires).0

pub slice_bounds-fits-count-then-kind-2-4 : goal.slice_bounds-fits-count-then-kind-2-4
slice_bounds-fits-count-then-kind-2-4 t c =
    (heads_passed _ _ c.if-kind-s.false c.if-kind-2.true _ c.in_ok-head.ensures _ c.requires).1

pub slice_bounds-fits-start-then-kind-2-4 : goal.slice_bounds-fits-start-then-kind-2-4
slice_bounds-fits-start-then-kind-2-4 t c =
    (heads_passed _ _ c.if-kind-s.false c.if-kind-2.true _ c.in_ok-head.ensures _ c.requires).1

pub slice_bounds-fits-count-then-kind-2-5 : goal.slice_bounds-fits-count-then-kind-2-5
slice_bounds-fits-count-then-kind-2-5 t c =
    (heads_passed _ _ c.if-kind-s.false c.if-kind-2.true _ c.in_ok-head.ensures _ c.requires).2

pub slice_bounds-fits-start-then-kind-2-5 : goal.slice_bounds-fits-start-then-kind-2-5
slice_bounds-fits-start-then-kind-2-5 t c =
    (heads_passed _ _ c.if-kind-s.false c.if-kind-2.true _ c.in_ok-head.ensures _ c.requires).2

pub fits-requires-then-kind-2 : goal.fits-requires-then-kind-2
fits-requires-then-kind-2 t c = (
  search (rules, shorter_behind),
  skeleton_compares_argument _ _ c.if-kind-s.false c.if-kind-2.true _ c.in_ok-head.ensures _ c.requires,
)

pub returns-in_err-argument : goal.returns-in_err-argument
returns-in_err-argument t c =
    rw c.from_residual-in_err-argument.ensures
    (skeleton_compared_app _ _ c.if-kind-s.false c.if-kind-2.true _ c.in_ok-head.ensures None c.in_err-argument.ensures)

pub behind-requires : goal.behind-requires
behind-requires t c = skeleton_compared_near _ _ _ _ _ _ c.requires c.in_ok-argument.ensures

pub returns-then-kind-2 : goal.returns-then-kind-2
returns-then-kind-2 t c =
    rw c.behind.ensures
    (skeleton_compared_app _ _ c.if-kind-s.false c.if-kind-2.true _ c.in_ok-head.ensures (Some _) c.in_ok-argument.ensures)

pub slice_bounds-fits-count-then-kind-3-3 : goal.slice_bounds-fits-count-then-kind-3-3
slice_bounds-fits-count-then-kind-3-3 t c = search (rules, heights_some)

pub slice_bounds-fits-start-then-kind-3-3 : goal.slice_bounds-fits-start-then-kind-3-3
slice_bounds-fits-start-then-kind-3-3 t c = search (rules, heights_some)

pub fits-requires-then-kind-3 : goal.fits-requires-then-kind-3
fits-requires-then-kind-3 t c = (search (rules, shorter), search (rules, skeleton_compares_body))

pub returns-in_err-body : goal.returns-in_err-body
returns-in_err-body t c =
    rw c.from_residual-in_err-body.ensures (skeleton_compared_lam _ _ c.if-kind-s.false c.if-kind-3.true None c.in_err-body.ensures)

pub behind-requires-then-kind-3 : goal.behind-requires-then-kind-3
behind-requires-then-kind-3 t c = skeleton_compared_near _ _ _ _ _ _ c.requires c.in_ok-body.ensures

pub returns-then-kind-3 : goal.returns-then-kind-3
returns-then-kind-3 t c =
    rw c.behind-then-kind-3.ensures
    (skeleton_compared_lam _ _ c.if-kind-s.false c.if-kind-3.true (Some _) c.in_ok-body.ensures)

pub returns-then-number_at : goal.returns-then-number_at
returns-then-number_at t c = search (rules, compared_same)

pub returns : goal.returns
returns t c = search (rules, skeleton_compared_other)
