-- `arranging::arrange` meets its contract. The found lines are lines whose values stand in the value table; sorting keeps that, and laying
-- out the values makes the tables of the sorted lines. Assumes nothing.
use mathlib.Core.Path.{refl}
use native.Mathlib.Omega.{arith}
use Rattle.arranging.proofs.Arranging.{arranges_rooms, sort_needs, lay_needs, arranged}
use borrow.Author.Rules.{rules}
use Rattle.arranging.proofs.arrange.Goals as goal

pub overflow_mul-m : goal.overflow_mul-m
overflow_mul-m c = omega (arith, (arranges_rooms _ _ _ _ _ c.requires).0, c.requires.lines_most)

pub overflow_mul-n : goal.overflow_mul-n
overflow_mul-n c = omega (arith, (arranges_rooms _ _ _ _ _ c.requires).1, c.requires.values_most)

pub slice_bounds-sort-end : goal.slice_bounds-sort-end
slice_bounds-sort-end c = (arranges_rooms _ _ _ _ _ c.requires).0

pub slice_bounds-sort-end-2 : goal.slice_bounds-sort-end-2
slice_bounds-sort-end-2 c =
    (arranges_rooms _ _ _ _ _ c.requires).1

pub sort-requires : goal.sort-requires
sort-requires c = search (rules, sort_needs)

pub lay_out-requires : goal.lay_out-requires
lay_out-requires c =
    lay_needs _ _ _ _ _ c.requires _ _ refl refl _ _ c.sort.auto.lines refl c.sort.ensures _ c.sort.auto.work

pub returns : goal.returns
returns c = search (rules, arranged)
