-- `arranging::sort` meets its contract. Each half is shorter than the whole, and both halves in order, merged, are the whole in order.
-- Assumes nothing.
use mathlib.Core.Path.{◌∙◌, refl}
use Prim.Native.Nat.{◌≤◌, ◌/◌, ◌*◌}
use native.Mathlib.Omega.{arith}
use lib.ListN.{length}
use Rattle.terms.specs.Figures.{variables}
use Rattle.arranging.proofs.Sorting.{first_length, second_length, short_sorted, sorts_first, sorts_second, halves_of, sorted_back}
use Rattle.arranging.proofs.+sort.Goals as goal

pub returns-then-n-le-LINE : goal.returns-then-n-le-LINE
returns-then-n-le-LINE t c = short_sorted _ _ c.if-n-le-LINE.true

pub sort-requires : goal.sort-requires
sort-requires t c =
    let g : length c.args.lines.now / (4 * variables) / 2 * (4 * variables) ≤ length c.args.lines.now = omega arith in (
      omega (arith, first_length c.args.lines.now _ g),
      sorts_first c.args.lines.now _ _ (length c.args.lines.now / (4 * variables) / 2) _ c.requires refl g,
    )

pub sort-requires-2 : goal.sort-requires-2
sort-requires-2 t c =
    let g : length c.args.lines.now / (4 * variables) / 2 * (4 * variables) ≤ length c.args.lines.now = omega arith in (
      omega (arith, second_length c.args.lines.now c.sort.new.lines _ c.sort.auto.lines g),
      sorts_second c.args.lines.now _ _ (length c.args.lines.now / (4 * variables) / 2) _ c.requires refl g
          c.sort.new.lines c.sort.auto.lines _ c.sort.auto.work,
    )

pub merge_halves-requires : goal.merge_halves-requires
merge_halves-requires t c =
    let g : length c.args.lines.now / (4 * variables) / 2 * (4 * variables) ≤ length c.args.lines.now = omega arith in
    halves_of c.args.lines.now _ c.args.work.now (length c.args.lines.now / (4 * variables) / 2) _
    c.requires refl g c.sort.new.lines c.sort.auto.lines c.sort.ensures c.sort-2.new.lines
    c.sort-2.auto.lines c.sort-2.ensures _ (c.sort-2.auto.work ∙ c.sort.auto.work)

pub returns : goal.returns
returns t c =
    let g : length c.args.lines.now / (4 * variables) / 2 * (4 * variables) ≤ length c.args.lines.now = omega arith in
    sorted_back c.args.lines.now _ c.args.work.now (length c.args.lines.now / (4 * variables) / 2) _
    c.requires refl g c.sort.new.lines c.sort.auto.lines c.sort.ensures c.sort-2.new.lines
    c.sort-2.auto.lines c.sort-2.ensures _ c.merge_halves.ensures
