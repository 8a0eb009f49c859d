-- `skeletons::fits_hole` meets its contract: any term may stand in hole 0, and in any other hole a closed one, whose height is 0. By the
-- hole's number and the term's height. Assumes nothing.
use Rattle.skeletons.proofs.Comparison.{heights_some, compared_any, compared_closed, compared_loose}
use borrow.Author.Rules.{rules}
use Rattle.skeletons.proofs.fits_hole.Goals as goal
use Rattle.skeletons.proofs.fits_hole.Goals.{then-number_at-ne-ANY+else-heights-ne0, else-number_at-ne-ANY}

pub bounds-heights-0 : goal.bounds-heights-0
bounds-heights-0 c = search (rules, heights_some)

pub returns-then-heights-ne0 : goal.returns-then-heights-ne0
returns-then-heights-ne0 c = search (rules, compared_loose)

pub returns : goal.returns
returns c =
    elim c.if-number_at-ne-ANY.branch [
      | then-number_at-ne-ANY+else-heights-ne0 w ↦ search (rules, compared_closed)
      | else-number_at-ne-ANY w ↦ search (rules, compared_any)
    ]
