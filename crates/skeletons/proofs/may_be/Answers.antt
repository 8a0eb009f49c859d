-- `skeletons::may_be` meets its contract, by how the walk over the skeleton and the term ends. Assumes nothing.
use Rattle.skeletons.proofs.Comparison.{may_be_says}
use Rattle.skeletons.proofs.may_be.Goals as goal

pub returns : goal.returns
returns c = rw c.is_some.ensures (may_be_says _ _ _ c.fits.ensures)
