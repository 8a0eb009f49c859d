-- `joins::joining::enclose_into` meets its contract. One abstraction over the body is contracted, and the others come over what is left,
-- for which there is room; the measure is how many abstractions are left. Assumes nothing.
use Rattle.joins.proofs.joining.+enclose_into.Given as goal

abbrev pub decreases-enclose_into : goal.decreases-enclose_into
decreases-enclose_into l = l.n
