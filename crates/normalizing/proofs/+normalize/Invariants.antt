-- `normalizing::normalize` meets its contract: what the sweeps behind the first come to is what all of them come to. The measure is the
-- number of sweeps that are left. Assumes nothing.
use Rattle.normalizing.proofs.+normalize.Given as goal

abbrev pub decreases-normalize : goal.decreases-normalize
decreases-normalize l = l.most
