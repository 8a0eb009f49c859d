-- `agenda::heads::heads_agree` meets its contract. Each record is read once, and of two applications the heads are compared; the
-- measure is the length of the part's slice. Assumes nothing.
use lib.ListN.{length}
use Rattle.agenda.proofs.heads.+heads_agree.Given as goal

abbrev pub decreases-heads_agree : goal.decreases-heads_agree
decreases-heads_agree l = length l.part.now
