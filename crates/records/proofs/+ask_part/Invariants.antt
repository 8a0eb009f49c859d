-- `records::ask_part` meets its contract. Each branch is one law of walks, with what is asked of a local split by the term's kind; the
-- measure is the length of the slice that is handed on. Assumes nothing.
use lib.ListN.{length}
use Rattle.records.proofs.+ask_part.Given as goal

abbrev pub decreases-ask_part : goal.decreases-ask_part
decreases-ask_part l = length l.s.now
