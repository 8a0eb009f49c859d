-- `records::check_pattern` meets its contract. What `check_table` finds is the answer to the pattern's three rows. Assumes nothing.
use Rattle.records.proofs.Checks.{pattern_answer}
use Rattle.records.proofs.check_pattern.Goals as goal

pub returns : goal.returns
returns c = pattern_answer _ _ c.check_table.ensures
