-- `records::check_value` meets its contract. The table of a value passes each row that `check_normal` could have refused by. Assumes
-- nothing.
use Rattle.records.proofs.Checks.{value_says}
use Rattle.records.proofs.check_value.Goals as goal

pub returns : goal.returns
returns c = rw c.is_ok.ensures.value (value_says _ _ c.check_normal.ensures)
