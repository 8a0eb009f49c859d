-- `sweeping::write_value` meets its contract: the span's records are the value's table. Assumes nothing.
use Rattle.sweeping.proofs.Values.{given_bytes, value_written}
use borrow.Author.Rules.{rules}
use Rattle.sweeping.proofs.write_value.Goals as goal

pub returns : goal.returns
returns c = search (rules, value_written, given_bytes)
