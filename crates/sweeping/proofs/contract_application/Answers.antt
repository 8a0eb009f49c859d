-- `sweeping::contract_application` meets its contract, by whether the head is an abstraction. Assumes nothing.
use Rattle.sweeping.proofs.Contraction.{applied_too_long, applied_written}
use borrow.Author.Rules.{rules}
use Rattle.sweeping.proofs.contract_application.Goals as goal

pub returns-then-n-gt-SWEPT_BYTES : goal.returns-then-n-gt-SWEPT_BYTES
returns-then-n-gt-SWEPT_BYTES c = search (rules, applied_too_long)

pub returns : goal.returns
returns c = search (rules, applied_written)
