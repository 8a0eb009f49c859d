-- `storage::judge_buoy` meets its contract. Assumes nothing.
use Rattle.storage.proofs.Judges.{buoy_bad, buoy_good}
use borrow.Author.Rules.{rules}
use Rattle.storage.proofs.judge_buoy.Goals as goal

pub returns-then-buoy-ge-BUOYS : goal.returns-then-buoy-ge-BUOYS
returns-then-buoy-ge-BUOYS c = search (rules, buoy_bad)

pub returns : goal.returns
returns c = search (rules, buoy_good)
