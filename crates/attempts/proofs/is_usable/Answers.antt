-- `attempts::is_usable` meets its contract. Assumes nothing.
use Rattle.attempts.proofs.Listings.{told_usable}
use Rattle.attempts.proofs.is_usable.Goals as goal

pub returns : goal.returns
returns c =
    let told = told_usable _ _ _ _ c.if-n-eq0.false _ c.judge_assignment.ensures in
    rw c.is_ok.ensures.value told
