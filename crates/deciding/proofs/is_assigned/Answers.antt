-- `deciding::is_assigned` meets its contract: it asks each record of the part whether it is an open variable. Assumes nothing.
use Prim.Native.Nat.{ℕ, ◌/◌}
use mathlib.Core.Path.{refl}
use native.Mathlib.Omega.{arith}
use lib.ListN.{length}
use borrow.Author.Rules.{rules}
use borrow.Author.Tests.{tests}
use Rattle.std.proofs.lemmas.Iterator.{cases_from_all, YieldsList-from_range}
use Rattle.records.proofs.Tests.{says}
use Rattle.agenda.proofs.Ranges.{all_below}
use Rattle.deciding.specs.Deciding.{OpenAt}
use Rattle.deciding.proofs.Decisions.{assigned_told}
use Rattle.deciding.proofs.is_assigned.Goals as goal

pub returns : goal.returns
returns c =
    let l = c.args.part.now in
    let yes = λ (k : ℕ). ¬ OpenAt l c.args.entries k in
    let no = λ (k : ℕ). OpenAt l c.args.entries k in
    assigned_told l c.args.entries c.all.result (all_below (length l / 4) yes no _
    (cases_from_all _ _ _ yes no c.all.ensures.ran (YieldsList-from_range 0 _ (length l / 4) refl (omega arith))
    (λ x q k. (search rules, search (rules, tests, says))) (λ x q k. search (rules, tests, says))))
