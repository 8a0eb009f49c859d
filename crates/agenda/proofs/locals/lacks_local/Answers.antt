-- `agenda::locals::lacks_local` meets its contract. A local that is found is marked and the part lacks it, and a mark is one of a local
-- that the target uses. Assumes nothing.
use Prim.Native.Nat.{ℕ}
use mathlib.Core.Bool.{true}
use mathlib.Core.Path.{refl}
use lib.ListN.{get_or}
use borrow.Author.Rules.{rules}
use borrow.Author.Tests.{tests}
use Rattle.std.proofs.lemmas.Iterator.{cases_from_any, YieldsList-from_range}
use Rattle.terms.specs.Figures.{pattern_records}
use Rattle.agenda.specs.Locals.{Unused}
use Rattle.agenda.proofs.Lacking.{lacks}
use Rattle.agenda.proofs.Ranges.{any_below}
use Rattle.agenda.proofs.locals.lacks_local.Goals as goal

pub returns : goal.returns
returns c =
    let P = c.args.part.now in
    let m = c.loose_locals.new.marks in
    let yes = λ (k : ℕ). Unused P k (get_or m k 0) true in
    let no = λ (k : ℕ). Unit {0} in
    lacks P c.args.target.now m c.loose_locals.result _ c.loose_locals.ensures (any_below pattern_records yes no _
    (cases_from_any _ _ _ yes no c.any.ensures.ran (YieldsList-from_range 0 pattern_records _ refl refl)
    (λ x q k. search (rules, tests)) (λ x q k. (search rules, tt))))
