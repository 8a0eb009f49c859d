-- `agenda::locals::misses_local` meets its contract. What is found is a local that the target's marks show, and the argument's don't.
-- Assumes nothing.
use Prim.Native.Nat.{ℕ}
use mathlib.Core.Bool.{true}
use mathlib.Core.Path.{refl}
use lib.ListN.{get_or}
use borrow.Author.Rules.{rules}
use borrow.Author.Tests.{tests}
use Rattle.std.proofs.lemmas.Iterator.{cases_from_any, YieldsList-from_range}
use Rattle.terms.specs.Figures.{pattern_records}
use Rattle.agenda.specs.Locals.{Missing}
use Rattle.agenda.proofs.Missing.{misses}
use Rattle.agenda.proofs.Ranges.{any_below}
use Rattle.agenda.proofs.locals.misses_local.Goals as goal

pub returns : goal.returns
returns c =
    let P = c.args.part.now in
    let m = c.loose_locals.new.marks in
    let n = c.loose_locals-2.new.marks in
    let yes = λ (k : ℕ). Missing P k (get_or m k 0) (get_or n k 0) true in
    let no = λ (k : ℕ). Unit {0} in
    misses P c.args.target.now c.args.argument.now c.loose_locals.result c.loose_locals-2.result m n _
    c.loose_locals.ensures c.loose_locals-2.ensures (any_below pattern_records yes no _
    (cases_from_any _ _ _ yes no c.any.ensures.ran (YieldsList-from_range 0 pattern_records _ refl refl)
    (λ x q k. search (rules, tests)) (λ x q k. (search rules, tt))))
