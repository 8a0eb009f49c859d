-- `rules::next_rule` meets its contract: the places before the one that is found are empty. Assumes nothing.
use Prim.Native.Nat.{ℕ}
use mathlib.Core.Bool.{true, false}
use mathlib.Core.Path.{◌≡◌}
use borrow.Author.Rules.{rules}
use borrow.Author.Tests.{tests}
use Rattle.std.proofs.lemmas.Iterator.{first_from_Range}
use Rattle.rules.specs.Rules.{is_empty}
use Rattle.rules.proofs.Places.{found}
use Rattle.rules.proofs.next_rule.Goals as goal

pub returns : goal.returns
returns c =
    let b = c.args.book.now in
    let f = found b c.args.from c.find.result c.requires
    (first_from_Range _ _ _ _ (λ (i : ℕ). is_empty b i ≡ false) (λ (i : ℕ). is_empty b i ≡ true) c.find.ensures.ran
    (λ x q k. search (rules, tests)) (λ x q k. search (rules, tests))) in
    rw c.unwrap_or.ensures f
