-- `fitting::has_match` meets its contract: heads that differ leave no match, and the reduct is a pattern with the same matches. Where it is
-- too long the pattern itself is searched. Assumes nothing.
use mathlib.Core.Path.{refl}
use native.Mathlib.Omega.{arith}
use Rattle.reducts.proofs.Reducts.{reducible, reduct_few, reduct_within}
use Rattle.fitting.proofs.Heads.{excluded_none}
use Rattle.fitting.proofs.Matches.{reduct_searchable, reduct_says}
use borrow.Author.Rules.{rules}
use Rattle.fitting.proofs.has_match.Goals as goal

pub returns-then-heads_exclude : goal.returns-then-heads_exclude
returns-then-heads_exclude c = search (rules, excluded_none)

pub reduce-requires : goal.reduce-requires
reduce-requires c = search (rules, reducible)

pub overflow_mul-n : goal.overflow_mul-n
overflow_mul-n c =
    let x = c.requires.pattern in
    omega (
      arith,
      reduct_few _ _ _ _ _ c.in-Some.ensures refl (omega arith) (reducible _ x.tree x.table x.most),
    )

pub slice_bounds-find_line-end : goal.slice_bounds-find_line-end
slice_bounds-find_line-end c = search (rules, reduct_within, reducible, c.in-Some.ensures, refl)

pub find_line-requires-2 : goal.find_line-requires-2
find_line-requires-2 c = search (rules, reduct_searchable, c.in-Some.ensures, refl)

pub returns : goal.returns
returns c = search (rules, reduct_says, c.in-Some.ensures, refl)
