-- `joins::pairs::spines_at` meets its contract. An application has the pairs of its head and one more, a variable has none; the measure is
-- what is left of the pattern. Assumes nothing.
use mathlib.Core.Path.{sym, ◌∙◌}
use native.Mathlib.Omega.{arith}
use Rattle.records.proofs.Parts.{whole_head}
use Rattle.joins.proofs.Spines.{repeats_other, repeats_variable, repeats_adding, repeats_application}
use borrow.Author.Rules.{rules}
use Rattle.joins.proofs.pairs.+spines_at.Goals as goal

pub returns-then-kind-pattern : goal.returns-then-kind-pattern
returns-then-kind-pattern t c = repeats_other _ _ _

pub spines_at-requires : goal.spines_at-requires
spines_at-requires t c = (
  omega arith,
  (
    whole_head _ _ c.requires.0 c.if-kind.true,
    whole_head _ _ c.requires.1 (sym c.if-kind-pattern.false ∙ c.if-kind.true),
    c.requires.2,
  ),
)

pub returns-in_err-q : goal.returns-in_err-q
returns-in_err-q t c = rw c.from_residual.ensures (repeats_other _ _ _)

pub add_pair-requires : goal.add_pair-requires
add_pair-requires t c = search (rules, repeats_adding, c.in_ok-q.was)

pub returns-then-kind : goal.returns-then-kind
returns-then-kind t c = search (rules, repeats_application, c.in_ok-q.was)

pub returns-then-kind-2 : goal.returns-then-kind-2
returns-then-kind-2 t c = repeats_other _ _ _

pub returns-then-number_at : goal.returns-then-number_at
returns-then-number_at t c = repeats_other _ _ _

pub returns : goal.returns
returns t c = search (rules, repeats_variable)
