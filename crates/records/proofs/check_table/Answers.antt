-- `records::check_table` meets its contract. Each answer is given by the tests that led to it. Assumes nothing.
use mathlib.Core.Path.{sym, ◌∙◌}
use native.Mathlib.Omega.{arith}
use Rattle.records.specs.Checks.{OneTerm}
use Rattle.records.proofs.Tests.{says}
use Rattle.records.proofs.Checks.{length_checked, found_most, found_record, found_term, found_none}
use borrow.Author.Rules.{rules}
use Rattle.records.proofs.check_table.Goals as goal

pub returns-then-is_bad_length : goal.returns-then-is_bad_length
returns-then-is_bad_length c = search (rules, length_checked)

pub returns-then-not-good_records : goal.returns-then-not-good_records
returns-then-not-good_records c =
    found_record _ _ c.is_bad_length.result c.is_bad_length.ensures
    c.if-is_bad_length.false _ (sym c.good_records.ensures ∙ c.if-not-good_records.true)

pub is_one_term-requires : goal.is_one_term-requires
is_one_term-requires c = (
  record { allowed = c.args.variables; good = sym c.good_records.ensures ∙ c.if-not-good_records.false },
  omega (
    arith,
    found_most c.args.most c.args.table.now c.is_bad_length.result
        c.is_bad_length.ensures c.if-is_bad_length.false,
  ),
)

pub returns-then-is_one_term : goal.returns-then-is_one_term
returns-then-is_one_term c =
    found_term _ _ c.is_bad_length.result c.is_bad_length.ensures c.if-is_bad_length.false _
    (sym c.good_records.ensures ∙ c.if-not-good_records.false)
    (says (OneTerm c.args.table.now) _ _ c.is_one_term.ensures c.if-is_one_term.true)

pub returns : goal.returns
returns c =
    found_none _ _ c.is_bad_length.result c.is_bad_length.ensures c.if-is_bad_length.false _
    (sym c.good_records.ensures ∙ c.if-not-good_records.false)
    (says (OneTerm c.args.table.now) _ _ c.is_one_term.ensures c.if-is_one_term.false)
