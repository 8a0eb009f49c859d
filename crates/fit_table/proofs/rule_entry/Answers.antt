-- `fit_table::rule_entry` meets its contract. Assumes nothing.
use Rattle.fit_table.proofs.Entries.{empty_marks, rule_here, rule_searchable, rule_marks}
use borrow.Author.Rules.{rules}
use Rattle.fit_table.proofs.rule_entry.Goals as goal

pub returns-then-is_empty : goal.returns-then-is_empty
returns-then-is_empty c = search (rules, empty_marks)

pub left_of-requires : goal.left_of-requires
left_of-requires c = search (rules, rule_here)

pub has_match-requires : goal.has_match-requires
has_match-requires c = search (rules, rule_searchable)

pub returns : goal.returns
returns c = search (rules, rule_marks)
