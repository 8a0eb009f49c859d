-- `arranging::compare_entries` meets its contract: an entry is read as what the line has, and two values go by their bytes. Assumes
-- nothing.
use mathlib.Core.Path.{sym, ◌∙◌}
use Rattle.arranging.proofs.Comparing.{value_within, open_against_lem, open_later, by_values, bytes_compared}
use Rattle.arranging.proofs.compare_entries.Goals as goal

pub returns-in_default : goal.returns-in_default
returns-in_default c =
    open_against_lem _ _ _ _ _ _ (sym c.entry_at-x.ensures ∙ c.in_default.is) c.entry_at-y.ensures
    c.compare_open.ensures

pub returns-in_default-y : goal.returns-in_default-y
returns-in_default-y c =
    open_later _ _ _ _ _ (sym c.entry_at-x.ensures ∙ c.in-Assigned.is)
    (sym c.entry_at-y.ensures ∙ c.in_default-y.is)

pub value_of-requires : goal.value_of-requires
value_of-requires c =
    value_within _ _ _ _ _ c.requires.1 c.requires.0.left (sym c.entry_at-x.ensures ∙ c.in-Assigned.is)

pub value_of-requires-2 : goal.value_of-requires-2
value_of-requires-2 c =
    value_within _ _ _ _ _ c.requires.1 c.requires.0.right (sym c.entry_at-y.ensures ∙ c.in-Assigned-y.is)

pub returns : goal.returns
returns c =
    by_values _ _ _ _ _ _ (sym c.entry_at-x.ensures ∙ c.in-Assigned.is) (sym c.entry_at-y.ensures ∙ c.in-Assigned-y.is) _ _
    c.value_of.ensures c.value_of-2.ensures _ (bytes_compared _ _ _ c.cmp.ensures)
