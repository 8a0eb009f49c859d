-- `listing::write_entry` meets its contract. An open entry is four zero bytes; an assigned one is two words, and its value is copied from
-- where its span says. Assumes nothing.
use mathlib.Core.Path.{◌∙◌, ap}
use lib.ListN.{length}
use native.Mathlib.Omega.{arith}
use Rattle.listing.proofs.Writers.{assigned_entry, wrote_open, wrote_assigned, entry_values_length}
use borrow.Author.Rules.{rules}
use Rattle.listing.proofs.write_entry.Goals as goal

pub returns-in_default : goal.returns-in_default
returns-in_default c = search (rules, wrote_open)

pub put_word-requires-3 : goal.put_word-requires-3
put_word-requires-3 c =
    let h = assigned_entry _ _ _ _ c.requires.stands c.in-Assigned.is in
    search rules

pub value_of-requires : goal.value_of-requires
value_of-requires c =
    (assigned_entry _ _ _ _ c.requires.stands c.in-Assigned.is).within

pub copy_into-requires : goal.copy_into-requires
copy_into-requires c =
    let h = assigned_entry _ _ _ _ c.requires.stands c.in-Assigned.is in
    omega (arith, ap length c.value_of.ensures ∙ ap length h.bytes ∙ entry_values_length c.requires.entry)

pub overflow_add-result : goal.overflow_add-result
overflow_add-result c =
    let h = assigned_entry _ _ _ _ c.requires.stands c.in-Assigned.is in
    search rules

pub returns : goal.returns
returns c = search (rules, wrote_assigned)
