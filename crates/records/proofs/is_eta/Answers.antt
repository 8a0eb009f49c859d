-- `records::is_eta` meets its contract. By the first record, then by the last, then by what the walk over the head says. Assumes nothing.
use native.Mathlib.Omega.{arith}
use mathlib.Core.Path.{sym, ◌∙◌}
use Rattle.records.proofs.Parts.{tree_whole}
use Rattle.records.proofs.Tests.{eta_other_last}
use Rattle.records.proofs.Slices.{slice_length, head_slice, slice_end, eta_used_slice, eta_ends_slice}
use borrow.Author.Rules.{rules}
use Rattle.records.proofs.is_eta.Goals as goal

pub returns-then-not-innermost_at : goal.returns-then-not-innermost_at
returns-then-not-innermost_at c = eta_other_last _ c.if-s.false (sym c.innermost_at.ensures ∙ c.if-not-innermost_at.true)

pub ask_part-requires : goal.ask_part-requires
ask_part-requires c =
    let n = slice_length c.args.s.now 4 in
    (search (rules, head_slice, tree_whole), omega (arith, n))

pub overflow_add-result : goal.overflow_add-result
overflow_add-result c =
    let e = slice_end c.args.s.now 4 _ _ c.in-Some.ensures in
    omega (arith, e.within)

pub returns-in-Some : goal.returns-in-Some
returns-in-Some c =
    eta_ends_slice c.args.s.now c.if-s.false _ (sym c.innermost_at.ensures ∙ c.if-not-innermost_at.false) c.in-Some.ensures

pub returns-in-None : goal.returns-in-None
returns-in-None c = eta_used_slice c.args.s.now c.if-s.false c.in-None.ensures
