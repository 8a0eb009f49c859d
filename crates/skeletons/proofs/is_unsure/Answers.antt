-- `skeletons::is_unsure` meets its contract: each test is one case of the definition, by the kinds of the body and of its argument. Assumes
-- nothing.
use native.Mathlib.Omega.{arith}
use Rattle.records.proofs.Slices.{whole_slice, slice_length}
use Rattle.skeletons.proofs.Tests.{tree_head_whole}
use Rattle.skeletons.proofs.Tests.{none_is, sure_exact}
use borrow.Author.Rules.{rules}
use Rattle.skeletons.proofs.is_unsure.Goals as goal

pub exact_part-requires : goal.exact_part-requires
exact_part-requires c =
    (search (rules, whole_slice, tree_head_whole), omega (arith, slice_length c.args.body.now 4))

pub returns : goal.returns
returns c = rw (none_is _ _ c.is_none.ensures) (search (rules, sure_exact))
