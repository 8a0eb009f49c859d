-- `instances::is_substituted_local` meets its contract. By whether the local is the one that is put for: then the argument, shifted,
-- must stand in the target, and else the local with its number outside. Assumes nothing.
use Rattle.instances.proofs.Instances.{substituted_copy, substituted_copy_no, substituted_local_kind, substituted_local_says}
use borrow.Author.Rules.{rules}
use Rattle.instances.proofs.is_substituted_local.Goals as goal

pub returns-in_err-second : goal.returns-in_err-second
returns-in_err-second c =
    rw c.from_residual.ensures (substituted_copy_no _ _ _ _ _ c.requires.1 c.number_at-n.ensures.0 c.if-n-k.true c.in_err-second.ensures)

pub returns-then-n-k : goal.returns-then-n-k
returns-then-n-k c =
    substituted_copy _ _ _ _ _ c.requires.1 c.number_at-n.ensures.0 c.if-n-k.true _ c.requires.0.body c.in_ok-second.ensures

pub returns-then-t : goal.returns-then-t
returns-then-t c = search (rules, substituted_local_kind)

pub returns : goal.returns
returns c =
    rw c.then_some.ensures
    (substituted_local_says _ _ _ _ _ c.requires.1 c.number_at-n.ensures.0 c.if-n-k.false _ c.unshifted-m.ensures.0 _ c.requires.0.body
    c.requires.0.target c.if-t.false c.number_at.ensures.0)
