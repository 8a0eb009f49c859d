-- `attempts::try_rule` meets its contract. Assumes nothing.
use Rattle.attempts.proofs.Listings.{passed_excluded, listing_tables, listing_refused}
use native.Mathlib.Omega.{arith}
use Rattle.std.proofs.lemmas.Result.{err_from_is_err_and}
use borrow.Author.Rules.{rules}
use Rattle.attempts.proofs.try_rule.Goals as goal

pub returns-then-heads_exclude : goal.returns-then-heads_exclude
returns-then-heads_exclude c = search (rules, passed_excluded)

pub use_listing-requires : goal.use_listing-requires
use_listing-requires c =
    let part = c.requires.part in (
      part.tree,
      listing_tables _ _ _ _ _ _ c.requires _ part.table.0 _ _ _ c.enumerate.ensures _ c.in_ok-n.was
          (omega (arith, c.enumerate.auto.lines)) (omega (arith, c.enumerate.auto.values)),
    )

pub returns-in_err-n : goal.returns-in_err-n
returns-in_err-n c =
    let p = err_from_is_err_and c.from_residual.result c.from_residual.ensures.1 in
    λ t y. rw (p.1, p.2) (listing_refused _ _ _ _ _ _ c.requires _ y _ _ _ c.enumerate.ensures _ c.in_err-n.was _)

pub returns : goal.returns
returns c =
    λ t y. c.use_listing.ensures t (listing_tables _ _ _ _ _ _ c.requires t y _ _ _ c.enumerate.ensures _ c.in_ok-n.was
    (omega (arith, c.enumerate.auto.lines)) (omega (arith, c.enumerate.auto.values)))
