-- `attempts::use_listing` meets its contract. Assumes nothing.
use Rattle.attempts.proofs.Listings.{passed_unusable, usable_some, used_listing}
use borrow.Author.Rules.{rules}
use Rattle.attempts.proofs.use_listing.Goals as goal

pub use_line-requires : goal.use_line-requires
use_line-requires c = search (rules, usable_some)

pub returns-then-is_usable : goal.returns-then-is_usable
returns-then-is_usable c = search (rules, used_listing)

pub returns : goal.returns
returns c = search (rules, passed_unusable)
