-- Loose locals of a part as marks, a byte for each local: 1 where the part uses it.
--   Marks l depth n                 l begins with a term, and its locals are below depth and n more
--   Marked l depth before after r   that term takes r bytes, and its locals from depth on are marked, beside those marked before
use Rattle.std.specs.Prelude.{◌≡◌, cond, List, ℕ, ◌+◌, ◌≤◌, ◌<◌, length, get_or}
use Rattle.terms.specs.Figures.{numbers}
use Rattle.terms.specs.Term.{Term, size, uses, Closed}
use Rattle.records.specs.Parts.{Part, Ends}

pub record Marks (l : List ℕ) (depth n : ℕ) : Type 0 where
  pub tree : Term
  pub part : Part l 0 tree
  pub closed : Closed (depth + n) tree
  pub shallow : depth + size tree ≤ numbers
  pub least : 4 ≤ length l

pub record Marked (l : List ℕ) (depth : ℕ) (before after : List ℕ) (r : ℕ) : Type 0 where
  pub ends : Ends l 0 r
  pub marks : (t : Term) → Part l 0 t → (j : ℕ) → j < length before → get_or after j 0 ≡ cond (uses (j + depth) t) 1 (get_or before j 0)
