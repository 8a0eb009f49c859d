-- Line 0 of a listing that isn't empty, with `k0` for its open variables, assigns values and is a match: filled by it, the left side sweeps
-- to the part. So rewrite's refusal 14 can't occur here. By the listing's promise on the fillings of a line. Assumes nothing.
use mathlib.Core.Path.{◌≡◌, refl}
use mathlib.Core.Option.{none, some}
use mathlib.Core.List.{List, [], ◌∷◌}
use Prim.Native.Nat.{ℕ, ◌<◌}
use lib.ListN.{length}
use Rattle.terms.specs.Figures.{variables}
use Rattle.terms.specs.Term.{Term, Below, Occurs}
use Rattle.terms.specs.Sweep.{sweep, fill}
use Rattle.terms.specs.Listing.{Line}
use Rattle.matching.specs.Lists.{Values, Extends}
use Rattle.matching.proofs.Lines.{assigns_more}
use Rattle.matching.proofs.Partial.{values_total, lists_full}
use Rattle.attempts.specs.Pairs.{ListedPair, line_zero, filling}
use Rattle.attempts.proofs.LineZero.{zero_in}

extends_filling : (l : Line) → Extends (filling l) l
extends_filling [] = tt
extends_filling (none ∷ l) = (tt, extends_filling l)
extends_filling (some v ∷ l) = (refl, extends_filling l)

module _ (p q : List ℕ) (t : Term) (x : ListedPair p q t) (h : 0 < length x.lines) where
  abbrev l : Line
  l = line_zero x.lines

  pub line_values_lem : Values (filling l)
  line_values_lem =
      values_total (length l) l
      (refl, assigns_more (λ i. Occurs i x.left) (λ i. Unit {0}) (λ i o. tt) l (x.full.assigns l (zero_in x.lines h)))

  -- "12 on the left included", and 14 not
  pub line_matches : Below variables x.left → sweep (fill (filling l) x.left) ≡ t
  line_matches b =
      (lists_full variables x.left t b x.lines x.full).sound (filling l) line_values_lem l (zero_in x.lines h) (extends_filling l)
