-- What list has written can be printed. Its answer is a full listing in tables, and each line of one has an entry for each variable.
-- Assumes nothing.
use mathlib.Core.Path.{◌≡◌, subst}
use mathlib.Core.List.{List}
use Prim.Native.Nat.{ℕ, ◌≤◌}
use lib.ListN.{length}
use Rattle.std.specs.declared.result.Result.{Result}
use Rattle.std.specs.declared.result.Result.TheVariants.{Ok}
use Rattle.refusals.specs.declared.Refusal.{Refusal}
use Rattle.terms.specs.Figures.{table_bytes}
use Rattle.enumeration.specs.Written.{WrittenLines}
use Rattle.matcher.specs.Operations.{Listed}
use Rattle.printing.specs.Text.{Printable}
use Rattle.printing.proofs.Listings.{printable}

written_printable : (p r l s : List ℕ) (n : ℕ) (L X : List ℕ) → WrittenLines p r l s n L X → length L ≤ table_bytes
    → length X ≤ table_bytes → Printable n L X
written_printable p r l s n L X f g h =
    printable n L X _ _ f.lines f.listing_of.full.entries f.count f.line_bytes f.value_bytes g h

pub listed_printable :
    (p r l s w : List ℕ) (a : Result ℕ Refusal) (L X : List ℕ) → Listed p r l s w a L X → (n : ℕ) → a ≡ Ok n → length L ≤ table_bytes
    → length X ≤ table_bytes
    → Printable n L X
unfolding Listed
listed_printable p r l s w a L X x n e g h =
    let y : Listed p r l s w (Ok n) L X = subst (λ (b : Result ℕ Refusal). Listed p r l s w b L X) e x in
    written_printable p r l s n L X y.1 g h
