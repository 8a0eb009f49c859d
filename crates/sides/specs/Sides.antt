-- What becomes of a filled side.
--   SweptSide p l s out r after   its swept form, or that some part's is too long
--   Matched p l s r m             whether it sweeps to the recipe, or that some part's is too long
--   NormalSide p l s r after      its first normal form after at least one sweep and at most 64, or why there is none
use Rattle.std.specs.declared.result.Result.{Result}
use Rattle.std.specs.declared.result.Result.TheVariants.{Ok, Err}
use Rattle.refusals.specs.declared.Refusal.{Refusal}
use Rattle.normalizing.specs.declared.NormalFault.{NormalFault}
use Rattle.std.specs.declared.option.Option.{Option}
use Rattle.std.specs.Prelude.{Bool, List, ℕ}
use Rattle.terms.specs.Figures.{most_sweeps}
use Rattle.terms.specs.Term.{Term}
use Rattle.terms.specs.Refusal.{Refused, Passed, Filled, Matches, swept_form_rows}
use Rattle.records.specs.Tests.{Says}
use Rattle.sweeping.specs.Swept.{FormSwept}
use Rattle.refusals.specs.Judged.{number}
use Rattle.normalizing.specs.Normalized.{Normalized}

-- in a table of 256 records
abbrev pub SweptSide : List ℕ → List ℕ → List ℕ → List ℕ → Option ℕ → List ℕ → Type 0
SweptSide p l s out r after = (t : Term) → Filled p l s t → FormSwept t out r after

unfoldable pub Matched : List ℕ → List ℕ → List ℕ → List ℕ → Result Bool Refusal → Type 0
Matched p l s r (Ok b) = Passed (swept_form_rows p l s) × Says b (Matches p l s r)
Matched p l s r (Err c) = Refused (swept_form_rows p l s) (number c)

abbrev pub NormalSide : List ℕ → List ℕ → List ℕ → Result ℕ NormalFault → List ℕ → Type 0
NormalSide p l s r after = (t : Term) → Filled p l s t → Normalized most_sweeps 1 t r after
