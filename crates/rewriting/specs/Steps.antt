-- What the steps of sweep and rewrite answer.
--   FormWritten f o b after   whether the bytes f have room in the table o, where they are then written
--   SideSwept ..              what writing a swept form answers and leaves
--   SideNormalized ..         what writing a first normal form answers and leaves
use Rattle.std.specs.declared.result.Result.{Result}
use Rattle.std.specs.declared.result.Result.TheVariants.{Ok, Err}
use Rattle.refusals.specs.declared.Refusal.{Refusal}
use Rattle.std.specs.Prelude.{◌≡◌, Bool, true, false, List, ◌++◌, ℕ, ◌<◌, ◌≤◌, length}
use Rattle.terms.specs.Refusal.{Refused, Passed, swept_form_rows, output_rows}
use Rattle.refusals.specs.Judged.{number}
use Rattle.refusals.specs.Lent.{overwritten}
use Rattle.rewriting.specs.Operations.{right_side_rows, Written, WrittenNormal}

unfoldable pub FormWritten : List ℕ → List ℕ → Bool → List ℕ → Type 0
FormWritten f o true after = (length f ≤ length o) × (after ≡ overwritten f o)
FormWritten f o false after = (length o < length f) × (after ≡ o)

unfoldable pub SideSwept : List ℕ → List ℕ → List ℕ → List ℕ → Result ℕ Refusal → List ℕ → Type 0
SideSwept p l s o (Ok n) after = Passed (swept_form_rows p l s ++ output_rows p l s o) × Written p l s o n after
SideSwept p l s o (Err c) after = Refused (swept_form_rows p l s ++ output_rows p l s o) (number c) × (after ≡ o)

unfoldable pub SideNormalized : List ℕ → List ℕ → List ℕ → List ℕ → Result ℕ Refusal → List ℕ → Type 0
SideNormalized p l s o (Ok n) after = Passed (right_side_rows p l s o) × WrittenNormal p l s o n after
SideNormalized p l s o (Err c) after = Refused (right_side_rows p l s o) (number c) × (after ≡ o)
