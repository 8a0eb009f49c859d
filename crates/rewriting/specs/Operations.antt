-- What check, sweep and rewrite answer, and what they leave in the tables they were lent. Document 01, section "Operations", and of rewrite
-- document 02's request "Rewritten recipes that can be rewritten again".
--   lent_for_check ..  the rows of refusal of each operation that its tables decide, in the documents' order
--   check_rows ..      all of its rows
--   Checked, Swept, Rewritten   what an answer says, by its cases
--   Written p l s o n b        the swept form of the filled table p, of n records, is written to o
--   WrittenNormal p l s o n b  its first normal form is, after at least one sweep
use Rattle.std.specs.declared.result.Result.{Result}
use Rattle.std.specs.declared.result.Result.TheVariants.{Ok, Err}
use Rattle.refusals.specs.declared.Refusal.{Refusal}
use Rattle.std.specs.Prelude.{Bool, true, false, ◌≡◌, List, ◌++◌, ◌⊎◌, ℕ}
use Rattle.terms.specs.Figures.{most_sweeps}
use Rattle.terms.specs.Term.{Term, size}
use Rattle.terms.specs.Table.{encode}
use Rattle.terms.specs.Sweep.{sweep}
use Rattle.terms.specs.Normalization.{FirstNormal}
use Rattle.terms.specs.Refusal.{Row, Refused, Passed, Filled, Matches, OccursIn, assignment_table_rows, output_table_rows, pattern_rows}
use Rattle.terms.specs.Refusal.{recipe_rows, assignment_rows}
use Rattle.terms.specs.Refusal.{swept_form_rows, output_rows, unmatched_rows, normal_form_rows, normal_output_rows}
use Rattle.refusals.specs.Judged.{number}
use Rattle.refusals.specs.Lent.{overwritten}

-- "Order: 8; pattern 1, 2, 3; recipe 4 to 7; right side 1, 2, 3; then 9, 10 (list), or 11, 12 on left, 14, 12 on right, 13. For right, 11
-- covers its variables too."
-- check: line l
abbrev pub lent_for_check : List ℕ → List ℕ → List ℕ → List ℕ → List ℕ → List Row
lent_for_check p r l s w = (assignment_table_rows l s w ++ (pattern_rows p ++ recipe_rows r)) ++ assignment_rows (OccursIn p) l s

abbrev pub check_rows : List ℕ → List ℕ → List ℕ → List ℕ → List ℕ → List Row
check_rows p r l s w = lent_for_check p r l s w ++ swept_form_rows p l s

-- sweep: output table o
abbrev pub lent_for_sweep : List ℕ → List ℕ → List ℕ → List ℕ → List ℕ → List Row
lent_for_sweep p l s o w = (assignment_table_rows l s w ++ (output_table_rows o ++ pattern_rows p)) ++ assignment_rows (OccursIn p) l s

abbrev pub sweep_rows : List ℕ → List ℕ → List ℕ → List ℕ → List ℕ → List Row
sweep_rows p l s o w = lent_for_sweep p l s o w ++ (swept_form_rows p l s ++ output_rows p l s o)

-- rewrite: left side p, right side q
abbrev pub lent_for_rewrite : List ℕ → List ℕ → List ℕ → List ℕ → List ℕ → List ℕ → List ℕ → List Row
lent_for_rewrite p q r l s o w =
    (assignment_table_rows l s w ++ (output_table_rows o ++ (pattern_rows p ++ (recipe_rows r ++ pattern_rows q))))
    ++ assignment_rows (λ i. OccursIn p i ⊎ OccursIn q i) l s

-- the rows of the filled right side, which is swept "at least once": "Number 12 applies to each sweep, 13 here and later to what is
-- written."; "15 [..] placed after 12 on the right side"
abbrev pub right_side_rows : List ℕ → List ℕ → List ℕ → List ℕ → List Row
right_side_rows q l s o = normal_form_rows (Filled q l s) 1 ++ normal_output_rows (Filled q l s) 1 o

abbrev pub rewrite_rows : List ℕ → List ℕ → List ℕ → List ℕ → List ℕ → List ℕ → List ℕ → List Row
rewrite_rows p q r l s o w =
    lent_for_rewrite p q r l s o w ++ (swept_form_rows p l s ++ (unmatched_rows p l s r ++ right_side_rows q l s o))

-- "gives yes or no"
unfoldable pub Checked : List ℕ → List ℕ → List ℕ → List ℕ → List ℕ → Result Bool Refusal → Type 0
Checked p r l s w (Ok true) = Passed (check_rows p r l s w) × Matches p l s r
Checked p r l s w (Ok false) = Passed (check_rows p r l s w) × ¬ Matches p l s r
Checked p r l s w (Err c) = Refused (check_rows p r l s w) (number c)

-- the swept form of the filled table p, of n records, is written to o
pub record Written (p l s o : List ℕ) (n : ℕ) (after : List ℕ) : Type 0 where
  pub term : Term
  pub filled : Filled p l s term
  pub records : n ≡ size (sweep term)
  pub bytes : after ≡ overwritten (encode (sweep term)) o

-- "writes the swept form of the filled pattern; gives its record count"
unfoldable pub Swept : List ℕ → List ℕ → List ℕ → List ℕ → List ℕ → Result ℕ Refusal → List ℕ → Type 0
Swept p l s o w (Ok n) after = Passed (sweep_rows p l s o w) × Written p l s o n after
Swept p l s o w (Err c) after = Refused (sweep_rows p l s o w) (number c) × (after ≡ o)

-- "sweeps the filled right side again and again, at least once, and gives the first form that is normal"; "bytes behind what is written
-- stay"
pub record WrittenNormal (p l s o : List ℕ) (n : ℕ) (after : List ℕ) : Type 0 where
  pub term : Term
  pub filled : Filled p l s term
  pub form : Term
  pub first : FirstNormal most_sweeps 1 term form
  pub records : n ≡ size form
  pub bytes : after ≡ overwritten (encode form) o

-- "if the assignment is a match of left, writes the swept form of right, as sweep does", by document 02 its first normal form; a refusal
-- "leaves all tables as they were"
unfoldable pub Rewritten : List ℕ → List ℕ → List ℕ → List ℕ → List ℕ → List ℕ → List ℕ → Result ℕ Refusal → List ℕ → Type 0
Rewritten p q r l s o w (Ok n) after = Passed (rewrite_rows p q r l s o w) × WrittenNormal q l s o n after
Rewritten p q r l s o w (Err c) after = Refused (rewrite_rows p q r l s o w) (number c) × (after ≡ o)
