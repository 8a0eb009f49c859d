-- What the steps of an easy goal need, and what they leave.
--   Opens P W s a r        a state stands there with an easy goal, the first of which is the stored goal r
--   Plain P i              the record of P at byte i is a local or a constant
--   Names P W s a r i      Opens, and the part is variable i
--   SameRecord P i W j     the records of P at byte i and of W at byte j have one kind and one number
--   Expandable W at o      the term t that stands in W from byte `at` on can be written as `@ t #0`, t shifted by one, from byte o on
--   Expanded W at o W' r   it was, up to byte r
use Rattle.std.specs.Prelude.{◌≡◌, List, ℕ, ◌+◌, ◌*◌, ◌%◌, ◌<◌, ◌≤◌, length, get_or}
use Rattle.std.proofs.lemmas.List.Edits.{sets}
use Rattle.terms.specs.Figures.{variables, pattern_records, value_records, table_bytes}
use Rattle.terms.specs.Term.{Term, app, loc, size, shift, Closed}
use Rattle.terms.specs.Table.{encode, application_kind, abstraction_kind, variable_kind}
use Rattle.records.specs.Record.{number_at}
use Rattle.records.specs.Parts.{Part, Whole}
use Rattle.assignments.specs.declared.Entry.{Entry}
use Rattle.agenda.specs.declared.Agenda.{Agenda}
use Rattle.agenda.specs.declared.StoredGoal.{StoredGoal}
use Rattle.agenda.specs.State.{goal_bytes, height_bytes, target_bytes, record_weight, Ready}
use Rattle.agenda.specs.Stored.{StoredAt, StoredFits}

pub record Opens (P W : List ℕ) (s : Agenda) (a : List Entry) (r : StoredGoal) : Type 0 where
  pub ready : Ready 0 P W s a
  pub some : 0 < s.easy
  pub stored_goal : StoredAt W s.easy r
  pub fits : StoredFits r
  pub part : Whole P r.part
  pub target : Whole W r.target
  pub part_even : r.part % 4 ≡ 0
  pub origin_even : r.origin % 4 ≡ 0
  pub target_even : r.target % 4 ≡ 0
  pub next_even : r.next % 4 ≡ 0
  pub falls : r.next < s.easy
  pub below : r.target + 4 ≤ s.top
  pub low : height_bytes ≤ r.origin
  pub within : r.target + 4 ≤ r.origin + target_bytes
  -- a goal has 2,000 bytes for each record of its part, and eight for itself
  pub room : s.top + goal_bytes + record_weight ≤ table_bytes

pub record Plain (P : List ℕ) (i : ℕ) : Type 0 where
  pub no_application : ¬ (get_or P i 0 ≡ application_kind)
  pub no_abstraction : ¬ (get_or P i 0 ≡ abstraction_kind)
  pub no_variable : ¬ (get_or P i 0 ≡ variable_kind)

pub record Names (P W : List ℕ) (s : Agenda) (a : List Entry) (r : StoredGoal) (i : ℕ) : Type 0 where
  pub opens : Opens P W s a r
  pub kind : get_or P r.part 0 ≡ variable_kind
  pub number : i ≡ number_at P r.part
  pub below : i < variables

pub record SameRecord (P : List ℕ) (i : ℕ) (W : List ℕ) (j : ℕ) : Type 0 where
  pub kind : get_or P i 0 ≡ get_or W j 0
  pub number : number_at P i ≡ number_at W j

pub record Expandable (W : List ℕ) (at o : ℕ) : Type 0 where
  pub tree : Term
  pub part : Part W at tree
  pub closed : Closed pattern_records tree
  pub short : size tree ≤ value_records
  pub least : at + 4 ≤ length W
  pub room : o + 4 * (value_records + 2) ≤ length W

pub record Expanded (W : List ℕ) (at o : ℕ) (W' : List ℕ) (r : ℕ) : Type 0 where
  pub exact : (t : Term) → Part W at t → r ≡ o + 4 * size (app (shift 1 0 t) (loc 0))
  pub bytes : (t : Term) → Part W at t → W' ≡ sets W o (encode (app (shift 1 0 t) (loc 0)))
  pub more : o ≤ r
  pub most : r ≤ o + 4 * (value_records + 2)
