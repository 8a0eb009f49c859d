-- A deferred goal whose part has no open variable, or whose part's swept form is known.
--   HasEntries l               l is the table of a term whose variables have entries
--   OpenAt l a k               the k-th record of the table l is a variable whose entry of a is open
--   AllAssigned a t            the entries a assign each variable of t
--   Comparing W r b            b is the table of a swept form, which the targets of the goal r can be compared with
--   FormCompared W r b q       q says whether it meets the goal r
use Rattle.std.specs.Prelude.{◌≡◌, Bool, List, ℕ, ◌*◌, ◌≤◌, length, get_or}
use Rattle.terms.specs.Figures.{variables, table_bytes}
use Rattle.terms.specs.Term.{Term, Occurs, Below}
use Rattle.terms.specs.Table.{encode, variable_kind}
use Rattle.records.specs.Record.{number_at}
use Rattle.records.specs.Parts.{Part, Whole}
use Rattle.records.specs.Tests.{Says}
use Rattle.assignments.specs.declared.Entry.{Entry}
use Rattle.assignments.specs.declared.Entry.TheVariants.{Open}
use Rattle.sweeping.specs.Swept.{swept_bytes}
use Rattle.agenda.specs.declared.StoredGoal.{StoredGoal}
use Rattle.builds.specs.Builds.{Solves}

pub record HasEntries (l : List ℕ) : Type 0 where
  pub tree : Term
  pub bytes : l ≡ encode tree
  pub below : Below variables tree

pub record OpenAt (l : List ℕ) (a : List Entry) (k : ℕ) : Type 0 where
  pub kind : get_or l (4 * k) 0 ≡ variable_kind
  pub is : get_or a (number_at l (4 * k)) Open ≡ Open

abbrev pub AllAssigned : List Entry → Term → Type 0
AllAssigned a t = (i : ℕ) → Occurs i t → ¬ (get_or a i Open ≡ Open)

pub record Comparing (W : List ℕ) (r : StoredGoal) (b : List ℕ) : Type 0 where
  pub tree : Term
  pub bytes : b ≡ encode tree
  pub most : length b ≤ swept_bytes
  pub whole : length W ≡ table_bytes
  pub target : Whole W r.target
  pub argument : ¬ (r.argument ≡ 0) → Whole W r.argument

pub record FormCompared (W : List ℕ) (r : StoredGoal) (b : List ℕ) (q : Bool) : Type 0 where
  pub matches : r.argument ≡ 0 → (x t : Term) → b ≡ encode x → Part W r.target t → Says q (x ≡ t)
  pub builds : ¬ (r.argument ≡ 0) → (x e t : Term) → b ≡ encode x → Part W r.argument e → Part W r.target t → Says q
      (Solves x e t)
