-- What a search leaves and answers.
--   TallyBounds m L X t   the bounds of the tables and of the tally with which a search begins
--   Begins k ..           what a search needs
--   Searched k Q ..       what a search for the assignments of the question Q leaves and answers
use Rattle.std.specs.Prelude.{◌≡◌, List, ℕ, suc, ◌*◌, ◌<◌, ◌≤◌, length, take}
use Rattle.terms.specs.Figures.{table_bytes}
use Rattle.terms.specs.Listing.{Line}
use Rattle.matching.specs.Goals.{Goal}
use Rattle.assignments.specs.declared.Entry.{Entry}
use Rattle.listing.specs.declared.Tally.{Tally}
use Rattle.listing.specs.Outcome.{line_records, outcome}
use Rattle.agenda.specs.declared.Agenda.{Agenda}
use Rattle.agenda.specs.State.{State, Ready}
use Rattle.agenda.specs.Moves.{Question}
use Rattle.search.specs.Collected.{Tallied}

-- a line has at most eight values of 160 records
pub record TallyBounds (limit : ℕ) (L X : List ℕ) (t : Tally) : Type 0 where
  pub lines : length L ≤ table_bytes
  pub values : length X ≤ table_bytes
  pub limited : limit < table_bytes
  pub upto : t.lines ≤ limit
  pub records : t.records ≤ line_records * t.lines

pub record Begins (k : ℕ) (P W : List ℕ) (s : Agenda) (a : List Entry) (limit : ℕ) (L X : List ℕ) (done : Tally) : Type 0 where
  pub ready : Ready k P W s a
  pub counts : TallyBounds limit L X done

-- what stands below the first free byte stays, so that the next search can begin there
pub record Searched (k : ℕ) (Q : Question) (P W : List ℕ) (s : Agenda) (a : List Entry) (limit : ℕ) (L X : List ℕ) (done : Tally)
    (W' L' X' : List ℕ) (r : Tally) : Type 0 where
  pub kept : take s.top W' ≡ take s.top W
  pub upto : r.lines ≤ suc limit
  pub records : r.records ≤ line_records * r.lines
  pub answer : (gs hs : List Goal) (l : Line) → State k P W s a gs hs l → Tallied P (Q gs hs l) limit (outcome L X done) (outcome L' X' r)
