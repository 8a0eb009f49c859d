-- The value of a variable that is applied to pairs of constants, read off two targets. Each target is given by a list that begins with it;
-- bytes may follow behind it.
--   Joins P q F S d room o        F and S begin with terms, below d binders, and there is room for their joined term from byte o on, before
--                                 byte `room`
--   Alike P q F S d               those terms are joined if their first records have the same number, and then as the first of them,
--                                 shifted
--   Joint P q d a b out o after   the terms a and b have a joined term, which was written into out from byte o on
--   JoinAnswered, Joined P q F S d out o after r   that holds of the terms that F and S begin with, and the first of them takes as many
--                                 bytes as the walk r went; or they have no joined term
--   Encloses b n room o           a body with the table b can be enclosed in n abstractions, with room for that from byte o on, before byte
--                                 `room`
--   Enclosed b n out o after r    what they come to was written into out from byte o on, up to byte r
use Rattle.std.specs.declared.option.Option.{Option}
use Rattle.std.specs.declared.option.Option.TheVariants.{Some, None}
use Rattle.std.specs.Prelude.{◌≡◌, cond, List, ℕ, ◌+◌, ◌*◌, ◌≤◌, eqb, length}
use Rattle.std.proofs.Math.Option.{some, none}
use Rattle.std.proofs.lemmas.List.Edits.{sets}
use Rattle.terms.specs.Figures.{numbers, pattern_records, swept_records, table_bytes}
use Rattle.terms.specs.Term.{Term, size, shift, Closed}
use Rattle.terms.specs.Table.{encode}
use Rattle.matching.specs.Repeated.{join, enclose}
use Rattle.records.specs.Record.{number_at}
use Rattle.records.specs.Parts.{Part, Whole, Ends}
use Rattle.substitution.specs.Writers.{NumbersFit}
use Rattle.joins.specs.declared.pairs.Pairs.{Pairs}
use Rattle.joins.specs.Pairs.{pairs_of, Reads}

pub record Joins (P : List ℕ) (q : Pairs) (F S : List ℕ) (d room o : ℕ) : Type 0 where
  pub reads : Reads P q
  pub tree : Term
  pub part : Part F 0 tree
  pub other : Whole S 0
  pub fits : NumbersFit (shift q.count d tree)
  pub enough : o + 4 * size tree ≤ room
  pub shallow : d + size tree + pattern_records ≤ numbers
  pub least : 4 ≤ length F
  pub other_least : 4 ≤ length S
  pub first : o + 4 ≤ room
  pub few : d + pattern_records + 1 ≤ numbers
  pub most : room ≤ table_bytes

pub record Alike (P : List ℕ) (q : Pairs) (F S : List ℕ) (d : ℕ) : Type 0 where
  pub is : (a b : Term) → Part F 0 a → Part S 0 b
      → join d (pairs_of P q) a b ≡ cond (eqb (number_at F 0) (number_at S 0)) (some (shift q.count d a)) none

pub record Joint (P : List ℕ) (q : Pairs) (d : ℕ) (a b : Term) (out : List ℕ) (o : ℕ) (after : List ℕ) : Type 0 where
  pub body : Term
  pub is : join d (pairs_of P q) a b ≡ some body
  pub bytes : after ≡ sets out o (encode body)

unfoldable pub JoinAnswered : List ℕ → Pairs → List ℕ → List ℕ → ℕ → List ℕ → ℕ → List ℕ → Option ℕ → Type 0
JoinAnswered P q F S d out o after (Some h) = Ends F 0 h × ((a b : Term) → Part F 0 a → Part S 0 b → Joint P q d a b out o after)
JoinAnswered P q F S d out o after None = (a b : Term) → Part F 0 a → Part S 0 b → join d (pairs_of P q) a b ≡ none

pub record Joined (P : List ℕ) (q : Pairs) (F S : List ℕ) (d : ℕ) (out : List ℕ) (o : ℕ) (after : List ℕ) (r : Option ℕ) : Type 0 where
  pub answers : JoinAnswered P q F S d out o after r

pub record Encloses (b : List ℕ) (n room o : ℕ) : Type 0 where
  pub body : Term
  pub bytes : b ≡ encode body
  pub least : 4 ≤ length b
  pub most : length b + 4 * n ≤ 4 * swept_records
  pub depth : ℕ
  pub shallow : depth + n + swept_records ≤ numbers
  pub closed : Closed (depth + n) body
  pub enough : o + length b + 4 * n ≤ room

pub record Enclosed (b : List ℕ) (n : ℕ) (out : List ℕ) (o : ℕ) (after : List ℕ) (r : ℕ) : Type 0 where
  pub end : (t : Term) → b ≡ encode t → r ≡ o + 4 * size (enclose n t)
  pub bytes : (t : Term) → b ≡ encode t → after ≡ sets out o (encode (enclose n t))
  pub most : r ≤ o + length b + 4 * n
  pub more : o ≤ r
