-- What trying a rule on a part needs, and what its steps answer.
--   FormTable f n u                the table f begins with the n records of u, a closed term without variables, at most 256
--   PairAnswers a f o              the answer a, with the table f, is the outcome o
--   PairAnswered W a f             so it is of an outcome of which W holds
--   open_first n f c, open_count c   the two words f and c of an entry, or those of record n if it is open
--   EntryFilled l n m i, EntryKept l m i   variable i's entry of the line m is that of l, filled with record n if it is open, or as it is
--   EntryWritten l n i m           so the first is of variable i, and the second of all others
--   FilledOpen l n m k             so the first is of the variables below k, and the second of the others
--   SidesFilled p q l s            the tables p and q of two sides can be filled from the line l and the value table s
--   FilledBy p l s φ               the line l and the value table s store φ i for each variable i of p
--   SidesRewritten ..              what comes of the sides, filled and swept
--   ListingTables ..               the tables of a full listing that has room
--   UsableTold .., LineUsed ..     whether its line 0 can be used, and what comes of using it
--   PairTables ..                  all that trying a rule is lent
use Rattle.std.specs.declared.result.Result.{Result}
use Rattle.std.specs.declared.option.Option.{Option}
use Rattle.std.specs.declared.result.Result.TheVariants.{Ok, Err}
use Rattle.std.specs.declared.option.Option.TheVariants.{Some, None}
use Rattle.refusals.specs.declared.Refusal.{Refusal}
use Rattle.std.specs.Prelude.{◌≡◌, Bool, cond, List, ◌++◌, ℕ, ◌+◌, ◌*◌, ◌≤◌, ◌<◌, eqb, length}
use Rattle.terms.specs.Figures.{variables, recipe_records, swept_records, table_bytes}
use Rattle.terms.specs.Term.{Term, size, Closed, Below, Normal, Occurs}
use Rattle.terms.specs.Table.{IsTable}
use Rattle.terms.specs.Listing.{Line, Full}
use Rattle.terms.specs.Layout.{line_table, value_table, word_at, Stored}
use Rattle.terms.specs.Refusal.{Passed, listing_rows}
use Rattle.records.specs.Tests.{Says}
use Rattle.records.specs.Checks.{Pattern, Recipe}
use Rattle.normalizing.specs.Normalized.{Begins}
use Rattle.refusals.specs.Judged.{number, FilledTables}
use Rattle.attempts.specs.Pairs.{full_lines, full_records, PairOutcome, next, form, stop, line_zero, Usable, filling, PairRewritten}

pub record FormTable (f : List ℕ) (n : ℕ) (u : Term) : Type 0 where
  pub begins : Begins f n u
  pub few : n ≤ swept_records
  pub closed : Closed 0 u
  pub below : Below 0 u

unfoldable pub PairAnswers : Result (Option ℕ) Refusal → List ℕ → PairOutcome → Type 0
PairAnswers (Ok None) f o = o ≡ next
PairAnswers (Ok (Some n)) f o = (u : Term) × (o ≡ form u) × FormTable f n u
PairAnswers (Err c) f o = o ≡ stop (number c)

pub record PairAnswered (W : PairOutcome → Type 0) (a : Result (Option ℕ) Refusal) (f : List ℕ) : Type 0 where
  pub outcome : PairOutcome
  pub holds : W outcome
  pub answers : PairAnswers a f outcome

abbrev pub open_first : ℕ → ℕ → ℕ → ℕ
open_first n first count = cond (eqb count 0) n first

abbrev pub open_count : ℕ → ℕ
open_count count = cond (eqb count 0) 1 count

pub record EntryFilled (l : List ℕ) (n : ℕ) (m : List ℕ) (i : ℕ) : Type 0 where
  pub first : word_at m (4 * i) ≡ open_first n (word_at l (4 * i)) (word_at l (4 * i + 2))
  pub count : word_at m (4 * i + 2) ≡ open_count (word_at l (4 * i + 2))

pub record EntryKept (l m : List ℕ) (i : ℕ) : Type 0 where
  pub first : word_at m (4 * i) ≡ word_at l (4 * i)
  pub count : word_at m (4 * i + 2) ≡ word_at l (4 * i + 2)

pub record EntryWritten (l : List ℕ) (n i : ℕ) (m : List ℕ) : Type 0 where
  pub length_is : length m ≡ length l
  pub filled : EntryFilled l n m i
  pub kept : (k : ℕ) → ¬ (k ≡ i) → EntryKept l m k

pub record FilledOpen (l : List ℕ) (n : ℕ) (m : List ℕ) (k : ℕ) : Type 0 where
  pub length_is : length m ≡ length l
  pub filled : (i : ℕ) → i < k → EntryFilled l n m i
  pub kept : (i : ℕ) → k ≤ i → EntryKept l m i

abbrev pub SidesFilled : List ℕ → List ℕ → List ℕ → List ℕ → Type 0
SidesFilled p q l s = FilledTables p l s × FilledTables q l s

abbrev pub FilledBy : Term → List ℕ → List ℕ → (ℕ → Term) → Type 0
FilledBy p l s φ = (i : ℕ) → Occurs i p → Stored l s i (φ i)

-- what rewriting the sides shows
abbrev pub SidesRewritten : List ℕ → List ℕ → List ℕ → List ℕ → Result (Option ℕ) Refusal → List ℕ → Type 0
SidesRewritten p q l s a f =
    (u v : Term) (φ : ℕ → Term) → IsTable p u → IsTable q v → FilledBy u l s φ → FilledBy v l s φ → PairAnswered (PairRewritten u v φ) a f

pub record ListingTables (p q : List ℕ) (t : Term) (n : ℕ) (lines values : List ℕ) : Type 0 where
  pub left : Pattern p
  pub right : Pattern q
  pub normal : Normal t
  pub few : size t ≤ recipe_records
  pub ls : List Line
  pub full : Full variables left.tree t ls
  pub room : Passed (listing_rows full_lines full_records ls)
  pub count : n ≡ length ls
  pub lines_behind : List ℕ
  pub values_behind : List ℕ
  pub line_bytes : lines ≡ line_table 0 ls ++ lines_behind
  pub value_bytes : values ≡ value_table ls ++ values_behind
  pub lines_length : length lines ≡ table_bytes
  pub values_length : length values ≡ table_bytes

pub record PairTables (p q t lines values work : List ℕ) : Type 0 where
  pub left : Pattern p
  pub right : Pattern q
  pub part : Recipe t
  pub lines_length : length lines ≡ table_bytes
  pub values_length : length values ≡ table_bytes
  pub area : length work ≡ table_bytes

abbrev pub UsableTold : List ℕ → ℕ → List ℕ → List ℕ → Bool → Type 0
UsableTold q n lines values b = (p : List ℕ) (t : Term) (x : ListingTables p q t n lines values) → Says b (Usable x.right.tree x.ls)

abbrev pub LineUsed : List ℕ → List ℕ → ℕ → List ℕ → List ℕ → Result (Option ℕ) Refusal → List ℕ → Type 0
LineUsed p q n lines values a f =
    (t : Term) (x : ListingTables p q t n lines values)
    → PairAnswered (PairRewritten x.left.tree x.right.tree (filling (line_zero x.ls))) a f
