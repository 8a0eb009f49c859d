-- The order of lines by their bytes: comparing two lines, merging lines in order, and sorting lines.
--   ComparesAs R x y c                   c says how x stands to y in the order R
--   open_against e                       how an open entry stands to the entry e
--   Standing L i X l                     the entries l, of the variables from i on, stand in the bytes L of a line, their values in X one
--                                        behind another
--   LinesComparable A B i X              entries of the variables from i on stand in A and in B
--   EntriesCompared A B i X c            c says how the entry of variable i in A stands to the one in B
--   TwoLines A B X                       A and B begin with lines whose values stand in X
--   Ordered A B X r                      r says whether the line that A begins with comes before the one that B begins with
--   Disjoint ls ms                       no line is in both
--   Leads ls ms                          ls has a first line, and it comes before all others of ls and ms
--   Either r P Q                         P if the test r holds, and else Q
--   LeadsNext A B X r                    r says whether the first of the lines of A and B, each in order and none in both, is one of A
--   Merging A i B j X                    lines stand in A from byte i on and in B from byte j on
--   NextChosen A i B j X r               r says of which of them the first is, and there is one
--   MergesLine A i B j X out             what writing the first of them into out needs
--   SortedRun X ls n out o after         n bytes were written into out from byte o on: the lines ls in order
--   Merged A B X out o after             the lines of A and of B, each in order and none in both, were so written
--   MergedLine A i B j X out after k m   the first line was written from byte i + j on; the others, from bytes k and m on, are still to
--                                        merge
--   Merges A B X out                     what merging the lines of A and of B into out needs
--   Halves L X work h                    what merging the lines of L before byte h with those from there on needs
--   Sorts L X work                       what sorting the lines of L needs
--   InOrder L X after                    after is the lines of L in order
use Rattle.std.specs.Prelude.{◌≡◌, Bool, true, false, List, [], ◌∷◌, ◌++◌, ℕ, ◌+◌, ◌*◌, ◌≤◌, ◌<◌, length, take, drop}
use Rattle.std.proofs.Math.Option.{Option}
use Rattle.std.proofs.lemmas.List.Edits.{sets}
use Rattle.terms.specs.Figures.{variables}
use Rattle.terms.specs.Term.{Term}
use Rattle.terms.specs.Listing.{In, Line, Before, Less, Rising}
use Rattle.terms.specs.Layout.{line_bytes, line_values, line_value_records}
use Rattle.terms.specs.Members.{Distinct}
use Rattle.records.specs.Tests.{Says}
use Rattle.assignments.specs.declared.Entry.{Entry}
use Rattle.assignments.specs.declared.Entry.TheVariants.{Open, Assigned}
use Rattle.std.specs.declared.cmp.Ordering.{Ordering}
use Rattle.listing.specs.Outcome.{Laid, Lines}
use Rattle.arranging.specs.Arranged.{Sorted}

module _ {A : Type 0} (R : A → A → Type 0) where
  unfoldable pub ComparesAs : A → A → Ordering → Type 0
  ComparesAs x y Ordering.Less = R x y
  ComparesAs x y Ordering.Equal = x ≡ y
  ComparesAs x y Ordering.Greater = R y x

-- "Open comes before assigned."
abbrev pub open_against : Entry → Ordering
open_against Open = Ordering.Equal
open_against (Assigned x) = Ordering.Less

pub record Standing (L : List ℕ) (i : ℕ) (X : List ℕ) (l : Line) : Type 0 where
  pub entries : i + length l ≡ variables
  pub whole : 4 * variables ≤ length L
  -- the first record of the values, the bytes behind the line and those behind the values
  pub first : ℕ
  pub rest : List ℕ
  pub behind : List ℕ
  pub bytes : drop (4 * i) L ≡ line_bytes first l ++ rest
  pub values : drop (4 * first) X ≡ line_values l ++ behind
  pub within : 4 * (first + line_value_records l) ≤ length X

pub record LinesComparable (A B : List ℕ) (i : ℕ) (X : List ℕ) : Type 0 where
  pub one : Line
  pub two : Line
  pub left : Standing A i X one
  pub right : Standing B i X two
  pub most : i ≤ variables
  pub left_whole : 4 * variables ≤ length A
  pub right_whole : 4 * variables ≤ length B

pub record EntriesCompared (A B : List ℕ) (i : ℕ) (X : List ℕ) (c : Ordering) : Type 0 where
  pub exact : (o q : Option Term) (l m : Line) → Standing A i X (o ∷ l) → Standing B i X (q ∷ m) → ComparesAs Before o q c

pub record TwoLines (A B X : List ℕ) : Type 0 where
  pub one : Line
  pub two : Line
  pub left : Laid X A one
  pub right : Laid X B two

pub record Ordered (A B X : List ℕ) (r : Bool) : Type 0 where
  pub exact : (l m : Line) → Laid X A l → Laid X B m → Says r (Less l m)

abbrev pub Disjoint : List Line → List Line → Type 0
Disjoint ls ms = (l : Line) → In l ls → In l ms → ⊥

abbrev pub Leads : List Line → List Line → Type 0
Leads [] ms = ⊥
Leads (l ∷ ls) ms = (x : Line) → In x (ls ++ ms) → Less l x

abbrev pub Either : Bool → Type 0 → Type 0 → Type 0
Either true A B = A
Either false A B = B

pub record LeadsNext (A B X : List ℕ) (r : Bool) : Type 0 where
  pub exact : (ls ms : List Line) → Lines X A ls → Lines X B ms → Rising ls → Rising ms → Disjoint ls ms
      → Either r (Leads ls ms) (Leads ms ls)

pub record Merging (A : List ℕ) (i : ℕ) (B : List ℕ) (j : ℕ) (X : List ℕ) : Type 0 where
  pub one : List Line
  pub two : List Line
  pub left : Lines X (drop i A) one
  pub right : Lines X (drop j B) two
  pub left_whole : length A ≡ i + 4 * variables * length one
  pub right_whole : length B ≡ j + 4 * variables * length two

pub record NextChosen (A : List ℕ) (i : ℕ) (B : List ℕ) (j : ℕ) (X : List ℕ) (r : Bool) : Type 0 where
  pub next : LeadsNext (drop i A) (drop j B) X r
  pub some : Either r (i < length A) (j < length B)

pub record MergesLine (A : List ℕ) (i : ℕ) (B : List ℕ) (j : ℕ) (X out : List ℕ) : Type 0 where
  pub merging : Merging A i B j X
  pub more : i + j < length A + length B
  pub room : length A + length B ≤ length out

pub record SortedRun (X : List ℕ) (ls : List Line) (n : ℕ) (out : List ℕ) (o : ℕ) (after : List ℕ) : Type 0 where
  pub order : List Line
  pub sorted : Sorted ls order
  pub bytes : List ℕ
  pub lines : Lines X bytes order
  pub long : length bytes ≡ n
  pub written : after ≡ sets out o bytes

pub record Merged (A B X out : List ℕ) (o : ℕ) (after : List ℕ) : Type 0 where
  pub joined : (ls ms : List Line) → Lines X A ls → Lines X B ms → Rising ls → Rising ms → Disjoint ls ms
      → SortedRun X (ls ++ ms) (length A + length B) out o after

pub record MergedLine (A : List ℕ) (i : ℕ) (B : List ℕ) (j : ℕ) (X out after : List ℕ) (k m : ℕ) : Type 0 where
  pub merging : Merging A k B m X
  pub further : i + j < k + m
  pub merged : (final : List ℕ) → Merged (drop k A) (drop m B) X after (k + m) final → Merged (drop i A) (drop j B) X out (i + j) final

pub record Merges (A B X out : List ℕ) : Type 0 where
  pub merging : Merging A 0 B 0 X
  pub room : length A + length B ≤ length out

pub record Halves (L X work : List ℕ) (h : ℕ) : Type 0 where
  pub merges : Merges (take h L) (drop h L) X work
  pub within : h ≤ length L
  pub room : length L ≤ length work

pub record Sorts (L X work : List ℕ) : Type 0 where
  pub some : List Line
  pub lines : Lines X L some
  pub whole : length L ≡ 4 * variables * length some
  pub distinct : Distinct some
  pub room : length L ≤ length work

pub record InOrder (L X after : List ℕ) : Type 0 where
  pub sorted : (ls : List Line) → Lines X L ls → Distinct ls → (ms : List Line) × Sorted ls ms × Lines X after ms
