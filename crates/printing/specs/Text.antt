-- What the program prints, as document 01's section "Cases" has it. A text is a list of ASCII codes, and a text with numbers in it is given
-- by a predicate.
--   Is t                    the text t
--   P ⨾ Q                   a text with P and then one with Q
--   Decimal n               the number n in decimal digits, the fewest that hold it
--   blank, newline          one character
--   hex b                   a byte as a pair of lowercase hexadecimal digits
--   record_text l k         a blank and the record k of the table l
--   records_text l n        the first n records of the table l, each behind a blank
--   Numbers i v n           line i, variable v and n records, with blanks between
--   EntryText i v n l       the printed line of an assigned entry: its numbers, and the records of the table l
--   Bare i                  the printed line of line i if it assigns nothing
--   Labelled w n            the word w and a number: the first printed line
--   Puts P out at r after   a text with P was put into out from byte `at` on, and r is its end
--   OpenBefore l i          the entries of the line l are open, for variables below i
--   room                    room for the longest printed line
--   SpansWithin l s         each entry of the line l that is assigned has its records in the value table s
--   Printable n ls s        the table ls begins with n such lines
use Rattle.std.specs.Prelude.{◌≡◌, List, [], ◌∷◌, ◌++◌, ℕ, zero, suc, ◌+◌, ◌*◌, ◌/◌, ◌%◌, ◌≤◌, ◌<◌, length, get_or, take, drop}
use Rattle.std.proofs.lemmas.List.Edits.{sets}
use Rattle.io.specs.Digits.{hex_digit_ascii, last_digits, IsDigitCount}
use Rattle.terms.specs.Figures.{variables, table_bytes}
use Rattle.assignments.specs.Entries.{entry_at}
use Rattle.assignments.specs.declared.Span.{Span}
use Rattle.assignments.specs.declared.Entry.TheVariants.{Open, Assigned}

infixl 20 ◌⨾◌
abbrev pub Text : Type 1
Text = List ℕ → Type 0

abbrev pub Is : List ℕ → Text
Is t s = s ≡ t

pub record ◌⨾◌ (P Q : Text) (s : List ℕ) : Type 0 where
  pub first : List ℕ
  pub second : List ℕ
  pub before : P first
  pub behind : Q second
  pub whole : s ≡ first ++ second

pub record Decimal (n : ℕ) (s : List ℕ) : Type 0 where
  pub places : ℕ
  pub fewest : IsDigitCount 10 1 n places
  pub is : s ≡ last_digits 10 places n

abbrev pub blank : List ℕ
blank = 32 ∷ []

abbrev pub newline : List ℕ
newline = 10 ∷ []

-- "Pairs of lowercase hexadecimal digits are bytes"
abbrev pub hex : ℕ → List ℕ
hex b = hex_digit_ascii (b / 16) ∷ hex_digit_ascii (b % 16) ∷ []

abbrev pub record_text : List ℕ → ℕ → List ℕ
record_text l k =
    blank ++ hex (get_or l (4 * k) 0) ++ hex (get_or l (4 * k + 1) 0) ++ hex (get_or l (4 * k + 2) 0) ++ hex (get_or l (4 * k + 3) 0)

abbrev pub records_text : List ℕ → ℕ → List ℕ
records_text l zero = []
records_text l (suc n) = records_text l n ++ record_text l n

-- "line (from 0), variable, records, the records"
abbrev pub Numbers : ℕ → ℕ → ℕ → Text
Numbers i v n = Decimal i ⨾ Is blank ⨾ Decimal v ⨾ Is blank ⨾ Decimal n

abbrev pub EntryText : ℕ → ℕ → ℕ → List ℕ → Text
EntryText i v n l = Numbers i v n ⨾ Is (records_text l (length l / 4)) ⨾ Is newline

-- "A line that assigns nothing prints its number and `-`."
abbrev pub Bare : ℕ → Text
Bare i = Decimal i ⨾ Is blank ⨾ Is (45 ∷ []) ⨾ Is newline

-- "First come `matches` and the count."; "A refusal prints `refused` and its number."
abbrev pub Labelled : List ℕ → ℕ → Text
Labelled w n = Is w ⨾ Is blank ⨾ Decimal n ⨾ Is newline

pub record Puts (P : Text) (out : List ℕ) (at r : ℕ) (after : List ℕ) : Type 0 where
  pub text : List ℕ
  pub is : P text
  pub end : r ≡ at + length text
  pub bytes : after ≡ sets out at text

pub record OpenBefore (l : List ℕ) (i : ℕ) : Type 0 where
  pub each : (v : ℕ) → v < i → entry_at l v ≡ Open

-- the digits of the records of a whole value table with a blank for each; three numbers of at most 20 digits, blanks between them, the
-- line's end, rounded up
abbrev pub room : ℕ
room = 9 * (table_bytes / 4) + 64

pub record SpansWithin (l s : List ℕ) : Type 0 where
  pub whole : length l ≡ 4 * variables
  pub few : length s ≤ table_bytes
  pub each : (v : ℕ) (x : Span) → v < variables → entry_at l v ≡ Assigned x → 4 * (x.first + x.count) ≤ length s

pub record Printable (n : ℕ) (lines s : List ℕ) : Type 0 where
  pub enough : 4 * variables * n ≤ length lines
  pub most : length lines ≤ table_bytes
  pub each : (i : ℕ) → i < n → SpansWithin (take (4 * variables) (drop (4 * variables * i) lines)) s
