-- The operations' answers as one number: lines, records, a count of changes, 1 and 0 for yes and no, or minus the refusal number.
--   refusal_code c  minus the documents' number of the refusal c
--   count_code a, check_code a, change_code a, book_code a   the number of an answer: a count, yes or no, a change of the shelf, a new
--                   recipe
--   pairs_after c a  the number of pairs that a book's answer reports, or the number c that stood there before
--   Counts a         a count is at most the ceiling of the shelf's, so that it fits
--   ListedAs, CheckedAs, SweptAs, RewrittenAs, BookedAs, PutAs, TakenOutAs, ReadOutAs, CountedAs   some answer that the operation may give
--                   has this number
--   NineAs k        k is minus 9 exactly if no earlier cause holds and every full listing has more lines than were lent
use Rattle.std.specs.Prelude.{◌≡◌, List, ◌↔◌, Bool, true, false, ⊤, ℕ, ℤ, pos, neg_ℤ, ◌≤◌}
use Rattle.std.specs.declared.result.Result.{Result}
use Rattle.std.specs.declared.result.Result.TheVariants.{Ok, Err}
use Rattle.terms.specs.Figures.{ceiling}
use Rattle.refusals.specs.declared.Refusal.{Refusal}
use Rattle.refusals.specs.Judged.{number}
use Rattle.rewriting.specs.Operations.{Checked, Swept, Rewritten}
use Rattle.book.specs.declared.NewRecipe.{NewRecipe}
use Rattle.book.specs.Operations.{Booked}
use Rattle.matcher.specs.Operations.{Listed, TooMany}
use Rattle.shelf.specs.Operations.{Put, TakenOut, ReadOut, Counted}

abbrev pub refusal_code : Refusal → ℤ
refusal_code c = neg_ℤ (pos (number c))

-- "lines or records written", or a shelf's count of changes
abbrev pub count_code : Result ℕ Refusal → ℤ
count_code (Ok n) = pos n
count_code (Err c) = refusal_code c

abbrev pub check_code : Result Bool Refusal → ℤ
check_code (Ok true) = pos 1
check_code (Ok false) = pos 0
check_code (Err c) = refusal_code c

abbrev pub change_code : Result ⊤ Refusal → ℤ
change_code (Ok _) = pos 1
change_code (Err c) = refusal_code c

abbrev pub book_code : Result NewRecipe Refusal → ℤ
book_code (Ok x) = pos x.records
book_code (Err c) = refusal_code c

abbrev pub pairs_after : ℕ → Result NewRecipe Refusal → ℕ
pairs_after before (Ok x) = x.pairs
pairs_after before (Err c) = before

-- a count that fits its number
abbrev pub Counts : Result ℕ Refusal → Type 0
Counts a = (n : ℕ) → a ≡ Ok n → n ≤ ceiling

abbrev pub ListedAs : List ℕ → List ℕ → List ℕ → List ℕ → List ℕ → ℤ → List ℕ → List ℕ → Type 0
ListedAs p r l s w k lines_after values_after = (a : Result ℕ Refusal) × Listed p r l s w a lines_after values_after × (k ≡ count_code a)

unfoldable pub NineAs : List ℕ → List ℕ → List ℕ → List ℕ → List ℕ → ℤ → Type 0
NineAs p r l s w k = (k ≡ refusal_code Refusal.LineRoom) ↔ TooMany p r l s w

abbrev pub CheckedAs : List ℕ → List ℕ → List ℕ → List ℕ → List ℕ → ℤ → Type 0
CheckedAs p r l s w k = (a : Result Bool Refusal) × Checked p r l s w a × (k ≡ check_code a)

abbrev pub SweptAs : List ℕ → List ℕ → List ℕ → List ℕ → List ℕ → ℤ → List ℕ → Type 0
SweptAs p l s o w k after = (a : Result ℕ Refusal) × Swept p l s o w a after × (k ≡ count_code a)

abbrev pub RewrittenAs : List ℕ → List ℕ → List ℕ → List ℕ → List ℕ → List ℕ → List ℕ → ℤ → List ℕ → Type 0
RewrittenAs p q r l s o w k after = (a : Result ℕ Refusal) × Rewritten p q r l s o w a after × (k ≡ count_code a)

abbrev pub BookedAs : List ℕ → List ℕ → List ℕ → List ℕ → ℕ → ℤ → List ℕ → ℕ → Type 0
BookedAs b r o w before k after pairs =
    (a : Result NewRecipe Refusal) × Booked b r o w a after × (k ≡ book_code a) × (pairs ≡ pairs_after before a)

abbrev pub PutAs : ℕ → List ℕ → List ℕ → List ℕ → ℤ → List ℕ → List ℕ → Type 0
PutAs b r d t k d' t' = (a : Result ⊤ Refusal) × Put b r d t a d' t' × (k ≡ change_code a)

abbrev pub TakenOutAs : ℕ → List ℕ → List ℕ → ℤ → List ℕ → List ℕ → Type 0
TakenOutAs b d t k d' t' = (a : Result ⊤ Refusal) × TakenOut b d t a d' t' × (k ≡ change_code a)

abbrev pub ReadOutAs : ℕ → List ℕ → List ℕ → List ℕ → ℤ → List ℕ → Type 0
ReadOutAs b d t o k o' = (a : Result ℕ Refusal) × ReadOut b d t o a o' × (k ≡ count_code a)

abbrev pub CountedAs : List ℕ → ℤ → Type 0
CountedAs d k = (a : Result ℕ Refusal) × Counted d a × (k ≡ count_code a)
