-- The rules of a book, as document 02's requests "A book of rules" and "Which rules fit which buoy, always up to date" have them. Book,
-- place and rule are the document's words.
--   left_count b i, left_table b i     the record count of the left side at place i of the book b, and its counted records
--   right_count b i, right_table b i   those of the right side
--   places b                           the places whose rules take part, in book order
--   is_empty b i                       place i is empty
--   taken b is                         those of the places is that aren't empty
--   places_from b i                    the places from place i on that aren't empty, in book order
--   side_rows n l                      the rows 1 to 3 of a side with a count of n and the counted records l
--   rule_rows b i                      those of the two sides of the rule at place i
--   rules_rows b is                    those of the rules at the places is
--   book_bytes, book_rows b            the bytes of a book of 64 places, and the row 8 of a book that has to have so many
use Rattle.std.specs.Prelude.{◌≡◌, Bool, false, cond, List, [], ◌∷◌, ◌++◌, ℕ, zero, suc, ◌+◌, ◌-◌, ◌*◌, ◌/◌, ◌<◌, eqb, length, take, drop}
use Rattle.terms.specs.Figures.{pattern_records, place_bytes, most_places}
use Rattle.terms.specs.Layout.{word_at}
use Rattle.terms.specs.Refusal.{Row, pattern_rows}

-- "record counts of left and right, 16 bits each, high byte first, then 32 records for each side; records behind a count are not read"
abbrev pub left_count : List ℕ → ℕ → ℕ
left_count b i = word_at b (place_bytes * i)

abbrev pub right_count : List ℕ → ℕ → ℕ
right_count b i = word_at b (place_bytes * i + 2)

abbrev pub left_table : List ℕ → ℕ → List ℕ
left_table b i = take (4 * left_count b i) (drop (place_bytes * i + 4) b)

abbrev pub right_table : List ℕ → ℕ → List ℕ
right_table b i = take (4 * right_count b i) (drop (place_bytes * i + 4 + 4 * pattern_records) b)

-- "in book order": n places from place i on
abbrev pub count_up : ℕ → ℕ → List ℕ
count_up i zero = []
count_up i (suc n) = i ∷ count_up (suc i) n

-- all of them
abbrev pub places : List ℕ → List ℕ
places b = count_up 0 (length b / place_bytes)

-- "leave it (its two counts, and nothing else in the book, become 0); such empty places"
abbrev pub is_empty : List ℕ → ℕ → Bool
is_empty b i = cond (eqb (left_count b i) 0) (eqb (right_count b i) 0) false

-- those of some places that aren't empty
abbrev pub taken : List ℕ → List ℕ → List ℕ
taken b [] = []
taken b (i ∷ is) = cond (is_empty b i) (taken b is) (i ∷ taken b is)

abbrev pub places_from : List ℕ → ℕ → List ℕ
places_from b i = taken b (count_up i (length b / place_bytes - i))

-- causes 1 to 3; a count above 32 is a side above 128 bytes, wherever the book ends
abbrev pub side_rows : ℕ → List ℕ → List Row
side_rows n l = (1, pattern_records < n) ∷ pattern_rows l

-- "Rules are checked in book order, left then right"
abbrev pub rule_rows : List ℕ → ℕ → List Row
rule_rows b i = side_rows (left_count b i) (left_table b i) ++ side_rows (right_count b i) (right_table b i)

abbrev pub rules_rows : List ℕ → List ℕ → List Row
rules_rows b [] = []
rules_rows b (i ∷ is) = rule_rows b i ++ rules_rows b is

-- "Here and in W-207 the book has 64 places; another length gets 8."
abbrev pub book_bytes : ℕ
book_bytes = place_bytes * most_places

abbrev pub book_rows : List ℕ → List Row
book_rows b = (8, ¬ (length b ≡ book_bytes)) ∷ []
