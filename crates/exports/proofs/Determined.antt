-- Nothing is left free in the exported functions either: two numbers that meet a function's promise on the same lent tables are equal, and
-- so are two contents of the tables that it writes. Each is the code of its operation's one answer. Assumes nothing.
use mathlib.Core.Path.{◌≡◌, sym, ap, ◌∙◌}
use mathlib.Core.List.{List}
use Prim.Native.Nat.{ℕ}
use lib.IntN.{ℤ}
use Rattle.rewriting.proofs.Determined.{checked_one, swept_one, rewritten_one}
use Rattle.book.proofs.Determined.{booked_one}
use Rattle.matcher.proofs.Determined.{listed_one}
use Rattle.shelf.proofs.Determined.{put_one, taken_out_one, read_out_one, counted_one}
use Rattle.exports.specs.Answers.{count_code, check_code, change_code, book_code, pairs_after}
use Rattle.exports.specs.Answers.{ListedAs, CheckedAs, SweptAs, RewrittenAs, BookedAs, PutAs, TakenOutAs, ReadOutAs, CountedAs}

pub listed_as_one : (p r l s w : List ℕ) (j k : ℤ) (m n x y : List ℕ) → ListedAs p r l s w j m x → ListedAs p r l s w k n y
    → (j ≡ k) × (m ≡ n) × (x ≡ y)
listed_as_one p r l s w j k m n x y f g =
    let e = listed_one p r l s w f.0 g.0 m n x y f.1 g.1 in (f.2 ∙ ap count_code e.0 ∙ sym g.2, e.1, e.2)

pub checked_as_one : (p r l s w : List ℕ) (j k : ℤ) → CheckedAs p r l s w j → CheckedAs p r l s w k → j ≡ k
checked_as_one p r l s w j k f g = f.2 ∙ ap check_code (checked_one p r l s w f.0 g.0 f.1 g.1) ∙ sym g.2

pub swept_as_one : (p l s o w : List ℕ) (j k : ℤ) (m n : List ℕ) → SweptAs p l s o w j m → SweptAs p l s o w k n → (j ≡ k) × (m ≡ n)
swept_as_one p l s o w j k m n f g =
    let e = swept_one p l s o w f.0 g.0 m n f.1 g.1 in (f.2 ∙ ap count_code e.0 ∙ sym g.2, e.1)

pub rewritten_as_one : (p q r l s o w : List ℕ) (j k : ℤ) (m n : List ℕ) → RewrittenAs p q r l s o w j m → RewrittenAs p q r l s o w k n
    → (j ≡ k) × (m ≡ n)
rewritten_as_one p q r l s o w j k m n f g =
    let e = rewritten_one p q r l s o w f.0 g.0 m n f.1 g.1 in (f.2 ∙ ap count_code e.0 ∙ sym g.2, e.1)

pub booked_as_one : (b r o w : List ℕ) (c : ℕ) (j k : ℤ) (m n : List ℕ) (x y : ℕ) → BookedAs b r o w c j m x → BookedAs b r o w c k n y
    → (j ≡ k) × (m ≡ n) × (x ≡ y)
booked_as_one b r o w c j k m n x y f g =
    let e = booked_one b r o w f.0 g.0 m n f.1 g.1 in
    (f.2 ∙ ap book_code e.0 ∙ sym g.2, e.1, f.3 ∙ ap (pairs_after c) e.0 ∙ sym g.3)

pub put_as_one : (b : ℕ) (r d t : List ℕ) (j k : ℤ) (m n x y : List ℕ) → PutAs b r d t j m x → PutAs b r d t k n y
    → (j ≡ k) × (m ≡ n) × (x ≡ y)
put_as_one b r d t j k m n x y f g =
    let e = put_one b r d t f.0 g.0 m n x y f.1 g.1 in (f.2 ∙ ap change_code e.0 ∙ sym g.2, e.1, e.2)

pub taken_out_as_one : (b : ℕ) (d t : List ℕ) (j k : ℤ) (m n x y : List ℕ) → TakenOutAs b d t j m x → TakenOutAs b d t k n y
    → (j ≡ k) × (m ≡ n) × (x ≡ y)
taken_out_as_one b d t j k m n x y f g =
    let e = taken_out_one b d t f.0 g.0 m n x y f.1 g.1 in (f.2 ∙ ap change_code e.0 ∙ sym g.2, e.1, e.2)

pub read_out_as_one : (b : ℕ) (d t o : List ℕ) (j k : ℤ) (m n : List ℕ) → ReadOutAs b d t o j m → ReadOutAs b d t o k n → (j ≡ k) × (m ≡ n)
read_out_as_one b d t o j k m n f g =
    let e = read_out_one b d t o f.0 g.0 m n f.1 g.1 in (f.2 ∙ ap count_code e.0 ∙ sym g.2, e.1)

pub counted_as_one : (d : List ℕ) (j k : ℤ) → CountedAs d j → CountedAs d k → j ≡ k
counted_as_one d j k f g = f.2 ∙ ap count_code (counted_one d f.0 g.0 f.1 g.1) ∙ sym g.2
