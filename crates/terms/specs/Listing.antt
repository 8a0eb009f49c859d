-- The order of lines and the full listing, as document 01's section "Lines and values" has them. Line is the document's word.
--   In x l           x is a member of l
--   Line             "A line is here an assignment, with no first records."
--   kinds_and_numbers t   the records of t in turn, each a kind and a number
--   Lexicographic R  the first difference decides, by R
--   rank o           what decides an entry's place: open or assigned, then the records
--   Less l m         line l comes before line m
--   Rising ls        the lines go up
--   Agrees a l       a has the same value in each entry that l assigns
--   Full n p t ls    ls is a full listing of the pattern p and the recipe t, over n variables
use Rattle.std.specs.Prelude.{◌≡◌, List, [], ◌∷◌, ◌⊎◌, ℕ, ◌<◌, length}
use Rattle.std.proofs.Math.Option.{Option, none, some}
use Rattle.terms.specs.Term.{Term, Occurs}
use Rattle.terms.specs.Table.{kind_and_number, preorder}
use Rattle.terms.specs.Assignment.{Assignment, Assigns, Entries, Complete, Match}

module _ {A : Type 0} where
  abbrev pub In : A → List A → Type 0
  In x [] = ⊥
  In x (y ∷ l) = (x ≡ y) ⊎ In x l

  -- "the first difference deciding"
  module _ (R : A → A → Type 0) where
    abbrev pub Lexicographic : List A → List A → Type 0
    Lexicographic [] [] = ⊥
    Lexicographic [] (y ∷ m) = Unit {0}
    Lexicographic (x ∷ l) [] = ⊥
    Lexicographic (x ∷ l) (y ∷ m) = R x y ⊎ ((x ≡ y) × Lexicographic l m)

abbrev pub Line : Type 0
Line = Assignment

-- "record by record, by kind and then number"
abbrev pub kinds_and_numbers : Term → List ℕ
kinds_and_numbers t = preorder kind_and_number t

-- "Open comes before assigned."
abbrev pub rank : Option Term → List ℕ
rank none = 0 ∷ []
rank (some v) = 1 ∷ kinds_and_numbers v

abbrev pub Before : Option Term → Option Term → Type 0
Before o q = Lexicographic ◌<◌ (rank o) (rank q)

-- "Lines go up by variable 0, then 1, to 7."
abbrev pub Less : Line → Line → Type 0
Less l m = Lexicographic Before l m

abbrev pub Rising : List Line → Type 0
Rising [] = Unit {0}
Rising (l ∷ ls) = ((m : Line) → In m ls → Less l m) × Rising ls

-- "it has the same value in each entry that this line assigns"
abbrev pub AgreesAt : Option Term → Option Term → Type 0
AgreesAt o none = Unit {0}
AgreesAt o (some v) = o ≡ some v

abbrev pub Agrees : Assignment → Line → Type 0
Agrees [] [] = Unit {0}
Agrees [] (q ∷ l) = ⊥
Agrees (o ∷ a) [] = ⊥
Agrees (o ∷ a) (q ∷ l) = AgreesAt o q × Agrees a l

pub record Full (n : ℕ) (p t : Term) (ls : List Line) : Type 0 where
  pub entries : (l : Line) → In l ls → length l ≡ n
  -- "The lines [..] assign only variables of the pattern."
  pub assigns : (l : Line) → In l ls → Assigns (λ i. Occurs i p) l
  -- "The lines go up as above"
  pub rising : Rising ls
  -- "Every filling of a line's open variables gives a match."
  pub sound : (a : Assignment) → Entries n a → Complete p a → (l : Line) → In l ls → Agrees a l → Match n p t a
  -- "Every match agrees with exactly one line"
  pub covers : (a : Assignment) → Match n p t a → (l : Line) × In l ls × Agrees a l
  pub once : (a : Assignment) → Match n p t a → (l m : Line) → In l ls → In m ls → Agrees a l → Agrees a m → l ≡ m
