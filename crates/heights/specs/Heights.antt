-- What is kept of the parts of a term: a byte for each, in the order of its records.
--   byte_of x                   the byte that is kept of a highest loose local: 0 for none, else one more than its number
--   height t                   the byte that is kept of t: no height of a tree
--   heights t                  the heights of all parts of t, in the order of its records
--   HeightsAt l i t            they stand in l from index i on
--   HeightSource s             s is the table of a term whose heights fit bytes
--   part_heights t             the heights of t's own parts: of its head and its argument, of its body, or none
--   RowBehind s at next row first   a term stands in s from byte `at` on, and row has the heights of its own parts from index first on,
--                              where next stands
--   HeightOf s at h            h is the height of each term that stands in s from byte `at` on
use Rattle.std.specs.Prelude.{◌≡◌, List, [], ◌∷◌, ◌++◌, ℕ, suc, ◌+◌, ◌≤◌, ◌<◌, length, get_or, drop}
use Rattle.std.proofs.Math.Option.{Option, none, some}
use Rattle.terms.specs.Figures.{value_records}
use Rattle.terms.specs.Term.{Term, app, lam, loc, con, var, size}
use Rattle.terms.specs.Table.{encode}
use Rattle.records.specs.Parts.{Part}
use Rattle.heights.specs.Highest.{highest}

abbrev pub byte_of : Option ℕ → ℕ
byte_of none = 0
byte_of (some n) = suc n

abbrev pub height : Term → ℕ
height t = byte_of (highest t)

abbrev pub heights : Term → List ℕ
heights (app f a) = height (app f a) ∷ (heights f ++ heights a)
heights (lam b) = height (lam b) ∷ heights b
heights (loc n) = height (loc n) ∷ []
heights (con n) = height (con n) ∷ []
heights (var n) = height (var n) ∷ []

pub record HeightsAt (l : List ℕ) (i : ℕ) (t : Term) : Type 0 where
  pub rest : List ℕ
  pub bytes : drop i l ≡ heights t ++ rest

-- a part below n binders has a height above that of the whole by at most n
pub record HeightSource (s : List ℕ) : Type 0 where
  pub tree : Term
  pub table : s ≡ encode tree
  pub few : size tree ≤ value_records
  pub low : height tree + size tree ≤ 256
  pub least : 4 ≤ length s

abbrev pub part_heights : Term → List ℕ
part_heights (app f a) = height f ∷ height a ∷ []
part_heights (lam b) = height b ∷ []
part_heights (loc n) = []
part_heights (con n) = []
part_heights (var n) = []

pub record RowBehind (s : List ℕ) (at next : ℕ) (row : List ℕ) (first : ℕ) : Type 0 where
  pub tree : Term
  pub part : Part s at tree
  pub least : at + 4 ≤ length s
  pub low : height tree < 256
  pub rest : List ℕ
  pub begins : drop first row ≡ part_heights tree ++ rest
  pub room : first + length (part_heights tree) ≤ length row
  pub front : next ≡ get_or row first 0
  pub before : 0 < first

abbrev pub HeightOf : List ℕ → ℕ → ℕ → Type 0
HeightOf s at h = (t : Term) → Part s at t → h ≡ height t
