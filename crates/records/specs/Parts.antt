-- Parts of a table: terms that stand in it from some byte on.
--   slice l n         the bytes of l from byte n on, as a slice of l has them
--   Part l at t       the term t stands in l from byte `at` on
--   Whole l at        some term does
--   Ends l at r       each term that stands in l from byte `at` on ends at byte r
--   EndFound l at r   a term that stands in l from byte `at` on ends at byte r, and one does if the records from there on are good
--   Nothing l at      no term stands in l from byte `at` on
--   Reached l at n r what a pass over the part at byte `at` shows that came to byte r with n parts missing
--   Ended l r         what the answer r shows of the term that l begins with
--   Tree l            l is the table of some term
--   Divided l r       in a table l of an application, the head ends at byte r and the argument begins there
--   Lies l part       part is the table of some term, and shorter than l
use Rattle.std.specs.Prelude.{◌≡◌, true, List, ◌++◌, ℕ, zero, suc, ◌+◌, ◌-◌, ◌*◌, ◌≤◌, ◌<◌, length, take, drop}
use Rattle.terms.specs.Term.{Term, app, size}
use Rattle.terms.specs.Table.{encode, good_records}
use Rattle.std.specs.declared.option.Option.{Option}
use Rattle.std.specs.declared.option.Option.TheVariants.{Some, None}

abbrev pub slice : List ℕ → ℕ → List ℕ
slice l n = take (length l - n) (drop n l)

-- "A part of a term is a run of records that starts anywhere in its table. It is one whole subtree."
pub record Part (l : List ℕ) (at : ℕ) (t : Term) : Type 0 where
  pub rest : List ℕ
  pub bytes : drop at l ≡ encode t ++ rest
  pub some : 1 ≤ size t
  pub within : at + 4 * size t ≤ length l

pub record Whole (l : List ℕ) (at : ℕ) : Type 0 where
  pub tree : Term
  pub part : Part l at tree
  pub least : at + 4 ≤ length l

pub record Ends (l : List ℕ) (at r : ℕ) : Type 0 where
  pub more : at + 4 ≤ r
  pub within : r ≤ length l
  pub exact : (t : Term) → Part l at t → r ≡ at + 4 * size t

-- bytes that are good records begin with a term where their kinds do; of other bytes only the kinds are looked at
abbrev pub EndFound : List ℕ → ℕ → ℕ → Type 0
EndFound l at r = Ends l at r × ((v : ℕ) → good_records v (drop at l) ≡ true → Whole l at)

abbrev pub Nothing : List ℕ → ℕ → Type 0
Nothing l at = (t : Term) → ¬ Part l at t

-- where parts are still missing no term stands at `at`
unfoldable pub Reached : List ℕ → ℕ → ℕ → ℕ → Type 0
Reached l at zero r = EndFound l at r
Reached l at (suc n) r = Nothing l at

unfoldable pub Ended : List ℕ → Option ℕ → Type 0
Ended l (Some r) = EndFound l 0 r
Ended l None = Nothing l 0

pub record Tree (l : List ℕ) : Type 0 where
  pub tree : Term
  pub bytes : l ≡ encode tree
  pub least : 4 ≤ length l

pub record Divided (l : List ℕ) (r : ℕ) : Type 0 where
  pub least : 8 ≤ r
  pub within : r + 4 ≤ length l
  pub head : (f a : Term) → l ≡ encode (app f a) → take (r - 4) (drop 4 l) ≡ encode f
  pub argument : (f a : Term) → l ≡ encode (app f a) → drop r l ≡ encode a

pub record Lies (l part : List ℕ) : Type 0 where
  pub tree : Tree part
  pub shorter : length part < length l
