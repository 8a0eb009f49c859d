-- What the functions that write a changed term need, and what they leave. A change g follows the binders: g k t is t changed below k of
-- them. The changes are `shift d` and `substitute_for e`.
--   substitute_for e k t                  e put for local k of t
--   count k t                             how often t uses local k
--   NumbersFit t                          each local of t has a number that a record holds
--   Source g l at k room o                a term t stands in l from byte `at` on, and g k t can be written from byte o on, before byte
--                                         `room`
--   Single l at                           the part of l at byte `at` is one record: it is neither application nor abstraction
--   Wrote g l at k out o after next end   g k t was written into out from byte o on, for the term t that stands in l from byte `at` on
--   Substitution b k e out o             what writing `substitute_for e` of the term that b begins with needs, e given by its table
--   UsesCounted l k next n                the term that l begins with ends at byte next, and uses local k n times
use Rattle.std.specs.Prelude.{◌≡◌, cond, List, ℕ, suc, ◌+◌, ◌*◌, ◌≤◌, ◌<◌, eqb, length, get_or}
use Rattle.std.proofs.lemmas.List.Edits.{sets}
use Rattle.terms.specs.Figures.{numbers}
use Rattle.terms.specs.Term.{Term, app, lam, loc, con, var, size, substitute}
use Rattle.terms.specs.Table.{encode, application_kind, abstraction_kind}
use Rattle.records.specs.Parts.{Part, Ends}

abbrev pub substitute_for : Term → ℕ → Term → Term
substitute_for e k t = substitute k e t

abbrev pub count : ℕ → Term → ℕ
count k (app f a) = count k f + count k a
count k (lam b) = count (suc k) b
count k (loc n) = cond (eqb n k) 1 0
count k (con n) = 0
count k (var n) = 0

-- the numbers of constants and variables fit where they are copied from a record
abbrev pub NumbersFit : Term → Type 0
NumbersFit (app f a) = NumbersFit f × NumbersFit a
NumbersFit (lam b) = NumbersFit b
NumbersFit (loc n) = n < numbers
NumbersFit (con n) = Unit {0}
NumbersFit (var n) = Unit {0}

pub record Source (g : ℕ → Term → Term) (l : List ℕ) (at k room o : ℕ) : Type 0 where
  pub tree : Term
  pub part : Part l at tree
  pub fits : NumbersFit (g k tree)
  pub shallow : k + size tree ≤ numbers
  pub enough : o + 4 * size (g k tree) ≤ room
  pub least : at + 4 ≤ length l
  pub first : o + 4 ≤ room

pub record Single (l : List ℕ) (at : ℕ) : Type 0 where
  pub no_application : ¬ (get_or l at 0 ≡ application_kind)
  pub no_abstraction : ¬ (get_or l at 0 ≡ abstraction_kind)

pub record Wrote (g : ℕ → Term → Term) (l : List ℕ) (at k : ℕ) (out : List ℕ) (o : ℕ) (after : List ℕ) (next end : ℕ) : Type 0 where
  pub ends : Ends l at next
  pub exact : (t : Term) → Part l at t → end ≡ o + 4 * size (g k t)
  pub bytes : (t : Term) → Part l at t → after ≡ sets out o (encode (g k t))

pub record Substitution (b : List ℕ) (k : ℕ) (e out : List ℕ) (o : ℕ) : Type 0 where
  pub argument : Term
  pub table : e ≡ encode argument
  pub few : size argument ≤ numbers
  pub source : Source (substitute_for argument) b 0 k (length out) o

pub record UsesCounted (l : List ℕ) (k next n : ℕ) : Type 0 where
  pub ends : Ends l 0 next
  pub few : 4 * n ≤ next
  pub exact : (t : Term) → Part l 0 t → n ≡ count k t
