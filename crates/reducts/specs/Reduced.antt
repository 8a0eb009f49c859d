-- What writing the reduct of a pattern needs, and what it leaves. Of what is said to be too long nothing is promised: the pattern itself is
-- then searched.
--   pattern_bytes                        the bytes of a pattern of 32 records
--   Reduced t out r after                the table of t, which has at most 32 records, was written into out from byte 0 on; or it is said
--                                        to be too long
--   Contracts f a out r after what contracting the application of an abstraction leaves
--   ReducesApplication f a out r after   what writing an application as it is leaves
--   ReducibleParts f a                   reducts of a head and an argument, as tables
--   ReducesRedex f a out r after         what applying the one to the other leaves
--   Reducible l                          a pattern or a part of one, as a table
--   Reduces l out r after                what reducing it leaves
use Rattle.std.specs.declared.option.Option.{Option}
use Rattle.std.specs.declared.option.Option.TheVariants.{Some, None}
use Rattle.std.specs.Prelude.{◌≡◌, List, ℕ, ◌+◌, ◌*◌, ◌≤◌, length, get_or}
use Rattle.std.proofs.lemmas.List.Edits.{sets}
use Rattle.terms.specs.Figures.{numbers, pattern_records, swept_records}
use Rattle.terms.specs.Term.{Term, app, size, Closed}
use Rattle.terms.specs.Sweep.{contract}
use Rattle.terms.specs.Table.{encode, abstraction_kind}
use Rattle.matching.specs.Reducts.{applied, reduct}
use Rattle.records.specs.Parts.{Whole}
use Rattle.sweeping.specs.Swept.{SweptParts}

abbrev pub pattern_bytes : ℕ
pattern_bytes = 4 * pattern_records

unfoldable pub Reduced : Term → List ℕ → Option ℕ → List ℕ → Type 0
Reduced t out (Some n) after = (n ≡ size t) × (n ≤ pattern_records) × (after ≡ sets out 0 (encode t))
Reduced t out None after = Unit {0}

abbrev pub Contracts : List ℕ → List ℕ → List ℕ → Option ℕ → List ℕ → Type 0
Contracts f a out r after = (x y : Term) → f ≡ encode x → a ≡ encode y → Reduced (contract (app x y)) out r after

abbrev pub ReducesApplication : List ℕ → List ℕ → List ℕ → Option ℕ → List ℕ → Type 0
ReducesApplication f a out r after = (x y : Term) → f ≡ encode x → a ≡ encode y → Reduced (app x y) out r after

pub record ReducibleParts (f a : List ℕ) : Type 0 where
  pub head : Whole f 0
  pub argument : Whole a 0
  pub head_most : length f ≤ pattern_bytes
  pub argument_most : length a ≤ pattern_bytes
  pub redex : get_or f 0 0 ≡ abstraction_kind → SweptParts f a

abbrev pub ReducesRedex : List ℕ → List ℕ → List ℕ → Option ℕ → List ℕ → Type 0
ReducesRedex f a out r after = (x y : Term) → f ≡ encode x → a ≡ encode y → Reduced (applied x y) out r after

-- the locals of a reduct are below the depth and as many binders as it has, which are numbers that a record holds
pub record Reducible (l : List ℕ) : Type 0 where
  pub tree : Term
  pub bytes : l ≡ encode tree
  pub least : 4 ≤ length l
  pub depth : ℕ
  pub shallow : depth + size tree + swept_records ≤ numbers
  pub closed : Closed depth tree

abbrev pub Reduces : List ℕ → List ℕ → Option ℕ → List ℕ → Type 0
Reduces l out r after = (t : Term) → l ≡ encode t → Reduced (reduct t) out r after
