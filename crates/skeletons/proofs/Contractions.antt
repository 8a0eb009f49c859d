-- The skeleton of an application or an abstraction, from those of its parts: the contracted form, where it is sure and not too long, and
-- else a hole. By the laws of fitting for single contractions; a hole is right for everything. Assumes nothing.
use mathlib.Core.Path.{◌≡◌, refl, sym, ap, ◌∙◌, subst}
use mathlib.Core.Bool.{Bool, false}
use mathlib.Core.List.{List}
use Prim.Native.Nat.{ℕ, ◌≤◌}
use native.Mathlib.Omega.{arith}
use lib.ListN.{get_or}
use lib.Seq.{sets}
use Rattle.std.specs.declared.option.Option.{Option}
use Rattle.std.specs.declared.option.Option.TheVariants.{Some, None}
use Rattle.terms.specs.Figures.{swept_records}
use Rattle.terms.specs.Term.{Term, app, lam, var, size}
use Rattle.terms.specs.Sweep.{contract}
use Rattle.terms.specs.Table.{encode}
use Rattle.terms.proofs.Substitute.{size_pos}
use Rattle.matching.specs.Skeletons.{is_unsure}
use Rattle.matching.proofs.Skeletons.{fits_apply, fits_abstract, closed_apply}
use Rattle.matching.proofs.Repeated.{closed_contract}
use Rattle.records.specs.Tests.{Equals}
use Rattle.records.proofs.Parts.{at_start}
use Rattle.sweeping.specs.Swept.{SweptBody, ContractsAbstraction, SweptParts, ContractsApplication, WrittenForm}
use Rattle.skeletons.specs.Contracted.{ApplicationSkeleton, AbstractionSkeleton, Writes, WritesApplication, WritesAbstraction}
use Rattle.skeletons.proofs.Tests.{not_variable}

-- what a hole's record leaves
abbrev pub Hole : List ℕ → ℕ → List ℕ → Type 0
Hole out n after = (n ≡ 1) × (after ≡ sets out 0 (encode (var 0)))

abbrev pub ClosedHole : List ℕ → ℕ → List ℕ → Type 0
ClosedHole out n after = (n ≡ 1) × (after ≡ sets out 0 (encode (var 1)))

hole_writes : (P : Term → Type 0) (out mid after : List ℕ) (n : ℕ) → P (var 0) → mid ≡ out → Hole mid n after → Writes P out n after
hole_writes P out mid after n p e h =
    record { skeleton = var 0; bytes = h.1 ∙ ap (λ (l : List ℕ). sets l 0 (encode (var 0))) e; sized = h.0; holds = p }

any_application : (f a : Term) → ApplicationSkeleton f a (var 0)
any_application f a = record { closed = λ d c e. tt; fits = λ g b x y. tt }

any_abstraction : (b : Term) → AbstractionSkeleton b (var 0)
any_abstraction b = record { closed = λ d c. tt; fits = λ u x. tt }

-- the two answers of a contraction
record Answer (t : Term) (out : List ℕ) (n : ℕ) (after : List ℕ) : Type 0 where
  sized : n ≡ size t
  few : n ≤ swept_records
  bytes : after ≡ sets out 0 (encode t)

answer : (t : Term) (out : List ℕ) (r : Option ℕ) (n : ℕ) (after : List ℕ) → WrittenForm t out r after → r ≡ Some n
    → Answer t out n after
unfolding WrittenForm
answer t out r n after w e =
    let x : WrittenForm t out (Some n) after = subst (λ (q : Option ℕ). WrittenForm t out q after) e w in
    record { sized = x.0; few = x.1; bytes = x.2 }

untouched : (t : Term) (out : List ℕ) (r : Option ℕ) (after : List ℕ) → WrittenForm t out r after → r ≡ None → after ≡ out
unfolding WrittenForm
untouched t out r after w e = let x : WrittenForm t out None after = subst (λ (q : Option ℕ). WrittenForm t out q after) e w in x.1

-- an application
module _ (f a out : List ℕ) (r : Option ℕ) (mid : List ℕ) (w : ContractsApplication f a out r mid) where
  pub applies_hole : r ≡ None → (n : ℕ) (after : List ℕ) → Hole mid n after → WritesApplication f a out n after
  applies_hole q n after h = record {
    written = λ x y e g. hole_writes (ApplicationSkeleton x y) out mid after n (any_application x y)
        (untouched (contract (app x y)) out r mid (w x y e g) q) h;
    some = omega (arith, h.0);
    few = omega (arith, h.0);
  }

  pub applies_contracted : SweptParts f a → ¬ (get_or f 0 0 ≡ 4) → (n : ℕ) → r ≡ Some n → WritesApplication f a out n mid
  applies_contracted p z n q = record {
    written = each;
    some = omega (arith, one.sized, size_pos (contract (app p.head p.argument)));
    few = one.few;
  }
    where
      answered : (x y : Term) → f ≡ encode x → a ≡ encode y → Answer (contract (app x y)) out n mid
      answered x y e g = answer (contract (app x y)) out r n mid (w x y e g) q

      one : Answer (contract (app p.head p.argument)) out n mid
      one = answered p.head p.argument p.head_bytes p.argument_bytes

      each : (x y : Term) → f ≡ encode x → a ≡ encode y → Writes (ApplicationSkeleton x y) out n mid
      each x y e g =
          let m = answered x y e g in
          record {
            skeleton = contract (app x y);
            bytes = m.bytes;
            sized = m.sized;
            holds = record {
              closed = λ d c o. closed_apply d x y c o;
              fits = λ u v i j. fits_apply x u y v (not_variable f 0 x (at_start f x e) z) i j;
            };
          }

-- an abstraction
module _ (b out : List ℕ) (r : Option ℕ) (mid : List ℕ) (w : ContractsAbstraction b out r mid) where
  pub abstracts_hole : r ≡ None → (n : ℕ) (after : List ℕ) → Hole mid n after → WritesAbstraction b out n after
  abstracts_hole q n after h = record {
    written =
        λ x e. hole_writes (AbstractionSkeleton x) out mid after n (any_abstraction x) (untouched (contract (lam x)) out r mid (w x e) q) h;
    some = omega (arith, h.0);
    few = omega (arith, h.0);
  }

  pub abstracts_contracted : SweptBody b → (t : Bool) → Equals b is_unsure t → t ≡ false → (n : ℕ) → r ≡ Some n
      → WritesAbstraction b out n mid
  abstracts_contracted p t test o n q = record {
    written = each;
    some = omega (arith, one.sized, size_pos (contract (lam p.body)));
    few = one.few;
  }
    where
      answered : (x : Term) → b ≡ encode x → Answer (contract (lam x)) out n mid
      answered x e = answer (contract (lam x)) out r n mid (w x e) q

      one : Answer (contract (lam p.body)) out n mid
      one = answered p.body p.bytes

      each : (x : Term) → b ≡ encode x → Writes (AbstractionSkeleton x) out n mid
      each x e =
          let m = answered x e in
          record {
            skeleton = contract (lam x);
            bytes = m.bytes;
            sized = m.sized;
            holds = record { closed = λ d c. closed_contract d x c; fits = λ u i. fits_abstract x u (sym (test x e) ∙ o) i };
          }
