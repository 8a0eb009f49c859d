-- A table that is swept again: it needs no values, what one sweep leaves can be swept again, and what the sweeps behind the first come to
-- is what all of them come to. Assumes nothing.
use mathlib.Core.Path.{◌≡◌, sym, ap, ◌∙◌, subst, refl}
use mathlib.Core.Bool.{Bool, true, false}
use mathlib.Core.List.{List}
use Prim.Native.Nat.{ℕ, suc, ◌+◌, ◌*◌, ◌-◌, ◌≤◌, ◌<◌}
use native.Mathlib.Numerals.{add-one}
use native.Mathlib.Omega.{arith}
use lib.ListN.{length, take, drop}
use lib.Seq.{sets, length-sets}
use Rattle.std.specs.Option.{ok_or}
use Rattle.std.specs.declared.result.Result.{Result}
use Rattle.std.specs.declared.result.Result.TheVariants.{Ok, Err}
use Rattle.normalizing.specs.declared.NormalFault.{NormalFault}
use Rattle.std.specs.declared.option.Option.{Option}
use Rattle.std.specs.declared.option.Option.TheVariants.{Some, None}
use Rattle.terms.specs.Figures.{swept_records, table_bytes}
use Rattle.terms.specs.Term.{Term, con, Normal, Occurs}
use Rattle.terms.specs.Sweep.{sweep, largest}
use Rattle.terms.proofs.Occurs.{occurs_below}
use Rattle.terms.proofs.Table.{encode_one, encode_length}
use Rattle.terms.proofs.Variables.{fill_below, below_sweep, closed_sweep_below}
use Rattle.terms.proofs.Normalization.{none_normal_more, none_normal_now, first_normal_more, first_normal_now}
use Rattle.terms.proofs.Normalization.{sweep_long_more, sweep_long_less, sweep_long_first, sweep_long_not}
use Rattle.records.specs.Parts.{Tree}
use Rattle.records.specs.Tests.{Says, Tells}
use Rattle.records.proofs.Parts.{tree}
use Rattle.assignments.specs.declared.Entry.{Entry}
use Rattle.copying.proofs.Stores.{stored}
use Rattle.sweeping.specs.Swept.{Fillable, FormSwept, WritesSwept, swept_bytes}
use Rattle.sweeping.proofs.Sweeps.{SweptTable, swept_table, swept_long}
use Rattle.normalizing.specs.Normalized.{Begins, Normalizable, SweptAgain, Normalized}

-- a form that is missing, as a fault
pub or_fault : (r : Option ℕ) (e d : NormalFault) → Err e ≡ ok_or r d → (r ≡ None) × (e ≡ d)
or_fault (Some n) e d q = grind arith
or_fault None e d q = (refl, grind arith)

-- one sweep of a table
module _ (l s : List ℕ) (a : List Entry) (n : ℕ) (x : Normalizable l n) where
  none_occurs : (i : ℕ) → ¬ Occurs i x.tree
  none_occurs i o = omega (arith, occurs_below 0 i x.tree x.below o)

  pub fillable_again : Fillable (take (n * 4 - 0) (drop 0 l)) s a
  fillable_again = record {
    tree = x.tree;
    table = (x.begins.bytes, x.closed);
    few = omega (arith, x.begins.few, x.begins.records);
    φ = λ i. con 0;
    gives = λ i o. absurd (none_occurs i o);
  }

  module _ (out : List ℕ) (r : Option ℕ) (after : List ℕ) (w : WritesSwept (take (n * 4 - 0) (drop 0 l)) s a out r after) where
    form_swept : (t : Term) → Begins l n t → FormSwept t out r after
    form_swept t y =
        subst (λ (u : Term). FormSwept u out r after)
        (fill_below (λ i. con 0) x.tree x.below ∙ encode_one x.tree t (sym x.begins.bytes ∙ y.bytes))
        (w x.tree (λ i. con 0) x.begins.bytes (λ i o. absurd (none_occurs i o)))

    pub again_long : (t : Term) → Begins l n t → (q : List ℕ) → r ≡ None → SweptAgain t None q
    unfolding SweptAgain
    again_long t y q e = swept_long t out after r (form_swept t y) e

    module _ (m : ℕ) (e : r ≡ Some m) (h : length out ≡ swept_bytes) where
      pub again_table : SweptTable x.tree after m
      again_table = swept_table x.tree out after r m (form_swept x.tree x.begins) e h

      pub again_records : (t : Term) → Begins l n t → (q : List ℕ) → q ≡ sets l 0 (take (m * 4 - 0) (drop 0 after))
          → SweptAgain t (Some m) q
      unfolding SweptAgain
      again_records t y q p =
          let z = swept_table t out after r m (form_swept t y) e h in
          let b = stored l q (take (m * 4 - 0) (drop 0 after)) (m * 4) p (omega (arith, z.fills)) (omega (arith, x.room, z.few)) in (
            z.all,
            record {
              records = z.records;
              few = omega (arith, z.few);
              within = omega (arith, x.room, z.few, ap length p, length-sets l 0 (take (m * 4 - 0) (drop 0 after)));
              bytes = b ∙ z.bytes;
            },
          )

-- what one sweep left
module _ (l : List ℕ) (n : ℕ) (r : Option ℕ) (q : List ℕ) (w : (t : Term) → Begins l n t → SweptAgain t r q) where
  swept_records_lem : (m : ℕ) → r ≡ Some m → (t : Term) → Begins l n t → (largest t ≤ swept_records) × Begins q m (sweep t)
  unfolding SweptAgain
  swept_records_lem m p t y = subst (λ (z : Option ℕ). SweptAgain t z q) p (w t y)

  pub normalizable_again : Normalizable l n → length q ≡ length l → (m : ℕ) → r ≡ Some m → Normalizable q m
  normalizable_again x e m p = record {
    tree = sweep x.tree;
    begins = (swept_records_lem m p x.tree x.begins).1;
    room = omega (arith, x.room);
    closed = closed_sweep_below 0 x.tree x.below x.closed;
    below = below_sweep 0 x.tree x.below;
  }

-- the test
module _ (l : List ℕ) (n : ℕ) where
  pub normalizable_table : Normalizable l n → Tree (take (n * 4 - 0) (drop 0 l)) × (length (take (n * 4 - 0) (drop 0 l)) ≤ table_bytes)
  normalizable_table x =
      let e = ap length x.begins.bytes ∙ encode_length x.tree in
      (tree (take (n * 4 - 0) (drop 0 l)) x.tree x.begins.bytes, omega (arith, e, x.begins.few, x.begins.records))

  module _ (b : Bool) (w : Tells (take (n * 4 - 0) (drop 0 l)) Normal b) (t : Term) (y : Begins l n t) where
    pub normalized_now : b ≡ true → (most : ℕ) → Normalized most 0 t (Ok n) l
    unfolding Normalized
    normalized_now e most =
        let h = subst (λ (z : Bool). Says z (Normal t)) e (w t y.bytes) in (sweep_long_not t most h, (t, first_normal_now t most h, y))

    not_normal : b ≡ false → ¬ Normal t
    not_normal e = subst (λ (z : Bool). Says z (Normal t)) e (w t y.bytes)

    pub normalized_none : b ≡ false → (most : ℕ) → most ≡ 0 → Normalized most 0 t (Err NormalFault.NotReached) l
    unfolding Normalized
    normalized_none e most z = rw z (λ o. omega (arith, o.few), none_normal_now t (not_normal e))

    -- the first sweep
    module _ (e : b ≡ false) (most : ℕ) (r : Option ℕ) (q : List ℕ) (v : (t : Term) → Begins l n t → SweptAgain t r q) where
      pub normalized_long : 0 < most → r ≡ None → Normalized most 0 t (Err NormalFault.TooLong) q
      unfolding Normalized SweptAgain
      normalized_long h p =
          sweep_long_first 0 t (omega arith) (λ _. not_normal e) most h (subst (λ (z : Option ℕ). SweptAgain t z q) p (v t y))

-- the first sweep is made, and fits: the sweeps behind it decide
module _ (least : ℕ) (t : Term) (one : least ≤ 1) (start : least ≤ 0 → ¬ Normal t) (fits : largest t ≤ swept_records) where
  pub normalized_more : (most : ℕ) (r : Result ℕ NormalFault) (after : List ℕ) → Normalized most 0 (sweep t) r after
      → Normalized (suc most) least t r after
  unfolding Normalized
  normalized_more most (Ok n) after x = (
    λ o. x.0 (sweep_long_less least t one start most fits o),
    (x.1.0, first_normal_more least t one start most x.1.0 x.1.1, x.1.2),
  )
  normalized_more most (Err NormalFault.TooLong) after x = sweep_long_more least t one start most x
  normalized_more most (Err NormalFault.NotReached) after x =
      (λ o. x.0 (sweep_long_less least t one start most fits o), none_normal_more least t one start (suc most) x.1)

module _ (l : List ℕ) (n : ℕ) (b : Bool) (w : Tells (take (n * 4 - 0) (drop 0 l)) Normal b) (e : b ≡ false) (r : Option ℕ) (q : List ℕ)
    (v : (t : Term) → Begins l n t → SweptAgain t r q) where
  pub normalized_later : (m : ℕ) → r ≡ Some m → (most rest : ℕ) → most ≡ rest + 1 → (a : Result ℕ NormalFault) (after : List ℕ)
      → ((u : Term) → Begins q m u → Normalized rest 0 u a after) → (t : Term) → Begins l n t → Normalized most 0 t a after
  normalized_later m p most rest z a after x t y =
      let g = swept_records_lem l n r q v m p t y in
      subst (λ (k : ℕ). Normalized k 0 t a after) (sym (z ∙ add-one rest))
      (normalized_more 0 t (omega arith) (λ _. not_normal l n b w t y e) g.0 rest a after (x (sweep t) g.1))
