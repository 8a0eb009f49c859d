-- Whether a term solves a goal to build: it is an abstraction, uses its local, and comes to the target with the argument put in. By the
-- kind of the term's first record, and what the walks over its body say. Assumes nothing.
use mathlib.Core.Path.{◌≡◌, refl, sym, ap, ◌∙◌, subst}
use mathlib.Core.Bool.{Bool, true, false}
use mathlib.Core.List.{List}
use Prim.Native.Nat.{ℕ, ◌+◌, ◌≤◌}
use native.Mathlib.Omega.{arith}
use lib.Dec.{T}
use lib.ListN.{length, get_or}
use Rattle.std.specs.Prelude.{is_some}
use Rattle.std.specs.declared.option.Option.{Option}
use Rattle.std.specs.declared.option.Option.TheVariants.{Some, None}
use Rattle.terms.specs.Figures.{table_bytes}
use Rattle.terms.specs.Term.{Term, lam, uses, substitute}
use Rattle.terms.proofs.Table.{kind, lam_inj}
use Rattle.records.specs.Parts.{slice, Part, Whole}
use Rattle.records.specs.Tests.{Asks, Walked}
use Rattle.records.specs.declared.Ask.TheVariants.{Other}
use Rattle.records.proofs.Parts.{kind_at, abstraction}
use Rattle.records.proofs.Slices.{part_slice, body_slice, slice_length}
use Rattle.instances.specs.declared.Places.{Places}
use Rattle.instances.specs.Instances.{Substitutes, Substituted}
use Rattle.instances.proofs.Instances.{walk_reached, refused}
use Rattle.builds.specs.Builds.{Solving, Solved}

module _ (h e t : List ℕ) where
  pub solved_other : ¬ (get_or h 0 0 ≡ 1) → Solved h e t false
  solved_other n = record { is = λ x y z p q r s. n (kind_at h 0 x p ∙ ap kind s.1) }

  module _ (k : get_or h 0 0 ≡ 1) where
    pub asking : Solving h e t → Whole (slice h 4) 0 × (0 + length (slice h 4) ≤ table_bytes)
    asking s = (body_slice h s.head k, omega (arith, s.head_most, slice_length h 4))

    pub substituting : Solving h e t → Substitutes (slice h 4) 0 e t
    substituting s = record {
      body = body_slice h s.head k;
      argument = s.argument;
      target = s.target;
      most = s.target_most;
      shallow = omega (arith, s.head_most, slice_length h 4);
    }

    pub record SolutionValue (x : Term) : Type 0 where
      pub b : Term
      pub is : x ≡ lam b
      pub part : Part (slice h 4) 0 b

    value : (x : Term) → Part h 0 x → SolutionValue x
    value x p = let u = abstraction h 0 x p k in record { b = u.b; is = u.is; part = part_slice h 4 u.b u.body }

    -- the body uses the local exactly if the walk over it doesn't come to its end
    pub solved_unused : (w : Option ℕ) (c : Bool) → c ≡ is_some w → c ≡ true → Walked (slice h 4) 0 (Asks Other 0) w → Solved h e t false
    unfolding Walked
    solved_unused (Some n) c v q g = record {
      is = λ x y z p _ _ s.
          let u = value x p in
          let m = g.1 u.b u.part in
          let i : s.0 ≡ u.b = lam_inj s.0 u.b (sym s.1 ∙ u.is) in
          subst T (sym s.3 ∙ ap (uses 0) i ∙ m) tt;
    }
    solved_unused None c v q g = let z : T false = subst T (sym q ∙ v) tt in absurd z

    used : (w : Option ℕ) (c : Bool) → c ≡ is_some w → c ≡ false → Walked (slice h 4) 0 (Asks Other 0) w → (b : Term)
        → Part (slice h 4) 0 b → uses 0 b ≡ true
    unfolding Walked
    used (Some n) c v q g b p = let z : T false = subst T (sym v ∙ q) tt in absurd z
    used None c v q g b p = either (uses 0 b) (g b p)
      where
        either : (c : Bool) → ¬ (c ≡ false) → c ≡ true
        either true n = refl
        either false n = absurd (n refl)

    pub solved_says : (w : Option ℕ) (c : Bool) → c ≡ is_some w → c ≡ false → Walked (slice h 4) 0 (Asks Other 0) w → (r : Option Places)
        → Substituted (slice h 4) 0 e t r → Solved h e t (is_some r)
    solved_says w c v q g (Some n) f = record {
      is = λ x y z p i j.
          let u = value x p in
          let m = (walk_reached (slice h 4) 0 e t n f).replaced u.b y z u.part i j in
          (u.b, u.is, sym m, used w c v q g u.b u.part);
    }
    solved_says w c v q g None f = record {
      is = λ x y z p i j s.
          let u = value x p in
          let m : s.0 ≡ u.b = lam_inj s.0 u.b (sym s.1 ∙ u.is) in
          refused (slice h 4) 0 e t f u.b y z u.part i j (sym s.2 ∙ ap (substitute 0 y) m);
    }
