-- Whether a local is guarded, told from a table: an application by its head and its argument, an abstraction by its body, any other term by
-- its one record. By the term's kind, which its first record shows. Assumes nothing.
use mathlib.Core.Path.{◌≡◌, refl, sym, ap, ◌∙◌}
use mathlib.Core.Bool.{Bool, true, false, not}
use mathlib.Core.List.{List}
use Prim.Native.Nat.{ℕ, suc, ◌+◌}
use native.Mathlib.Omega.{arith}
use lib.Dec.{eqb}
use lib.ListN.{get_or}
use Rattle.terms.specs.Term.{Term, app, lam, loc, con, var}
use Rattle.terms.specs.Table.{encode}
use Rattle.terms.proofs.Table.{kind}
use Rattle.matching.specs.Reducts.{constant_head, is_local, guarded}
use Rattle.records.specs.Record.{number_at}
use Rattle.records.specs.Tests.{Equals}
use Rattle.records.proofs.Parts.{kind_at, number_at_lem, at_start, application_of, abstraction_of}

module _ (l : List ℕ) where
  kind_of_lem : (t : Term) → l ≡ encode t → get_or l 0 0 ≡ kind t
  kind_of_lem t e = kind_at l 0 t (at_start l t e)

  -- the head of an application
  pub constant_head_lem : get_or l 0 0 ≡ 0 → (m : List ℕ) → ((f a : Term) → l ≡ encode (app f a) → m ≡ encode f) → (r : Bool)
      → Equals m constant_head r → Equals l constant_head r
  constant_head_lem z m head r h t e = let v = application_of l t e z in rw v.is (h v.f (head v.f v.a v.bytes))

  pub constant_leaf : ¬ (get_or l 0 0 ≡ 0) → Equals l constant_head (eqb (get_or l 0 0) 3)
  constant_leaf n t e = ap (λ (k : ℕ). eqb k 3) (kind_of_lem t e) ∙ go t (λ q. n (kind_of_lem t e ∙ q))
    where
      go : (t : Term) → ¬ (kind t ≡ 0) → eqb (kind t) 3 ≡ constant_head t
      go (app f a) o = absurd (o refl)
      go (lam b) o = refl
      go (loc i) o = refl
      go (con i) o = refl
      go (var i) o = refl

  -- one record
  module _ (k : ℕ) where
    pub guarded_body : get_or l 0 0 ≡ 1 → (m : List ℕ) → ((b : Term) → l ≡ encode (lam b) → m ≡ encode b) → (r : Bool)
        → Equals m (guarded (k + 1)) r → Equals l (guarded k) r
    guarded_body z m body r h t e =
        let v = abstraction_of l t e z in
        let j : suc k ≡ k + 1 = omega arith in
        rw v.is (h v.b (body v.b v.bytes) ∙ ap (λ (i : ℕ). guarded i v.b) (sym j))

    -- an application
    module _ (z : get_or l 0 0 ≡ 0) (m : List ℕ) (head : (f a : Term) → l ≡ encode (app f a) → m ≡ encode f) (g : Bool)
        (x : Equals m (guarded k) g) where
      pub guarded_stop : g ≡ false → Equals l (guarded k) false
      guarded_stop q t e =
          let v = application_of l t e z in
          rw (v.is, sym (x v.f (head v.f v.a v.bytes)) ∙ q)

      module _ (q : g ≡ true) (n : List ℕ) (argument : (f a : Term) → l ≡ encode (app f a) → n ≡ encode a) (b : Bool)
          (y : Equals n (is_local k) b) where
        pub guarded_constant : b ≡ true → (c : Bool) → Equals m constant_head c → Equals l (guarded k) c
        guarded_constant o c w t e =
            let v = application_of l t e z in
            let f = head v.f v.a v.bytes in
            rw (v.is, sym (x v.f f) ∙ q, sym (y v.a (argument v.f v.a v.bytes)) ∙ o) (w v.f f)

        pub guarded_argument : b ≡ false → (c : Bool) → Equals n (guarded k) c → Equals l (guarded k) c
        guarded_argument o c w t e =
            let v = application_of l t e z in
            let a = argument v.f v.a v.bytes in
            rw (v.is, sym (x v.f (head v.f v.a v.bytes)) ∙ q, sym (y v.a a) ∙ o) (w v.a a)
