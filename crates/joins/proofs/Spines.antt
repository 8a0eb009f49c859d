-- One variable applied to constants at two places of the pattern. By the applications, each of which adds the pair of its arguments, and
-- for a pair that is looked up by the pairs that were passed. Assumes nothing.
--   PairPassed P q m n d k   the constants m and n are none of the pairs of q but the last k of its list
use mathlib.Core.Path.{◌≡◌, refl, sym, ap, ap₂, ◌∙◌, subst}
use mathlib.Core.Bool.{Bool, true, false, ◌&&◌}
use mathlib.Core.Logic.{inl, inr}
use mathlib.Core.List.{List, ◌∷◌}
use Prim.Native.Nat.{ℕ, zero, suc, ◌+◌, ◌-◌, ◌*◌, ◌≤◌, ◌<◌}
use native.Mathlib.Omega.{arith}
use native.Mathlib.Numerals.{add-one}
use lib.Dec.{T, eqb}
use lib.ListN.{length, get_or}
use borrow.Author.Tests.{eq-eqb, ne_eqb}
use Rattle.std.specs.declared.option.Option.{Option}
use Rattle.std.specs.declared.option.Option.TheVariants.{Some, None}
use Rattle.terms.specs.Figures.{pattern_records}
use Rattle.terms.specs.Term.{app, var}
use Rattle.terms.specs.Listing.{In}
use Rattle.matching.specs.Repeated.{spine, firsts, seconds, at_constants}
use Rattle.records.specs.Record.{number_at}
use Rattle.records.specs.Parts.{Part, Whole, Ends}
use Rattle.records.proofs.Parts.{application, argument_part, whole_argument, ends_app, ends_leaf, constant_at, variable_at}
use Rattle.joins.specs.declared.pairs.Pairs.{Pairs}
use Rattle.joins.specs.Pairs.{pairs_at, pairs_of, Reads, Locates, Adding, Added, Adds, Repeated, Repeats}

-- the list of pairs
pub pairs_length : (P : List ℕ) (v w n : ℕ) → length (pairs_at P v w n) ≡ n
pairs_length P v w zero = refl
pairs_length P v w (suc n) = ap suc (pairs_length P v w n)

pairs_more : (P : List ℕ) (v w n : ℕ)
    → pairs_at P v w (n + 1) ≡ (number_at P (v + 4 * (n + 1)), number_at P (w + 4 * (n + 1))) ∷ pairs_at P v w n
pairs_more P v w n =
    subst (λ (k : ℕ). pairs_at P v w k ≡ (number_at P (v + 4 * k), number_at P (w + 4 * k)) ∷ pairs_at P v w n) (sym (add-one n)) refl

-- the test of one pair
pub pair_not : (m a x : ℕ) (b : Bool) → a ≡ x → ¬ (m ≡ a) → false ≡ (eqb m x && b)
pair_not m a x b e h = rw (ne_eqb m x (λ q. h (q ∙ sym e)))

pub pair_is : (m n a b x y : ℕ) → a ≡ x → b ≡ y → m ≡ a → eqb n b ≡ (eqb m x && eqb n y)
pair_is m n a b x y e f h = rw (eq-eqb m x (h ∙ e)) (ap (eqb n) f)

-- a pair that is looked up
pub record PairPassed (P : List ℕ) (q : Pairs) (m n d k : ℕ) : Type 0 where
  pub most : k ≤ q.count
  pub same : at_constants d (pairs_of P q) m n ≡ at_constants (d + (q.count - k)) (pairs_at P q.first q.second k) m n
  pub among : In (m, n) (pairs_of P q) → In (m, n) (pairs_at P q.first q.second k)

module _ (P : List ℕ) (q : Pairs) (m n d : ℕ) where
  pub pairs_passed_first : PairPassed P q m n d q.count
  pairs_passed_first = record {
    most = omega arith;
    same = ap (λ (e : ℕ). at_constants e (pairs_of P q) m n) (omega arith);
    among = λ i. i;
  }

  pub passed_pair :
      (k : ℕ) (b : Bool) → Reads P q → PairPassed P q m n d k → 0 < k
      → b ≡ (eqb m (number_at P (q.first + 4 * k)) && eqb n (number_at P (q.second + 4 * k))) → b ≡ true
      → Locates (pairs_of P q) m n d (Some (d + (q.count - k)))
  unfolding Locates
  passed_pair zero b r x h e t = absurd (omega arith)
  passed_pair (suc k) b r x h e t =
      let y : (eqb m (number_at P (q.first + 4 * suc k)) && eqb n (number_at P (q.second + 4 * suc k))) ≡ true = sym e ∙ t in
      (x.same ∙ rw y refl, omega (arith, r.first, r.short))

  pub passed_next :
      (k : ℕ) (b : Bool) → PairPassed P q m n d k → 0 < k
      → b ≡ (eqb m (number_at P (q.first + 4 * k)) && eqb n (number_at P (q.second + 4 * k))) → b ≡ false → PairPassed P q m n d (k - 1)
  passed_next zero b x h e t = absurd (omega arith)
  passed_next (suc k) b x h e t =
      let z : suc k - 1 ≡ k = omega arith in
      subst (PairPassed P q m n d) (sym z) (record {
        most = omega (arith, x.most);
        same = x.same ∙ rw y (ap (λ (i : ℕ). at_constants i (pairs_at P q.first q.second k) m n) (omega (arith, x.most)));
        among = λ i. go (x.among i);
      })
    where
      y : (eqb m (number_at P (q.first + 4 * suc k)) && eqb n (number_at P (q.second + 4 * suc k))) ≡ false
      y = sym e ∙ t

      go : In (m, n) (pairs_at P q.first q.second (suc k)) → In (m, n) (pairs_at P q.first q.second k)
      go (inl i) =
          let f : true ≡ false =
          sym (rw (
            eq-eqb m (number_at P (q.first + 4 * suc k)) (ap (λ z. z.0) i),
            eq-eqb n (number_at P (q.second + 4 * suc k)) (ap (λ z. z.1) i),
          )) ∙ y in
          absurd (subst T f tt)
      go (inr i) = i

  pub pairs_passed : (k : ℕ) → PairPassed P q m n d k → k ≤ 0 → Locates (pairs_of P q) m n d None
  unfolding Locates
  pairs_passed zero x h = x.among
  pairs_passed (suc k) x h = absurd (omega arith)

pub located_nothing : (ps : List (ℕ × ℕ)) (m n d : ℕ) (r : Option ℕ) → Locates ps m n d r → r ≡ None → ¬ In (m, n) ps
unfolding Locates
located_nothing ps m n d r x e = let y : Locates ps m n d None = subst (Locates ps m n d) e x in y

-- one pair more
module _ (P : List ℕ) (q : Pairs) where
  pub adds_nothing : Adds P q None
  unfolding Adds
  adds_nothing = tt

  pub adds_pair :
      (m n : ℕ) (r : Option ℕ) → get_or P (q.first + 4 * (q.count + 1)) 0 ≡ 3 → get_or P (q.second + 4 * (q.count + 1)) 0 ≡ 3
      → m ≡ number_at P (q.first + 4 * (q.count + 1))
      → n ≡ number_at P (q.second + 4 * (q.count + 1)) → ¬ (m ≡ n) → Locates (pairs_of P q) m n 0 r → r ≡ None
      → Adds P q (Some (record { first = q.first; second = q.second; count = q.count + 1 }))
  unfolding Adds
  adds_pair m n r k l e f h x t = record {
    is = refl;
    first = k;
    second = l;
    differ = λ z. h (e ∙ z ∙ sym f);
    other = λ z. located_nothing (pairs_of P q) m n 0 r x t
        (subst (λ i. In i (pairs_of P q)) (ap₂ (λ (i j : ℕ). (i, j)) (sym e) (sym f)) z);
  }

-- the parts at two places
module _ (P : List ℕ) (x y : ℕ) where
  pub repeats_other : Repeats P x y None
  unfolding Repeats
  repeats_other = tt

  pub repeats_variable :
      (m n : ℕ) → Whole P x → Whole P y → get_or P x 0 ≡ get_or P y 0 → get_or P x 0 ≡ 4 → m ≡ number_at P x → n ≡ number_at P y → m ≡ n
      → Repeats P x y (Some (record { first = x; second = y; count = 0 }))
  unfolding Repeats
  repeats_variable m n u v s k e f h = record {
    number = m;
    variable = subst (Part P x) (variable_at P x m u.tree u.part k e) u.part;
    first = λ t z. variable_at P x m t z k e;
    second = λ t z. variable_at P y m t z (sym s ∙ k) (h ∙ f);
    first_ends = ends_leaf P x (λ z. omega arith) (λ z. omega arith) u;
    second_ends = ends_leaf P y (λ z. omega (arith, s)) (λ z. omega (arith, s)) v;
    apart = tt;
  }

  module _ (u : Whole P x) (v : Whole P y) (s : get_or P x 0 ≡ get_or P y 0) (k : get_or P x 0 ≡ 0) (r : Option Pairs) (q : Pairs)
      (e : r ≡ Some q)
      (w : Repeats P (x + 4) (y + 4) r) where
    heads : Repeated P (x + 4) (y + 4) q
    unfolding Repeats
    heads = let z : Repeats P (x + 4) (y + 4) (Some q) = subst (Repeats P (x + 4) (y + 4)) e w in z

    pub repeats_adding : length P ≤ 4 * pattern_records → Adding P q
    repeats_adding h = record {
      first = whole_argument P x _ u k heads.first_ends;
      second = whole_argument P y _ v (sym s ∙ k) heads.second_ends;
      reads = record { first = heads.first_ends.within; second = heads.second_ends.within; short = h };
    }

    i : ℕ
    i = q.first + 4 * (q.count + 1)

    j : ℕ
    j = q.second + 4 * (q.count + 1)

    longer : Pairs
    longer = record { first = q.first; second = q.second; count = q.count + 1 }

    added : (r : Pairs) → Added P q r → Repeated P x y longer
    unfolding i j longer
    added r a = record {
      number = heads.number;
      variable = heads.variable;
      first = λ t z.
          let g = application P x t z k in
          g.is ∙ ap₂ app (heads.first g.f g.head)
          (constant_at P i (number_at P i) g.a (argument_part P x i t heads.first_ends g) a.first refl)
          ∙ ap (λ l. spine (var heads.number) (firsts l)) (sym more);
      second = λ t z.
          let g = application P y t z (sym s ∙ k) in
          g.is ∙ ap₂ app (heads.second g.f g.head)
          (constant_at P j (number_at P j) g.a (argument_part P y j t heads.second_ends g) a.second refl)
          ∙ ap (λ l. spine (var heads.number) (seconds l)) (sym more);
      first_ends =
          subst (Ends P x) (omega arith)
          (ends_app P x i (i + 4) k heads.first_ends
          (ends_leaf P i (λ z. omega (arith, a.first)) (λ z. omega (arith, a.first)) (whole_argument P x i u k heads.first_ends)));
      second_ends =
          subst (Ends P y) (omega arith)
          (ends_app P y j (j + 4) (sym s ∙ k) heads.second_ends (ends_leaf P j (λ z. omega (arith, a.second))
          (λ z. omega (arith, a.second)) (whole_argument P y j v (sym s ∙ k) heads.second_ends)));
      apart = rw more (a.differ, a.other, heads.apart);
    }
      where
        more : pairs_at P q.first q.second (q.count + 1)
            ≡ (number_at P (q.first + 4 * (q.count + 1)), number_at P (q.second + 4 * (q.count + 1))) ∷ pairs_of P q
        more = pairs_more P q.first q.second q.count

    pub repeats_application : (o : Option Pairs) → Adds P q o → Repeats P x y o
    unfolding Repeats Adds longer
    repeats_application (Some o) a = subst (Repeated P x y) (sym a.is) (added o a)
    repeats_application None a = tt
