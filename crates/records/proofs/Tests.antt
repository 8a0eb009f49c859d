-- Tests of a table and of a part: what each kind of first record gives. By the term's kind, and one law for each way through a test,
-- whatever is asked. Assumes nothing.
use mathlib.Core.Path.{◌≡◌, refl, sym, ap, ap₂, ◌∙◌, subst}
use mathlib.Core.Bool.{Bool, true, false, not, ◌&&◌}
use mathlib.Core.Logic.{◌↔◌}
use mathlib.Core.List.{List}
use Prim.Native.Nat.{ℕ, suc, ◌+◌, ◌-◌, ◌*◌}
use native.Mathlib.Omega.{arith}
use lib.Dec.{T, eqb}
use lib.ListN.{length, get_or}
use borrow.Author.Tests.{ltb-true, ltb-false, not-true, not-false, eq-eqb, ne_eqb}
use Rattle.terms.specs.Term.{Term, app, lam, loc, con, var, size, uses, is_innermost, is_eta, Normal}
use Rattle.terms.specs.Table.{encode}
use Rattle.terms.proofs.Table.{kind, number_of, encode_length}
use Rattle.terms.proofs.Tests.{or_false, and_true}
use Rattle.terms.proofs.Substitute.{size_pos}
use Rattle.records.specs.declared.Ask.{Ask}
use Rattle.records.specs.declared.Ask.TheVariants.{Bound, Other}
use Rattle.std.specs.Prelude.{is_some}
use Rattle.std.specs.Bool.{then_some}
use Rattle.std.specs.declared.option.Option.{Option}
use Rattle.std.specs.declared.option.Option.TheVariants.{Some, None}
use Rattle.records.specs.Record.{number_at, innermost_at}
use Rattle.records.specs.Parts.{Part, Whole, Ends}
use Rattle.records.specs.Tests.{Says, Equals, Head, Tells, asked, Asks, Walked}
use Rattle.records.proofs.Parts.{at_start, application, abstraction, argument_part, kind_at, number_at_lem, ends_app, ends_lam, ends_leaf}

pub says : (A : Type 0) (b r : Bool) → Says b A → b ≡ r → Says r A
says A b r x e = subst (λ (c : Bool). Says c A) e x

-- a Bool that is not false
pub not_false_true : (b : Bool) → ¬ (b ≡ false) → true ≡ b
not_false_true true n = refl
not_false_true false n = absurd (n refl)

-- what holds of a part, by its first record
module _ (l : List ℕ) (at : ℕ) (G : Term → Type 0) where
  pub part_local : get_or l at 0 ≡ 2 → G (loc (number_at l at)) → (t : Term) → Part l at t → G t
  part_local k g (app f a) x = absurd (omega (arith, kind_at l at (app f a) x))
  part_local k g (lam b) x = absurd (omega (arith, kind_at l at (lam b) x))
  part_local k g (loc n) x = subst (λ (i : ℕ). G (loc i)) (number_at_lem l at (loc n) x) g
  part_local k g (con n) x = absurd (omega (arith, kind_at l at (con n) x))
  part_local k g (var n) x = absurd (omega (arith, kind_at l at (var n) x))

  pub part_other : ¬ (get_or l at 0 ≡ 0) → ¬ (get_or l at 0 ≡ 1) → ¬ (get_or l at 0 ≡ 2) → ((n : ℕ) → G (con n)) → ((n : ℕ) → G (var n))
      → (t : Term) → Part l at t → G t
  part_other p q r c v (app f a) x = absurd (p (kind_at l at (app f a) x))
  part_other p q r c v (lam b) x = absurd (q (kind_at l at (lam b) x))
  part_other p q r c v (loc n) x = absurd (r (kind_at l at (loc n) x))
  part_other p q r c v (con n) x = c n
  part_other p q r c v (var n) x = v n

-- a walk: a head and an argument, a head that stops it, a body, the same part with something else asked, a record with no parts
module _ (l : List ℕ) (at : ℕ) (P : Term → Type 0) where
  pub walked_ends : (h : ℕ) → Walked l at P (Some h) → Ends l at h
  unfolding Walked
  walked_ends h x = x.0

  pub walked_app : (Q R : Term → Type 0) (h : ℕ) (r : Option ℕ) → get_or l at 0 ≡ 0 → ((f a : Term) → P (app f a) ↔ (Q f × R a))
      → Walked l (at + 4) Q (Some h) → Walked l h R r → Walked l at P r
  unfolding Walked
  walked_app Q R h (Some m) k i z y = (
    ends_app l at h m k z.0 y.0,
    λ t x.
        let v = application l at t x k in
        subst P (sym v.is) ((i v.f v.a).1 (z.1 v.f v.head, y.1 v.a (argument_part l at h t z.0 v))),
  )
  walked_app Q R h None k i z y = λ t x q.
      let v = application l at t x k in
      y v.a (argument_part l at h t z.0 v) ((i v.f v.a).0 (subst P v.is q)).1

  pub walked_stop : (Q R : Term → Type 0) → get_or l at 0 ≡ 0 → ((f a : Term) → P (app f a) ↔ (Q f × R a)) → Walked l (at + 4) Q None
      → Walked l at P None
  unfolding Walked
  walked_stop Q R k i z = λ t x q. let v = application l at t x k in z v.f v.head ((i v.f v.a).0 (subst P v.is q)).0

  pub walked_lam : (Q : Term → Type 0) (r : Option ℕ) → get_or l at 0 ≡ 1 → ((b : Term) → P (lam b) ↔ Q b)
      → Walked l (at + 4) Q r → Walked l at P r
  unfolding Walked
  walked_lam Q (Some h) k i y =
      (ends_lam l at h k y.0, λ t x. let v = abstraction l at t x k in subst P (sym v.is) ((i v.b).1 (y.1 v.b v.body)))
  walked_lam Q None k i y = λ t x q. let v = abstraction l at t x k in y v.b v.body ((i v.b).0 (subst P v.is q))

  pub walked_same : (Q : Term → Type 0) (w : Option ℕ) → ((t : Term) → Part l at t → P t ↔ Q t) → Walked l at Q w → Walked l at P w
  unfolding Walked
  walked_same Q (Some h) i y = (y.0, λ t x. (i t x).1 (y.1 t x))
  walked_same Q None i y = λ t x q. y t x ((i t x).0 q)

  pub walked_leaf : Whole l at → ¬ (get_or l at 0 ≡ 0) → ¬ (get_or l at 0 ≡ 1) → ((t : Term) → Part l at t → P t)
      → Walked l at P (Some (at + 4))
  unfolding Walked
  walked_leaf w n m g = (ends_leaf l at n m w, g)

  pub walked_no : ((t : Term) → Part l at t → ¬ P t) → Walked l at P None
  unfolding Walked
  walked_no g = g

-- a walk over a whole table
pub walked_table : (l : List ℕ) (P : Term → Type 0) (w : Option ℕ) → Walked l 0 P w → Tells l P (is_some w)
unfolding Walked
walked_table l P (Some h) x t q = x.1 t (at_start l t q)
walked_table l P None x t q = x t (at_start l t q)

-- what is asked of locals goes by the parts
pub asks_two : (q : Ask) (n : ℕ) (f a : Term) → Asks q n (app f a) ↔ (Asks q n f × Asks q n a)
asks_two Bound n f a = (λ p. p, λ p. p)
asks_two Other n f a = (λ p. or_false (uses n f) (uses n a) p, λ p. rw (p.0, p.1))

pub asks_under : (q : Ask) (n : ℕ) (b : Term) → Asks q n (lam b) ↔ Asks q (n + 1) b
asks_under q n b =
    let e : suc n ≡ n + 1 = omega arith in
    (λ p. subst (λ (k : ℕ). Asks q k b) e (go q p), λ p. back q (subst (λ (k : ℕ). Asks q k b) (sym e) p))
  where
    go : (q : Ask) → Asks q n (lam b) → Asks q (suc n) b
    go Bound p = p
    go Other p = p

    back : (q : Ask) → Asks q (suc n) b → Asks q n (lam b)
    back Bound p = p
    back Other p = p

pub asks_local : (q : Ask) (i n : ℕ) → asked q i n ≡ true → Asks q n (loc i)
asks_local Bound i n e = ltb-true i n e
asks_local Other i n e = not-true (eqb i n) e

pub asks_local_no : (q : Ask) (i n : ℕ) → asked q i n ≡ false → ¬ Asks q n (loc i)
asks_local_no Bound i n e p = omega (arith, ltb-false i n e)
asks_local_no Other i n e p = let z : T false = subst T (sym (not-false (eqb i n) e) ∙ p) tt in z

-- the walk over a local, by what is asked of it
pub walked_asked : (l : List ℕ) (q : Ask) (n : ℕ) (b : Bool) → Whole l 0 → get_or l 0 0 ≡ 2 → b ≡ asked q (number_at l 0) n
    → Walked l 0 (Asks q n) (then_some b 4)
walked_asked l q n true w k e =
    walked_leaf l 0 (Asks q n) w (λ p. omega arith) (λ p. omega arith)
    (part_local l 0 (Asks q n) k (asks_local q (number_at l 0) n (sym e)))
walked_asked l q n false w k e =
    walked_no l 0 (Asks q n) (part_local l 0 (λ t. ¬ Asks q n t) k (asks_local_no q (number_at l 0) n (sym e)))

pub asks_con : (q : Ask) (n i : ℕ) → Asks q n (con i)
asks_con Bound n i = tt
asks_con Other n i = refl

pub asks_var : (q : Ask) (n i : ℕ) → Asks q n (var i)
asks_var Bound n i = tt
asks_var Other n i = refl

-- a term that ends behind a record is the innermost local if it begins there and the record is that local
leaf_last : (l : List ℕ) (at last : ℕ) (a : Term) → Part l at a → at ≡ last → is_innermost a ≡ (eqb (kind a) 2 && eqb (number_of a) 0)
    → is_innermost a ≡ (eqb at last && innermost_at l last)
leaf_last l at last a x e i =
    subst (λ (k : ℕ). is_innermost a ≡ (eqb at k && innermost_at l k)) e
    (i ∙ ap₂ (λ (k n : ℕ). eqb k 2 && eqb n 0) (sym (kind_at l at a x)) (sym (number_at_lem l at a x))
    ∙ ap (◌&& innermost_at l at) (sym (eq-eqb at at refl)))

innermost_last : (l : List ℕ) (at last : ℕ) (a : Term) → Part l at a → last + 4 ≡ at + 4 * size a
    → is_innermost a ≡ (eqb at last && innermost_at l last)
innermost_last l at last (app f a) x e = ap (◌&& innermost_at l last) (sym (ne_eqb at last (λ p. omega (arith, size_pos f))))
innermost_last l at last (lam b) x e = ap (◌&& innermost_at l last) (sym (ne_eqb at last (λ p. omega (arith, size_pos b))))
innermost_last l at last (loc n) x e = leaf_last l at last (loc n) x (omega arith) refl
innermost_last l at last (con n) x e = leaf_last l at last (con n) x (omega arith) refl
innermost_last l at last (var n) x e = leaf_last l at last (var n) x (omega arith) refl

-- the test for an abstraction that is itself a redex, by what it looks at in turn
module _ (l : List ℕ) where
  module _ (k : get_or l 0 0 ≡ 0) where
    by_last : (G : Bool → Type 0)
        → ((f : Term) → Part l 4 f → G ((eqb (4 + 4 * size f) (length l - 4) && innermost_at l (length l - 4)) && not (uses 0 f)))
        → (t : Term) → l ≡ encode t → G (is_eta t)
    by_last G g t e =
        let v = application l 0 t (at_start l t e) k in
        let p = innermost_last l (4 + 4 * size v.f) (length l - 4) v.a v.argument
        (omega (arith, ap size v.is, ap length e, encode_length t)) in
        subst G (sym (ap is_eta v.is ∙ ap (◌&& not (uses 0 v.f)) p)) (g v.f v.head)

    pub eta_other_last : innermost_at l (length l - 4) ≡ false → Equals l is_eta false
    eta_other_last p =
        by_last (λ (b : Bool). false ≡ b) λ f x.
        go (eqb (4 + 4 * size f) (length l - 4)) (not (uses 0 f))
        ∙ ap (λ (b : Bool). (eqb (4 + 4 * size f) (length l - 4) && b) && not (uses 0 f)) (sym p)
      where
        go : (x y : Bool) → false ≡ ((x && false) && y)
        go true y = refl
        go false y = refl

    pub eta_used : Walked l 4 (Asks Other 0) None → Equals l is_eta false
    unfolding Walked
    eta_used z =
        by_last (λ (b : Bool). false ≡ b)
        λ f x. go (eqb (4 + 4 * size f) (length l - 4) && innermost_at l (length l - 4)) (uses 0 f) (not_false_true (uses 0 f) (z f x))
      where
        go : (x y : Bool) → true ≡ y → false ≡ (x && not y)
        go true y e = ap not e
        go false y e = refl

    pub eta_ends : (h : ℕ) → innermost_at l (length l - 4) ≡ true → Walked l 4 (Asks Other 0) (Some h)
        → Equals l is_eta (eqb h (length l - 4))
    unfolding Walked
    eta_ends h p z =
        by_last (λ (b : Bool). eqb h (length l - 4) ≡ b) λ f x.
        ap (λ (i : ℕ). eqb i (length l - 4)) (z.0.exact f x)
        ∙ sym (and_true (eqb (4 + 4 * size f) (length l - 4) && true) ∙ and_true (eqb (4 + 4 * size f) (length l - 4)))
        ∙ ap₂ (λ (b c : Bool). (eqb (4 + 4 * size f) (length l - 4) && b) && not c) (sym p) (sym (z.1 f x))

-- what may be a head: no abstraction, an application whose head may be one and whose argument is normal, a record with no parts
head_leaf : (k : ℕ) → ¬ (k ≡ 0) → ¬ (k ≡ 1) → (t : Term) → k ≡ kind t → Head t
head_leaf k n m (app f a) e = absurd (n e)
head_leaf k n m (lam b) e = absurd (m e)
head_leaf k n m (loc i) e = (tt, tt)
head_leaf k n m (con i) e = (tt, tt)
head_leaf k n m (var i) e = (tt, tt)

pub head_two : (f a : Term) → Head (app f a) ↔ (Head f × Normal a)
head_two f a = (λ x. ((x.1.0, x.1.1), x.1.2), λ x. (tt, (x.0.0, x.0.1, x.1)))

pub normal_two : (f a : Term) → Normal (app f a) ↔ (Head f × Normal a)
normal_two f a = (λ x. ((x.0, x.1), x.2), λ x. (x.0.0, x.0.1, x.1))

module _ (l : List ℕ) (at : ℕ) where
  pub head_abstraction : get_or l at 0 ≡ 1 → Walked l at Head None
  head_abstraction k =
      walked_no l at Head λ t x q. let v = abstraction l at t x k in let p : Head (lam v.b) = subst Head v.is q in p.0

  pub head_none : Whole l at → ¬ (get_or l at 0 ≡ 0) → ¬ (get_or l at 0 ≡ 1) → Walked l at Head (Some (at + 4))
  head_none w n m = walked_leaf l at Head w n m λ t x. head_leaf (get_or l at 0) n m t (kind_at l at t x)

  pub normal_none : Whole l at → ¬ (get_or l at 0 ≡ 0) → ¬ (get_or l at 0 ≡ 1) → Walked l at Normal (Some (at + 4))
  normal_none w n m = walked_leaf l at Normal w n m λ t x. (head_leaf (get_or l at 0) n m t (kind_at l at t x)).1

-- an abstraction is normal as its body is, unless it is itself a redex
module _ (l : List ℕ) (at : ℕ) (k : get_or l at 0 ≡ 1) where
  pub normal_stop : Walked l (at + 4) Normal None → Walked l at Normal None
  unfolding Walked
  normal_stop z t y q = let v = abstraction l at t y k in let p : Normal (lam v.b) = subst Normal v.is q in z v.b v.body p.1

  module _ (end : ℕ) (r : Bool) (g : (b : Term) → Part l (at + 4) b → r ≡ is_eta b) where
    pub normal_redex : r ≡ true → Walked l at Normal None
    normal_redex p =
        walked_no l at Normal λ t y q.
        let v = abstraction l at t y k in
        let n : Normal (lam v.b) = subst Normal v.is q in
        subst (λ (c : Bool). T (not c)) (sym (g v.b v.body) ∙ p) n.0

    pub normal_body : r ≡ false → Walked l (at + 4) Normal (Some end) → Walked l at Normal (Some end)
    normal_body p x =
        walked_lam l at Normal (λ b. T (not (is_eta b)) × Normal b) (Some end) k (λ b. (λ n. n, λ n. n))
        (walked_same l (at + 4) (λ b. T (not (is_eta b)) × Normal b) Normal (Some end)
        (λ b y. (λ n. n.1, λ n. (subst (λ (c : Bool). T (not c)) (sym p ∙ g b y) tt, n))) x)
