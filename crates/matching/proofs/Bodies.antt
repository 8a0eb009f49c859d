-- The bodies that come to a target with an argument put in, one for each choice at each copy of the argument. By induction on the target:
-- at a copy the local stands or the copy stays, and elsewhere the body has the target's form. Assumes nothing.
--   Leaf t   t has no part but itself
use mathlib.Core.Path.{◌≡◌, refl, sym, ap, ap₂, ◌∙◌, subst}
use mathlib.Core.Bool.{Bool, true, false, cond, ◌||◌}
use mathlib.Core.Logic.{◌⊎◌, inl, inr, ⊎_elim, ◌↔◌}
use Prim.Native.Nat.{ℕ, suc, ◌+◌, ◌≤◌, ◌<◌}
use native.Mathlib.Numerals.{add-one}
use native.Mathlib.Omega.{arith}
use native.Mathlib.Decide.{dec_lt}
use lib.Dec.{T, ltb}
use borrow.Author.Tests.{lt-ltb, le-ltb, eq-eqb}
use Rattle.terms.specs.Term.{Term, app, lam, loc, con, var, Normal, Closed, Ground, size, shift, substitute, uses, is_eta}
use Rattle.terms.specs.Sweep.{fill}
use Rattle.terms.proofs.Tests.{by_eqb, or_true, or_right}
use Rattle.terms.proofs.Shift.{shift_unshift, unused_shift, size_shift}
use Rattle.terms.proofs.Substitute.{by_substitute, substitute_here, substitute_unused, substitute_shift, normal_substitute, size_pos}
use Rattle.terms.proofs.Substitute.{size_used}
use Rattle.terms.proofs.Contracted.{contracted_sweep}
use Rattle.terms.proofs.Table.{lam_inj}
use Rattle.matching.specs.Bodies.{ChosenSoFar, copies, choose, body, Some, Family, either}
use Rattle.matching.specs.Abstractions.{same}
use Rattle.matching.specs.Goals.{Sweeps, Build}
use Rattle.matching.proofs.Decide.{by_dec, either_no}
use Rattle.matching.proofs.Step.{lam_normal_of}
use Rattle.matching.proofs.Cuts.{replace_all, replace_all_here}
use Rattle.matching.proofs.Targets.{closed_shift, ground_shift}

-- the terms with no part but themselves
abbrev pub Leaf : Term → Type 0
Leaf (app f a) = ⊥
Leaf (lam b) = ⊥
Leaf (loc n) = Unit {0}
Leaf (con n) = Unit {0}
Leaf (var n) = Unit {0}

-- what holds at a copy, and at any other term if it holds of the parts, holds of the copies and the bodies
pub body_induction :
    (e : Term) (P : ℕ → Term → ℕ → Family → Type 0)
    → ((d : ℕ) (t : Term) → t ≡ shift d 0 e → P d t 1 (λ c k. choose (c k) d t))
    → ((d : ℕ) (f a : Term) (m n : ℕ) (x y : Family) → ¬ (app f a ≡ shift d 0 e) → P d f m x → P d a n y
    → P d (app f a) (m + n) (λ c k. app (x c k) (y c (k + m))))
    → ((d : ℕ) (b : Term) (n : ℕ) (x : Family) → ¬ (lam b ≡ shift d 0 e) → P (suc d) b n x → P d (lam b) n (λ c k. lam (x c k)))
    → ((d : ℕ) (t : Term) → Leaf t → ¬ (t ≡ shift d 0 e) → P d t 0 (λ c k. shift 1 d t))
    → (d : ℕ) (t : Term) → P d t (copies e d t) (body e d t)
body_induction e P here at_app at_lam at_leaf = go
  where
    go : (d : ℕ) (t : Term) → P d t (copies e d t) (body e d t)
    go d (app f a) =
        by_dec (λ o. P d (app f a) (either o 1 (copies e d f + copies e d a))
        (λ c k. either o (choose (c k) d (app f a)) (app (body e d f c k) (body e d a c (k + copies e d f)))))
        (same (app f a) (shift d 0 e)) (here d (app f a))
        (λ q. at_app d f a (copies e d f) (copies e d a) (body e d f) (body e d a) q (go d f) (go d a))
    go d (lam b) =
        by_dec (λ o. P d (lam b) (either o 1 (copies e (suc d) b)) (λ c k. either o (choose (c k) d (lam b)) (lam (body e (suc d) b c k))))
        (same (lam b) (shift d 0 e)) (here d (lam b)) (λ q. at_lam d b (copies e (suc d) b) (body e (suc d) b) q (go (suc d) b))
    go d (loc n) =
        by_dec (λ o. P d (loc n) (either o 1 0) (λ c k. either o (choose (c k) d (loc n)) (shift 1 d (loc n)))) (same (loc n) (shift d 0 e))
        (here d (loc n)) (at_leaf d (loc n) tt)
    go d (con n) =
        by_dec (λ o. P d (con n) (either o 1 0) (λ c k. either o (choose (c k) d (con n)) (con n))) (same (con n) (shift d 0 e))
        (here d (con n)) (at_leaf d (con n) tt)
    go d (var n) =
        by_dec (λ o. P d (var n) (either o 1 0) (λ c k. either o (choose (c k) d (var n)) (var n))) (same (var n) (shift d 0 e))
        (here d (var n)) (at_leaf d (var n) tt)

-- at a copy, and at each kind of term that is none
pub body_here : (e : Term) (d : ℕ) (t : Term) (c : ℕ → Bool) (k : ℕ) → t ≡ shift d 0 e → body e d t c k ≡ choose (c k) d t
body_here e =
    body_induction e (λ d t n x. (c : ℕ → Bool) (k : ℕ) → t ≡ shift d 0 e → x c k ≡ choose (c k) d t) (λ d t p c k q. refl)
    (λ d f a m n x y q hf ha c k p. absurd (q p)) (λ d b n x q h c k p. absurd (q p)) (λ d t _ q c k p. absurd (q p))

pub copies_here : (e : Term) (d : ℕ) (t : Term) → t ≡ shift d 0 e → copies e d t ≡ 1
copies_here e =
    body_induction e (λ d t n x. t ≡ shift d 0 e → n ≡ 1) (λ d t p q. refl) (λ d f a m n x y q hf ha p. absurd (q p))
    (λ d b n x q h p. absurd (q p))
    (λ d t _ q p. absurd (q p))

module _ (e : Term) (d : ℕ) where
  pub copies_app : (f a : Term) → ¬ (app f a ≡ shift d 0 e) → copies e d (app f a) ≡ copies e d f + copies e d a
  copies_app f a n = either_no (same (app f a) (shift d 0 e)) _ _ n

  pub body_app : (f a : Term) (c : ℕ → Bool) (k : ℕ) → ¬ (app f a ≡ shift d 0 e)
      → body e d (app f a) c k ≡ app (body e d f c k) (body e d a c (k + copies e d f))
  body_app f a c k n = either_no (same (app f a) (shift d 0 e)) _ _ n

  pub copies_lam : (b : Term) → ¬ (lam b ≡ shift d 0 e) → copies e d (lam b) ≡ copies e (suc d) b
  copies_lam b n = either_no (same (lam b) (shift d 0 e)) _ _ n

  pub body_lam : (b : Term) (c : ℕ → Bool) (k : ℕ) → ¬ (lam b ≡ shift d 0 e) → body e d (lam b) c k ≡ lam (body e (suc d) b c k)
  body_lam b c k n = either_no (same (lam b) (shift d 0 e)) _ _ n

pub body_leaf : (e : Term) (d : ℕ) (t : Term) (c : ℕ → Bool) (k : ℕ) → Leaf t → ¬ (t ≡ shift d 0 e) → body e d t c k ≡ shift 1 d t
body_leaf e =
    body_induction e (λ d t n x. (c : ℕ → Bool) (k : ℕ) → Leaf t → ¬ (t ≡ shift d 0 e) → x c k ≡ shift 1 d t)
    (λ d t p c k l q. absurd (q p))
    (λ d f a m n x y q hf ha c k l p. absurd l) (λ d b n x q h c k l p. absurd l) (λ d t _ q c k l p. refl)

pub copies_leaf : (e : Term) (d : ℕ) (t : Term) → Leaf t → ¬ (t ≡ shift d 0 e) → copies e d t ≡ 0
copies_leaf e =
    body_induction e (λ d t n x. Leaf t → ¬ (t ≡ shift d 0 e) → n ≡ 0) (λ d t p l q. absurd (q p)) (λ d f a m n x y q hf ha l p. absurd l)
    (λ d b n x q h l p. absurd l) (λ d t _ q l p. refl)

size_leaf : (t : Term) → Leaf t → size t ≡ 1
size_leaf (loc n) l = refl
size_leaf (con n) l = refl
size_leaf (var n) l = refl
size_leaf (lam _) l = elim l [ ]
size_leaf (app _ _) l = elim l [ ]

-- the choice decides, and nothing else does
uses_choose : (b : Bool) (d : ℕ) (t : Term) → uses d (choose b d t) ≡ b
uses_choose true d t = eq-eqb d d refl
uses_choose false d t = unused_shift d t

substitute_choose : (e : Term) (b : Bool) (d : ℕ) (t : Term) → t ≡ shift d 0 e → substitute d e (choose b d t) ≡ t
substitute_choose e true d t p = substitute_here d e d refl ∙ sym p
substitute_choose e false d t p = substitute_shift d e t

pub body_substitute : (e : Term) (d : ℕ) (t : Term) (c : ℕ → Bool) (k : ℕ) → substitute d e (body e d t c k) ≡ t
body_substitute e =
    body_induction e (λ d t n x. (c : ℕ → Bool) (k : ℕ) → substitute d e (x c k) ≡ t) (λ d t p c k. substitute_choose e (c k) d t p)
    (λ d f a m n x y q hf ha c k. ap₂ app (hf c k) (ha c (k + m))) (λ d b n x q h c k. ap lam (h c k))
    (λ d t _ q c k. substitute_shift d e t)

-- the choices at the copies make the body
pub body_same :
    (e : Term) (d : ℕ) (t : Term) (c c' : ℕ → Bool) (k : ℕ) → ((i : ℕ) → k ≤ i → i < k + copies e d t → c i ≡ c' i)
    → body e d t c k ≡ body e d t c' k
body_same e =
    body_induction e (λ d t n x. (c c' : ℕ → Bool) (k : ℕ) → ((i : ℕ) → k ≤ i → i < k + n → c i ≡ c' i) → x c k ≡ x c' k)
    (λ d t p c c' k h. ap (λ b. choose b d t) (h k (omega arith) (omega arith)))
    (λ d f a m n x y q hf ha c c' k h. ap₂ app (hf c c' k (λ i l u. h i l (omega arith)))
    (ha c c' (k + m) (λ i l u. h i (omega arith) (omega arith))))
    (λ d b n x q hb c c' k h. ap lam (hb c c' k h)) (λ d t _ q c c' k h. refl)

-- and the body shows them
pub body_choice :
    (e : Term) (d : ℕ) (t : Term) (c c' : ℕ → Bool) (k : ℕ) → body e d t c k ≡ body e d t c' k
    → (i : ℕ) → k ≤ i → i < k + copies e d t → c i ≡ c' i
body_choice e =
    body_induction e (λ d t n x. (c c' : ℕ → Bool) (k : ℕ) → x c k ≡ x c' k → (i : ℕ) → k ≤ i → i < k + n → c i ≡ c' i)
    (λ d t p c c' k q i l u.
    let r : k ≡ i = omega arith in
    subst (λ j. c j ≡ c' j) r (sym (uses_choose (c k) d t) ∙ ap (uses d) q ∙ uses_choose (c' k) d t))
    (λ d f a m n x y _ hf ha c c' k q i l u. by_dec (λ _. c i ≡ c' i) (dec_lt i (k + m)) (λ v. hf c c' k (cc) i l v)
    (λ v. ha c c' (k + m) (cc) i (omega arith) (omega arith)))
    (λ d b n x _ hb c c' k q i l u. hb c c' k (cc) i l u) (λ d t _ _ c c' k q i l u. absurd (omega arith))

body_used : (e : Term) (d : ℕ) (t : Term) (c : ℕ → Bool) (k : ℕ) → uses d (body e d t c k) ≡ true → Some c k (copies e d t)
body_used e =
    body_induction e (λ d t n x. (c : ℕ → Bool) (k : ℕ) → uses d (x c k) ≡ true → Some c k n)
    (λ d t p c k u. (k, omega arith, omega arith, sym (uses_choose (c k) d t) ∙ u))
    (λ d f a m n x y q hf ha c k u.
    ⊎_elim (λ v. let r = hf c k v in (r.0, r.1, omega (arith, r.2), r.3))
    (λ v. let r = ha c (k + m) v in (r.0, omega (arith, r.1), omega (arith, r.2), r.3))
    (or_true (uses d (x c k)) (uses d (y c (k + m))) u))
    (λ d b n x q h c k u. h c k u) (λ d t _ q c k u. absurd (subst T (sym u ∙ unused_shift d t) tt))

used_body : (e : Term) (d : ℕ) (t : Term) (c : ℕ → Bool) (k : ℕ) → Some c k (copies e d t) → uses d (body e d t c k) ≡ true
used_body e =
    body_induction e (λ d t n x. (c : ℕ → Bool) (k : ℕ) → Some c k n → uses d (x c k) ≡ true)
    (λ d t p c k s. let r : s.0 ≡ k = omega (arith, s.1, s.2) in uses_choose (c k) d t ∙ subst (λ j. c j ≡ true) r s.3)
    (λ d f a m n x y q hf ha c k s. by_dec (λ _. uses d (app (x c k) (y c (k + m))) ≡ true) (dec_lt s.0 (k + m))
    (λ v. or_left (uses d (x c k)) (uses d (y c (k + m))) (hf c k (s.0, s.1, v, s.3)))
    (λ v. or_right (uses d (x c k)) (uses d (y c (k + m))) (ha c (k + m) (s.0, omega arith, omega (arith, s.2), s.3))))
    (λ d b n x q h c k s. h c k s) (λ d t _ q c k s. absurd (omega (arith, s.1, s.2)))
  where
    or_left : (a b : Bool) → a ≡ true → a || b ≡ true
    or_left a b p = rw p

pub body_uses : (e : Term) (d : ℕ) (t : Term) (c : ℕ → Bool) (k : ℕ) → (uses d (body e d t c k) ≡ true) ↔ Some c k (copies e d t)
body_uses e d t c k = (body_used e d t c k, used_body e d t c k)

-- every body is one of them
whole_or_unused : (e : Term) (d : ℕ) (b : Term) → size (substitute d e b) ≤ size e → (b ≡ loc d) ⊎ (uses d b ≡ false)
whole_or_unused e d (app f a) h = go (uses d (app f a)) refl
  where
    go : (u : Bool) → uses d (app f a) ≡ u → (app f a ≡ loc d) ⊎ (uses d (app f a) ≡ false)
    go true p =
        absurd (⊎_elim (λ v. omega (arith, size_used d e f v, size_pos (substitute d e a)))
        (λ v. omega (arith, size_used d e a v, size_pos (substitute d e f)))
        (or_true (uses d f) (uses d a) p))
    go false p = inr p
whole_or_unused e d (lam b) h = go (uses (suc d) b) refl
  where
    go : (u : Bool) → uses (suc d) b ≡ u → (lam b ≡ loc d) ⊎ (uses (suc d) b ≡ false)
    go true p = absurd (omega (arith, size_used (suc d) e b p))
    go false p = inr p
whole_or_unused e d (loc n) h = by_eqb (λ s. (loc n ≡ loc d) ⊎ (s ≡ false)) n d (λ p. inl (ap loc p)) (λ p. inr refl)
whole_or_unused e d (con n) h = inr refl
whole_or_unused e d (var n) h = inr refl

-- a body that comes to the argument itself is the local, or keeps it
at_copy : (e : Term) (d : ℕ) (b t : Term) → substitute d e b ≡ t → t ≡ shift d 0 e → (c : Bool) × (b ≡ choose c d t)
at_copy e d b t p q =
    ⊎_elim (λ r. (true, r)) (λ u. (false, sym (shift_unshift d b u) ∙ ap (shift 1 d) (sym (substitute_unused d e b u) ∙ p)))
    (whole_or_unused e d b (omega (arith, ap size p, ap size q, size_shift d 0 e)))

-- the choices of a head and then those of an argument
abbrev choices_then : ℕ → (ℕ → Bool) → (ℕ → Bool) → ℕ → Bool
choices_then k c c' i = cond (ltb i k) (c i) (c' i)

abbrev BodyChosen : Term → ℕ → Term → ℕ → Term → Type 0
BodyChosen e d t k b = (c : ℕ → Bool) × (b ≡ body e d t c k)

given_app : (e : Term) (d : ℕ) (f a : Term) (k : ℕ) (g b : Term) → ¬ (app f a ≡ shift d 0 e) → BodyChosen e d f k g
    → BodyChosen e d a (k + copies e d f) b → BodyChosen e d (app f a) k (app g b)
given_app e d f a k g b n x y = (
  choices_then (k + copies e d f) x.0 y.0,
  ap₂ app (x.1 ∙ body_same e d f x.0 (choices_then (k + copies e d f) x.0 y.0) k (λ i l u. rw (lt-ltb i (k + copies e d f) u)))
      (y.1
      ∙ body_same e d a y.0 (choices_then (k + copies e d f) x.0 y.0) (k + copies e d f)
      (λ i l u. rw (le-ltb i (k + copies e d f) l)))
      ∙ sym (body_app e d f a (choices_then (k + copies e d f) x.0 y.0) k n),
)

given_here : (e : Term) (d : ℕ) (b t : Term) (k : ℕ) → substitute d e b ≡ t → t ≡ shift d 0 e → BodyChosen e d t k b
given_here e d b t k p q = let r = at_copy e d b t p q in (λ _. r.0, r.1 ∙ sym (body_here e d t (λ _. r.0) k q))

given_leaf : (e : Term) (d : ℕ) (b t : Term) (k : ℕ) → Leaf t → substitute d e b ≡ t → ¬ (t ≡ shift d 0 e) → BodyChosen e d t k b
given_leaf e d b t k l p n =
    ⊎_elim (λ r. absurd (n (sym p ∙ ap (substitute d e) r ∙ substitute_here d e d refl)))
    (λ u. (
      λ _. false,
      sym (shift_unshift d b u) ∙ ap (shift 1 d) (sym (substitute_unused d e b u) ∙ p) ∙ sym (body_leaf e d t (λ _. false) k l n),
    ))
    (whole_or_unused e d b (omega (arith, ap size p, size_leaf t l, size_pos e)))

leaf_of : (e : Term) (d n : ℕ) → ¬ (substitute d e (loc n) ≡ shift d 0 e) → Leaf (substitute d e (loc n))
leaf_of e d n = by_substitute (λ s. ¬ (s ≡ shift d 0 e) → Leaf s) d e n (λ l q. tt) (λ l q. absurd (q refl)) (λ l q. tt)

given : (e : Term) (d : ℕ) (b : Term) (k : ℕ) → BodyChosen e d (substitute d e b) k b
given e d (app f a) k =
    by_dec (λ _. BodyChosen e d (substitute d e (app f a)) k (app f a)) (same (substitute d e (app f a)) (shift d 0 e))
    (given_here e d (app f a) (substitute d e (app f a)) k refl)
    (λ n. given_app e d (substitute d e f) (substitute d e a) k f a n (given e d f k) (given e d a (k + copies e d (substitute d e f))))
given e d (lam b) k =
    by_dec (λ _. BodyChosen e d (substitute d e (lam b)) k (lam b)) (same (substitute d e (lam b)) (shift d 0 e))
    (given_here e d (lam b) (substitute d e (lam b)) k refl)
    (λ n. let r = given e (suc d) b k in (r.0, ap lam r.1 ∙ sym (body_lam e d (substitute (suc d) e b) r.0 k n)))
given e d (loc n) k =
    by_dec (λ _. BodyChosen e d (substitute d e (loc n)) k (loc n)) (same (substitute d e (loc n)) (shift d 0 e))
    (given_here e d (loc n) (substitute d e (loc n)) k refl)
    (λ q. given_leaf e d (loc n) (substitute d e (loc n)) k (leaf_of e d n q) refl q)
given e d (con n) k =
    by_dec (λ _. BodyChosen e d (con n) k (con n)) (same (con n) (shift d 0 e)) (given_here e d (con n) (con n) k refl)
    (given_leaf e d (con n) (con n) k tt refl)
given e d (var n) k =
    by_dec (λ _. BodyChosen e d (var n) k (var n)) (same (var n) (shift d 0 e)) (given_here e d (var n) (var n) k refl)
    (given_leaf e d (var n) (var n) k tt refl)

pub body_of : (e : Term) (d : ℕ) (b t : Term) (k : ℕ) → substitute d e b ≡ t → (c : ℕ → Bool) × (b ≡ body e d t c k)
body_of e d b t k p = subst (λ s. (c : ℕ → Bool) × (b ≡ body e d s c k)) p (given e d b k)

-- every copy chosen
pub body_all : (e : Term) (d : ℕ) (t : Term) (k : ℕ) → body e d t (λ _. true) k ≡ replace_all e d t
body_all e =
    body_induction e (λ d t n x. (k : ℕ) → x (λ _. true) k ≡ replace_all e d t) (λ d t p k. sym (replace_all_here e d t p))
    (λ d f a m n x y q hf ha k. ap₂ app (hf k) (ha (k + m)) ∙ sym (either_no (same (app f a) (shift d 0 e)) _ _ q))
    (λ d b n x q h k. ap lam (h k) ∙ sym (either_no (same (lam b) (shift d 0 e)) _ _ q)) leaf
  where
    leaf : (d : ℕ) (t : Term) → Leaf t → ¬ (t ≡ shift d 0 e) → (k : ℕ) → shift 1 d t ≡ replace_all e d t
    leaf d (loc n) l q k =
        ap (λ m. cond (ltb n d) (loc n) (loc m)) (add-one n) ∙ sym (either_no (same (loc n) (shift d 0 e)) _ _ q)
    leaf d (con n) l q k = sym (either_no (same (con n) (shift d 0 e)) _ _ q)
    leaf d (var n) l q k = sym (either_no (same (var n) (shift d 0 e)) _ _ q)
    leaf d (lam _) l q k = elim l [ ]
    leaf d (app _ _) l q k = elim l [ ]

pub copies_size : (e : Term) (d : ℕ) (t : Term) → copies e d t ≤ size t
copies_size e =
    body_induction e (λ d t n x. n ≤ size t) (λ d t p. size_pos t) (λ d f a m n x y q hf ha. omega arith) (λ d b n x q h. omega arith)
    (λ d t _ q. omega arith)

-- its length, its locals and its constants
pub body_size : (e : Term) (d : ℕ) (t : Term) (c : ℕ → Bool) (k : ℕ) → size (body e d t c k) ≤ size t
body_size e =
    body_induction e (λ d t n x. (c : ℕ → Bool) (k : ℕ) → size (x c k) ≤ size t) (λ d t p c k. chosen (c k) d t)
    (λ d f a m n x y q hf ha c k. omega (arith, hf c k, ha c (k + m))) (λ d b n x q h c k. omega (arith, h c k))
    (λ d t _ q c k. omega (arith, size_shift 1 d t))
  where
    chosen : (b : Bool) (d : ℕ) (t : Term) → size (choose b d t) ≤ size t
    chosen true d t = size_pos t
    chosen false d t = omega (arith, size_shift 1 d t)

pub body_closed : (e : Term) (d : ℕ) (t : Term) (c : ℕ → Bool) (k m : ℕ) → d ≤ m → Closed m t → Closed (suc m) (body e d t c k)
body_closed e =
    body_induction e (λ d t n x. (c : ℕ → Bool) (k m : ℕ) → d ≤ m → Closed m t → Closed (suc m) (x c k))
    (λ d t p c k m l h. chosen (c k) d t m l h)
    (λ d f a m n x y q hf ha c k i l h. (hf c k i l h.0, ha c (k + m) i l h.1))
    (λ d b n x q hb c k m l h. hb c k (suc m) (omega arith) h)
    (λ d t _ q c k m l h. closed_shift 1 d m (suc m) t (omega arith) h)
  where
    chosen : (b : Bool) (d : ℕ) (t : Term) (m : ℕ) → d ≤ m → Closed m t → Closed (suc m) (choose b d t)
    chosen true d t m l h = omega arith
    chosen false d t m l h = closed_shift 1 d m (suc m) t (omega arith) h

pub body_ground : (e : Term) (d : ℕ) (t : Term) (c : ℕ → Bool) (k : ℕ) → Ground t → Ground (body e d t c k)
body_ground e =
    body_induction e (λ d t n x. (c : ℕ → Bool) (k : ℕ) → Ground t → Ground (x c k)) (λ d t p c k h. chosen (c k) d t h)
    (λ d f a m n x y q hf ha c k h. (hf c k h.0, ha c (k + m) h.1)) (λ d b n x q hb c k h. hb c k h)
    (λ d t _ q c k h. rw (ground_shift 1 d t) h)
  where
    chosen : (b : Bool) (d : ℕ) (t : Term) → Ground t → Ground (choose b d t)
    chosen true d t h = tt
    chosen false d t h = rw (ground_shift 1 d t) h

-- the abstraction over a body is normal unless it is an eta-redex, and then no head sweeps to it
pub body_normal : (e t : Term) (c : ℕ → Bool) → Normal t → is_eta (body e 0 t c 0) ≡ false → Normal (lam (body e 0 t c 0))
body_normal e t c h p = (rw p tt, normal_substitute 0 e (body e 0 t c 0) (rw (body_substitute e 0 t c 0) h))

pub body_eta : (φ : ℕ → Term) (f e t : Term) (c : ℕ → Bool) → Normal t → is_eta (body e 0 t c 0) ≡ true
    → ¬ Sweeps f (lam (body e 0 t c 0)) φ
body_eta φ f e t c h p s =
    let n = lam_normal_of (body e 0 t c 0) e t h (rw s at (contracted_sweep (fill φ f))) (body_substitute e 0 t c 0) in
    rw p at n.0

-- none is made
pub chosen_none : (φ : ℕ → Term) (f t e : Term) (c : ℕ → Bool) → Build f t e φ ↔ ChosenSoFar f t e c 0 φ
chosen_none φ f t e c = (
  λ x. let r = body_of e 0 x.0 t 0 x.2 in (x.0, x.1, x.3, r.0, λ i h. absurd (omega arith), r.1),
  λ x. (x.0, x.1, ap (substitute 0 e) x.5 ∙ body_substitute e 0 t x.3 0, x.2),
)

-- one more is made, either way
module _ (φ : ℕ → Term) (f t e : Term) (c c₀ c₁ : ℕ → Bool) (k : ℕ) where
  abbrev ChoicesAgree : (ℕ → Bool) → Type 0
  ChoicesAgree x = (i : ℕ) → i < k → x i ≡ c i

  agree_next : (x y : ℕ → Bool) → ChoicesAgree x → ChoicesAgree y → x k ≡ y k → (i : ℕ) → i < suc k → x i ≡ y i
  agree_next x y g h p i l =
      by_dec (λ _. x i ≡ y i) (dec_lt i k) (λ m. g i m ∙ sym (h i m)) (λ m. let q : k ≡ i = omega arith in subst (λ j. x j ≡ y j) q p)

  module _ (a₀ : ChoicesAgree c₀) (a₁ : ChoicesAgree c₁) (h₀ : c₀ k ≡ false) (h₁ : c₁ k ≡ true) where
    pub chosen_next : ChosenSoFar f t e c k φ ↔ (ChosenSoFar f t e c₀ (suc k) φ ⊎ ChosenSoFar f t e c₁ (suc k) φ)
    chosen_next = (λ s. to s (s.3 k) refl, ⊎_elim (back c₀ a₀) (back c₁ a₁))
      where
        to : (s : ChosenSoFar f t e c k φ) (b : Bool) → s.3 k ≡ b → ChosenSoFar f t e c₀ (suc k) φ ⊎ ChosenSoFar f t e c₁ (suc k) φ
        to s true p = inr (s.0, s.1, s.2, s.3, agree_next s.3 c₁ s.4 a₁ (p ∙ sym h₁), s.5)
        to s false p = inl (s.0, s.1, s.2, s.3, agree_next s.3 c₀ s.4 a₀ (p ∙ sym h₀), s.5)

        back : (y : ℕ → Bool) → ChoicesAgree y → ChosenSoFar f t e y (suc k) φ → ChosenSoFar f t e c k φ
        back y a s = (s.0, s.1, s.2, s.3, λ i l. s.4 i (omega arith) ∙ a i l, s.5)

    -- and at a copy not both ways
    pub chosen_apart : k < copies e 0 t → ChosenSoFar f t e c₀ (suc k) φ → ChosenSoFar f t e c₁ (suc k) φ → ⊥
    chosen_apart l s r =
        let b : s.0 ≡ r.0 = lam_inj s.0 r.0 (sym s.1 ∙ r.1) in
        let q = body_choice e 0 t s.3 r.3 0 (sym s.5 ∙ b ∙ r.5) k (omega arith) (omega arith) in
        subst T (sym h₁ ∙ sym (r.4 k (omega arith)) ∙ sym q ∙ s.4 k (omega arith) ∙ h₀) tt

-- all are made
pub chosen_all :
    (φ : ℕ → Term) (f t e : Term) (c : ℕ → Bool) (k : ℕ) → copies e 0 t ≤ k
    → ChosenSoFar f t e c k φ ↔ (Sweeps f (lam (body e 0 t c 0)) φ × (uses 0 (body e 0 t c 0) ≡ true))
chosen_all φ f t e c k l = (
  λ s.
      let q : s.0 ≡ body e 0 t c 0 = s.5 ∙ body_same e 0 t s.3 c 0 (λ i _ u. s.4 i (omega arith)) in
      (s.1 ∙ ap lam q, ap (uses 0) (sym q) ∙ s.2),
  λ s. (body e 0 t c 0, s.0, s.1, c, λ i _. refl, refl),
)
