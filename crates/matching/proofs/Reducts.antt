-- A redex whose argument never sweeps to an abstraction, or whose local stands only as the argument of a constant, can be contracted before
-- the sweep: shifting and substitution pass a sweep and a filling, shown once for all that is done to the locals from a number on. Assumes
-- nothing.
--   Passes h         h k does something to the locals of a term that aren't below k, and passes binders
--   Numbered C W t   C holds of the number of each constant of t, and W of that of each variable
use mathlib.Core.Path.{◌≡◌, refl, sym, ap, ap₂, ◌∙◌, subst}
use mathlib.Core.Bool.{Bool, true, false, cond}
use mathlib.Core.Logic.{◌⊎◌, inl, inr, ⊎_elim}
use mathlib.Core.List.{List}
use Prim.Native.Nat.{ℕ, suc, ◌+◌, ◌-◌, ◌≤◌, ◌<◌}
use native.Mathlib.Omega.{arith}
use lib.Dec.{eqb}
use borrow.Author.Tests.{le-ltb}
use Rattle.terms.specs.Term.{Term, app, lam, loc, con, var, Closed, Occurs, Below, shift, unshift, uses, substitute, is_abstraction, is_eta}
use Rattle.terms.specs.Sweep.{sweep, contract, fill}
use Rattle.terms.specs.Listing.{Line, Full}
use Rattle.terms.specs.Heads.{rigid}
use Rattle.terms.proofs.Tests.{by_ltb, by_eqb, or_true}
use Rattle.terms.proofs.Shift.{shift_low, shift_high, is_eta_shift, is_abstraction_shift, shift_unshift}
use Rattle.terms.proofs.Substitute.{by_substitute, substitute_here, substitute_low, substitute_high, substitute_shift, substitute_unused}
use Rattle.terms.proofs.Substitute.{unused_substitute, is_eta_substitute}
use Rattle.terms.proofs.Sweep.{contract_app}
use Rattle.terms.proofs.Occurs.{occurs_below}
use Rattle.terms.proofs.Contracted.{is_proper, Abstracted, Abstracted.out, Abstracted.kept, abstracted}
use Rattle.terms.proofs.Locals.{rigid_sweep, closed_unused, unused_closed}
use Rattle.matching.specs.Reducts.{applied, reduct, is_passed, guarded}
use Rattle.matching.specs.Lists.{Values, Lists}
use Rattle.matching.specs.Goals.{Sweeps}
use Rattle.matching.proofs.Lists.{lists_same, lists_more}
use Rattle.matching.proofs.Partial.{full_lists, lists_full}
use Rattle.matching.proofs.Step.{is_abstraction_unshift, contract_to_other}
use Rattle.matching.proofs.Guards.{Guarded, guarded_is, guarded_unshift, guarded_fill, guarded_sweep, guarded_head}

pub record Passes (h : ℕ → Term → Term) : Type 0 where
  pub application : (k : ℕ) (f a : Term) → h k (app f a) ≡ app (h k f) (h k a)
  pub abstraction : (k : ℕ) (b : Term) → h k (lam b) ≡ lam (h (suc k) b)
  pub constant : (k n : ℕ) → h k (con n) ≡ con n
  pub variable : (k n : ℕ) → h k (var n) ≡ var n
  pub low : (k n : ℕ) → n < k → h k (loc n) ≡ loc n
  pub high : (d b k n : ℕ) → b ≤ k → k ≤ n → h (k + d) (loc (n + d)) ≡ shift d b (h k (loc n))

raised : (n k : ℕ) → k < n → loc n ≡ shift 1 k (loc (n - 1))
raised n k l = rw (le-ltb (n - 1) k (omega arith)) (ap loc (omega arith))

module _ (h : ℕ → Term → Term) (x : Passes h) where
  pub passes_shift : (d b k j : ℕ) (t : Term) → j ≡ k + d → b ≤ k → h j (shift d b t) ≡ shift d b (h k t)
  passes_shift d b k j (app f a) e l =
      rw (x.application j (shift d b f) (shift d b a), x.application k f a)
      (ap₂ app (passes_shift d b k j f e l) (passes_shift d b k j a e l))
  passes_shift d b k j (lam t) e l =
      rw (x.abstraction j (shift d (suc b) t), x.abstraction k t)
      (ap lam (passes_shift d (suc b) (suc k) (suc j) t (omega arith) (omega arith)))
  passes_shift d b k j (loc n) e l =
      by_ltb (λ s. h j (cond s (loc n) (loc (n + d))) ≡ shift d b (h k (loc n))) n b
      (λ g. x.low j n (omega arith) ∙ sym (ap (shift d b) (x.low k n (omega arith)) ∙ shift_low d b n g))
      (λ g. by_ltb (λ s. h j (loc (n + d)) ≡ shift d b (h k (loc n))) n k
      (λ p. x.low j (n + d) (omega arith) ∙ sym (ap (shift d b) (x.low k n p) ∙ shift_high d b n g))
      (λ p. ap (λ i. h i (loc (n + d))) e ∙ x.high d b k n l p))
  passes_shift d b k j (con n) e l = rw (x.constant j n, x.constant k n)
  passes_shift d b k j (var n) e l = rw (x.variable j n, x.variable k n)

  -- the substitution lemma
  pub passes_substitute : (c k j : ℕ) (a b : Term) → j ≡ c + k → h j (substitute k a b) ≡ substitute k (h c a) (h (suc j) b)
  passes_substitute c k j a (app f b) e =
      rw (x.application j (substitute k a f) (substitute k a b), x.application (suc j) f b)
      (ap₂ app (passes_substitute c k j a f e) (passes_substitute c k j a b e))
  passes_substitute c k j a (lam b) e =
      rw (x.abstraction j (substitute (suc k) a b), x.abstraction (suc j) b)
      (ap lam (passes_substitute c (suc k) (suc j) a b (omega arith)))
  passes_substitute c k j a (loc n) e =
      by_substitute (λ s. h j s ≡ substitute k (h c a) (h (suc j) (loc n))) k a n
      (λ l. x.low j n (omega arith) ∙ sym (ap (substitute k (h c a)) (x.low (suc j) n (omega arith)) ∙ substitute_low n k (h c a) l))
      (λ q. passes_shift k 0 c j a e (omega arith)
      ∙ sym (ap (substitute k (h c a)) (x.low (suc j) n (omega arith)) ∙ substitute_here k (h c a) n q))
      (λ l. sym
      (ap (λ s. substitute k (h c a) (h (suc j) s)) (raised n k l)
      ∙ ap (substitute k (h c a)) (passes_shift 1 k j (suc j) (loc (n - 1)) (omega arith) (omega arith))
      ∙ substitute_shift k (h c a) (h j (loc (n - 1)))))
  passes_substitute c k j a (con n) e = rw (x.constant j n, x.constant (suc j) n)
  passes_substitute c k j a (var n) e = rw (x.variable j n, x.variable (suc j) n)

  pub passes_closed : (d k : ℕ) (t : Term) → d ≤ k → Closed d t → h k t ≡ t
  passes_closed d k (app f a) l c = rw (x.application k f a) (ap₂ app (passes_closed d k f l c.0) (passes_closed d k a l c.1))
  passes_closed d k (lam b) l c = rw (x.abstraction k b) (ap lam (passes_closed (suc d) (suc k) b (omega arith) c))
  passes_closed d k (loc n) l c = x.low k n (omega (arith, c))
  passes_closed d k (con n) l c = x.constant k n
  passes_closed d k (var n) l c = x.variable k n

-- shifting and substitution are such
shift_within : (d b k c : ℕ) (t : Term) → c ≤ b → b ≤ c + k → shift (k + d) c t ≡ shift d b (shift k c t)
shift_within d b k c (app f a) l g = ap₂ app (shift_within d b k c f l g) (shift_within d b k c a l g)
shift_within d b k c (lam t) l g = ap lam (shift_within d (suc b) k (suc c) t (omega arith) (omega arith))
shift_within d b k c (loc n) l g =
    by_ltb (λ s. cond s (loc n) (loc (n + (k + d))) ≡ shift d b (cond s (loc n) (loc (n + k)))) n c
    (λ p. sym (shift_low d b n (omega arith)))
    (λ p. ap loc (omega arith) ∙ sym (shift_high d b (n + k) (omega arith)))
shift_within d b k c (con n) l g = refl
shift_within d b k c (var n) l g = refl

pub shift_passes : (d : ℕ) → Passes (shift d)
shift_passes d = record {
  application = λ k f a. refl;
  abstraction = λ k b. refl;
  constant = λ k n. refl;
  variable = λ k n. refl;
  low = λ k n l. shift_low d k n l;
  high = λ i b k n l g.
      shift_high d (k + i) (n + i) (omega arith) ∙ ap loc (omega arith)
      ∙ sym (ap (shift i b) (shift_high d k n g) ∙ shift_high i b (n + d) (omega arith));
}

substitute_high_shift : (e : Term) (d b k n : ℕ) → b ≤ k → k ≤ n → substitute (k + d) e (loc (n + d)) ≡ shift d b (substitute k e (loc n))
substitute_high_shift e d b k n l g =
    by_substitute (λ s. substitute (k + d) e (loc (n + d)) ≡ shift d b s) k e n (λ p. absurd (omega arith))
    (λ q. substitute_here (k + d) e (n + d) (omega arith) ∙ shift_within d b k 0 e (omega arith) (omega arith))
    (λ p. substitute_high (n + d) (k + d) e (omega arith) ∙ ap loc (omega arith) ∙ sym (shift_high d b (n - 1) (omega arith)))

pub substitute_passes : (e : Term) → Passes (λ k t. substitute k e t)
substitute_passes e = record {
  application = λ k f a. refl;
  abstraction = λ k b. refl;
  constant = λ k n. refl;
  variable = λ k n. refl;
  low = λ k n l. substitute_low n k e l;
  high = λ d b k n l g. substitute_high_shift e d b k n l g;
}

-- what keeps locals as they are is known at a local from what it does to the term that is put in
module _ (F : Term → Term) (local : (n : ℕ) → F (loc n) ≡ loc n) where
  shift_at : (d c n : ℕ) → F (shift d c (loc n)) ≡ shift d c (loc n)
  shift_at d c n = by_ltb (λ s. F (cond s (loc n) (loc (n + d))) ≡ cond s (loc n) (loc (n + d))) n c (λ l. local n) (λ l. local (n + d))

  substitute_at : (k : ℕ) (e u : Term) (n : ℕ) → F (shift k 0 e) ≡ shift k 0 u → F (substitute k e (loc n)) ≡ substitute k u (loc n)
  substitute_at k e u n p =
      by_ltb
      (λ s. F (cond s (loc n) (cond (eqb n k) (shift k 0 e) (loc (n - 1)))) ≡ cond s (loc n) (cond (eqb n k) (shift k 0 u) (loc (n - 1))))
      n k (λ l. local n)
      (λ l. by_eqb (λ s. F (cond s (shift k 0 e) (loc (n - 1))) ≡ cond s (shift k 0 u) (loc (n - 1))) n k (λ q. p) (λ q. local (n - 1)))

-- the sweep of terms of which S holds; of their swept forms G holds, so that h leaves their heads as they are
module _ (h : ℕ → Term → Term) (x : Passes h) (G : ℕ → Term → Type 0)
    (head : (k : ℕ) (t : Term) → G k t → is_abstraction (h k t) ≡ is_abstraction t) where
  kept_application : (k : ℕ) (f a : Term) → G k f → is_abstraction f ≡ false → contract (app (h k f) (h k a)) ≡ h k (contract (app f a))
  kept_application k f a c l =
      contract_app (h k f) (h k a) (rw (head k f c, l) tt) ∙ sym (x.application k f a) ∙ ap (h k) (sym (contract_app f a (rw l tt)))

  contract_application : (k : ℕ) (f a : Term) → G k f → contract (app (h k f) (h k a)) ≡ h k (contract (app f a))
  contract_application k (app f b) a c = kept_application k (app f b) a c refl
  contract_application k (lam b) a c = rw (x.abstraction k b) (sym (passes_substitute h x k 0 k a b (omega arith)))
  contract_application k (loc n) a c = kept_application k (loc n) a c refl
  contract_application k (con n) a c = kept_application k (con n) a c refl
  contract_application k (var n) a c = kept_application k (var n) a c refl

  module _
      (eta : (k : ℕ) (t : Term) → is_eta (h (suc k) t) ≡ is_eta t)
      (first : (k : ℕ) (m a : Term) → G k (app m a) → G k m)
      (outer : (k : ℕ) (m : Term) → uses 0 m ≡ false → G (suc k) m → G k (unshift 1 0 m)) where
    is_proper_passes : (k : ℕ) (s : Term) → G (suc k) s → is_proper s ≡ false → is_proper (h (suc k) s) ≡ false
    is_proper_passes k (app m a) c o = rw (eta k (app m a), x.application (suc k) m a, head (suc k) m (first (suc k) m a c)) o
    is_proper_passes k (lam b) c o = rw (eta k (lam b))
    is_proper_passes k (loc n) c o = rw (eta k (loc n))
    is_proper_passes k (con n) c o = rw (eta k (con n))
    is_proper_passes k (var n) c o = rw (eta k (var n))

    contract_lambda : (k : ℕ) (s : Term) → G (suc k) s → contract (lam (h (suc k) s)) ≡ h k (contract (lam s))
    contract_lambda k s c = go (abstracted s)
      where
        go : Abstracted s → contract (lam (h (suc k) s)) ≡ h k (contract (lam s))
        go (out m p u l w) =
            let q : is_abstraction (unshift 1 0 m) ≡ false = is_abstraction_unshift m u ∙ l in
            let d : G k (unshift 1 0 m) = outer k m u (first (suc k) m (loc 0) (subst (G (suc k)) p c)) in
            rw w ((contract_to_other (h (suc k) s) (h k (unshift 1 0 m)) (head k (unshift 1 0 m) d ∙ q)).1
            (ap (h (suc k)) p ∙ x.application (suc k) m (loc 0)
            ∙ ap₂ app (ap (h (suc k)) (sym (shift_unshift 0 m u))
            ∙ passes_shift h x 1 0 k (suc k) (unshift 1 0 m) (omega arith) (omega arith)) (x.low (suc k) 0 (omega arith))))
        go (kept o w) = rw (w, is_proper_passes k s c o) (sym (x.abstraction k s))

    module _
        (g : ℕ → Term → Term) (y : Passes g) (local : (k n : ℕ) → sweep (g k (loc n)) ≡ h k (loc n))
        (S : ℕ → Term → Type 0) (swept : (k : ℕ) (t : Term) → S k t → G k (sweep t))
        (parts : (k : ℕ) (f a : Term) → S k (app f a) → S k f × ((a ≡ loc k) ⊎ S k a))
        (under : (k : ℕ) (b : Term) → S k (lam b) → S (suc k) b) where
      sweep_passes : (k : ℕ) (t : Term) → S k t → sweep (g k t) ≡ h k (sweep t)
      sweep_passes k (app f a) s =
          let p = parts k f a s in
          let q : sweep (g k a) ≡ h k (sweep a) = ⊎_elim (λ e. rw e (local k k)) (sweep_passes k a) p.1 in
          rw (y.application k f a, sweep_passes k f p.0, q) (contract_application k (sweep f) (sweep a) (swept k f p.0))
      sweep_passes k (lam b) s =
          rw (y.abstraction k b, sweep_passes (suc k) b (under k b s)) (contract_lambda k (sweep b) (swept (suc k) b (under k b s)))
      sweep_passes k (loc n) s = local k n
      sweep_passes k (con n) s = rw (y.constant k n, x.constant k n)
      sweep_passes k (var n) s = rw (y.variable k n, x.variable k n)

-- of every term: h leaves every head as it is
module _
    (h : ℕ → Term → Term) (x : Passes h) (head : (k : ℕ) (t : Term) → is_abstraction (h k t) ≡ is_abstraction t)
    (eta : (k : ℕ) (t : Term) → is_eta (h (suc k) t) ≡ is_eta t)
    (g : ℕ → Term → Term) (y : Passes g) (local : (k n : ℕ) → sweep (g k (loc n)) ≡ h k (loc n)) where
  abbrev Every : ℕ → Term → Type 0
  Every k t = Unit {0}

  sweep_every : (k : ℕ) (t : Term) → sweep (g k t) ≡ h k (sweep t)
  sweep_every k t =
      sweep_passes h x Every (λ k t c. head k t) eta (λ k m a c. tt) (λ k m u c. tt) g y local Every (λ k t c. tt) (λ k f a c. (tt, inr tt))
      (λ k b c. tt) k t tt

pub sweep_shift : (d c : ℕ) (t : Term) → sweep (shift d c t) ≡ shift d c (sweep t)
sweep_shift d c t = sweep_every (shift d) (shift_passes d) (is_abstraction_shift d) (is_eta_shift d) (shift d) (shift_passes d)
    (shift_at sweep (λ n. refl) d) c t

is_abstraction_put : (e : Term) → is_abstraction e ≡ false → (k : ℕ) (t : Term) → is_abstraction (substitute k e t) ≡ is_abstraction t
is_abstraction_put e r k (app f a) = refl
is_abstraction_put e r k (lam b) = refl
is_abstraction_put e r k (loc n) =
    by_substitute (λ s. is_abstraction s ≡ false) k e n (λ l. refl) (λ l. is_abstraction_shift k 0 e ∙ r) (λ l. refl)
is_abstraction_put e r k (con n) = refl
is_abstraction_put e r k (var n) = refl

module _ (e : Term) where
  abbrev before : ℕ → Term → Term
  before j t = substitute j e t

  abbrev after : ℕ → Term → Term
  after j t = substitute j (sweep e) t

  put_local : (j n : ℕ) → sweep (before j (loc n)) ≡ after j (loc n)
  put_local j n = substitute_at sweep (λ i. refl) j e (sweep e) n (sweep_shift j 0 e)

  pub sweep_substitute : (k : ℕ) (q : Term) → is_abstraction (sweep e) ≡ false → sweep (substitute k e q) ≡ substitute k (sweep e) (sweep q)
  sweep_substitute k q r =
      sweep_every after (substitute_passes (sweep e)) (is_abstraction_put (sweep e) r) (λ j t. is_eta_substitute j (sweep e) t) before
      (substitute_passes e) put_local k q

  pub sweep_guarded : (k : ℕ) (q : Term) → Guarded k q → sweep (substitute k e q) ≡ substitute k (sweep e) (sweep q)
  sweep_guarded k q g =
      sweep_passes after (substitute_passes (sweep e)) Guarded (guarded_head (sweep e))
      (λ j t. is_eta_substitute j (sweep e) t) (λ j m a c. c.0)
      (λ j m u c. guarded_unshift 0 j m (omega arith) u c) before (substitute_passes e) put_local Guarded guarded_sweep
      (λ j f a c. (c.0, ⊎_elim (λ p. inl p.0) inr c.1)) (λ j b c. c) k q g

pub shift_zero : (c : ℕ) (t : Term) → shift 0 c t ≡ t
shift_zero c (app f a) = ap₂ app (shift_zero c f) (shift_zero c a)
shift_zero c (lam b) = ap lam (shift_zero (suc c) b)
shift_zero c (loc n) = by_ltb (λ s. cond s (loc n) (loc (n + 0)) ≡ loc n) n c (λ l. refl) (λ l. ap loc (omega arith))
shift_zero c (con n) = refl
shift_zero c (var n) = refl

-- the redex: the head's swept form is the abstraction over the swept body, or what the abstraction was over, applied to its local
pub sweep_redex : (q e : Term) → sweep (substitute 0 e q) ≡ substitute 0 (sweep e) (sweep q)
    → sweep (app (lam q) e) ≡ sweep (substitute 0 e q)
sweep_redex q e r = go (abstracted (sweep q)) ∙ sym r
  where
    go : Abstracted (sweep q) → sweep (app (lam q) e) ≡ substitute 0 (sweep e) (sweep q)
    go (out m p u l w) =
        rw (w, p, is_abstraction_unshift m u, l) (ap₂ app (sym (substitute_unused 0 (sweep e) m u)) (sym (shift_zero 0 (sweep e))))
    go (kept o w) = rw w

-- filling, with closed values
module _ (φ : ℕ → Term) (v : Values φ) where
  module _ (g h : ℕ → Term → Term) (x : Passes g) (y : Passes h) (local : (k n : ℕ) → fill φ (g k (loc n)) ≡ h k (loc n)) where
    fill_passes : (k : ℕ) (t : Term) → fill φ (g k t) ≡ h k (fill φ t)
    fill_passes k (app f a) =
        rw (x.application k f a, y.application k (fill φ f) (fill φ a)) (ap₂ app (fill_passes k f) (fill_passes k a))
    fill_passes k (lam b) = rw (x.abstraction k b, y.abstraction k (fill φ b)) (ap lam (fill_passes (suc k) b))
    fill_passes k (loc n) = local k n
    fill_passes k (con n) = rw (x.constant k n, y.constant k n)
    fill_passes k (var n) = rw (x.variable k n) (sym (passes_closed h y 0 k (φ n) (omega arith) (v n).0))

  pub fill_shift : (d c : ℕ) (t : Term) → fill φ (shift d c t) ≡ shift d c (fill φ t)
  fill_shift d c t = fill_passes (shift d) (shift d) (shift_passes d) (shift_passes d) (shift_at (fill φ) (λ n. refl) d) c t

  pub fill_substitute : (k : ℕ) (e q : Term) → fill φ (substitute k e q) ≡ substitute k (fill φ e) (fill φ q)
  fill_substitute k e q =
      fill_passes (λ j t. substitute j e t) (λ j t. substitute j (fill φ e) t) (substitute_passes e) (substitute_passes (fill φ e))
      (λ j n. substitute_at (fill φ) (λ i. refl) j e (fill φ e) n (fill_shift j 0 e)) k q

-- the two cases of an application
pub by_applied : (P : Term → Type 0) (f a : Term) → P (app f a)
    → ((b : Term) → f ≡ lam b → is_passed a b ≡ true → P (substitute 0 a b)) → P (applied f a)
by_applied P (app f b) a y z = y
by_applied P (lam b) a y z = go (is_passed a b) refl
  where
    go : (r : Bool) → is_passed a b ≡ r → P (cond r (substitute 0 a b) (app (lam b) a))
    go true e = z b refl e
    go false e = y
by_applied P (loc n) a y z = y
by_applied P (con n) a y z = y
by_applied P (var n) a y z = y

-- it sweeps to the same, whatever the values
module _ (φ : ℕ → Term) (v : Values φ) where
  passed_substitute : (a b : Term) → is_passed a b ≡ true
      → sweep (substitute 0 (fill φ a) (fill φ b)) ≡ substitute 0 (sweep (fill φ a)) (sweep (fill φ b))
  passed_substitute a b r =
      ⊎_elim (λ o. sweep_substitute (fill φ a) 0 (fill φ b) (rigid_sweep φ a o))
      (λ o. sweep_guarded (fill φ a) 0 (fill φ b) (guarded_fill φ v 0 b (guarded_is 0 b o))) (or_true (rigid a) (guarded 0 b) r)

  pub sweep_applied : (f a : Term) → sweep (fill φ (applied f a)) ≡ sweep (fill φ (app f a))
  sweep_applied f a =
      by_applied (λ t. sweep (fill φ t) ≡ sweep (fill φ (app f a))) f a refl
      (λ b p r. rw (p, fill_substitute φ v 0 a b) (sym (sweep_redex (fill φ b) (fill φ a) (passed_substitute a b r))))

  pub reduct_sweep : (p : Term) → sweep (fill φ (reduct p)) ≡ sweep (fill φ p)
  reduct_sweep (app f a) = sweep_applied (reduct f) (reduct a) ∙ ap₂ (λ g b. contract (app g b)) (reduct_sweep f) (reduct_sweep a)
  reduct_sweep (lam b) = ap (λ c. contract (lam c)) (reduct_sweep b)
  reduct_sweep (loc n) = refl
  reduct_sweep (con n) = refl
  reduct_sweep (var n) = refl

-- its locals have their binders
pub closed_redex : (d : ℕ) (a b : Term) → Closed d a → Closed (suc d) b → Closed d (substitute 0 a b)
closed_redex d a b c e =
    unused_closed d (substitute 0 a b)
    (λ j l. unused_substitute j j 0 a b (omega arith) (closed_unused (suc d) (suc j) b (omega arith) e) (closed_unused d j a l c))

pub reduct_closed : (d : ℕ) (p : Term) → Closed d p → Closed d (reduct p)
reduct_closed d (app f a) c =
    let g = reduct_closed d f c.0 in
    let e = reduct_closed d a c.1 in
    by_applied (Closed d) (reduct f) (reduct a) (g, e) (λ b p r. closed_redex d (reduct a) b e (subst (Closed d) p g))
reduct_closed d (lam b) c = reduct_closed (suc d) b c
reduct_closed d (loc n) c = c
reduct_closed d (con n) c = c
reduct_closed d (var n) c = c

-- its constants and variables are the pattern's
abbrev pub Numbered : (ℕ → Type 0) → (ℕ → Type 0) → Term → Type 0
Numbered C W (app f a) = Numbered C W f × Numbered C W a
Numbered C W (lam b) = Numbered C W b
Numbered C W (loc n) = Unit {0}
Numbered C W (con n) = C n
Numbered C W (var n) = W n

module _ (C W : ℕ → Type 0) where
  numbered_shift : (d c : ℕ) (t : Term) → Numbered C W t → Numbered C W (shift d c t)
  numbered_shift d c (app f a) h = (numbered_shift d c f h.0, numbered_shift d c a h.1)
  numbered_shift d c (lam b) h = numbered_shift d (suc c) b h
  numbered_shift d c (loc n) h = by_ltb (λ s. Numbered C W (cond s (loc n) (loc (n + d)))) n c (λ l. tt) (λ l. tt)
  numbered_shift d c (con n) h = h
  numbered_shift d c (var n) h = h

  pub numbered_substitute : (k : ℕ) (e t : Term) → Numbered C W e → Numbered C W t → Numbered C W (substitute k e t)
  numbered_substitute k e (app f a) g h = (numbered_substitute k e f g h.0, numbered_substitute k e a g h.1)
  numbered_substitute k e (lam b) g h = numbered_substitute (suc k) e b g h
  numbered_substitute k e (loc n) g h = by_substitute (Numbered C W) k e n (λ l. tt) (λ l. numbered_shift k 0 e g) (λ l. tt)
  numbered_substitute k e (con n) g h = h
  numbered_substitute k e (var n) g h = h

  pub reduct_numbered : (p : Term) → Numbered C W p → Numbered C W (reduct p)
  reduct_numbered (app f a) h =
      let g = reduct_numbered f h.0 in
      let e = reduct_numbered a h.1 in
      by_applied (Numbered C W) (reduct f) (reduct a) (g, e) (λ b p r. numbered_substitute 0 (reduct a) b e (subst (Numbered C W) p g))
  reduct_numbered (lam b) h = reduct_numbered b h
  reduct_numbered (loc n) h = h
  reduct_numbered (con n) h = h
  reduct_numbered (var n) h = h

  pub numbered_occurs : (i : ℕ) (t : Term) → Numbered C W t → Occurs i t → W i
  numbered_occurs i (app f a) h o = ⊎_elim (numbered_occurs i f h.0) (numbered_occurs i a h.1) o
  numbered_occurs i (lam b) h o = numbered_occurs i b h o
  numbered_occurs i (loc n) h o = absurd o
  numbered_occurs i (con n) h o = absurd o
  numbered_occurs i (var n) h o = subst W (sym o) h

numbered_each : (W : ℕ → Type 0) (t : Term) → ((i : ℕ) → Occurs i t → W i) → Numbered (λ n. Unit {0}) W t
numbered_each W (app f a) h = (numbered_each W f (λ i o. h i (inl o)), numbered_each W a (λ i o. h i (inr o)))
numbered_each W (lam b) h = numbered_each W b h
numbered_each W (loc n) h = tt
numbered_each W (con n) h = tt
numbered_each W (var n) h = h n refl

pub reduct_occurs : (i : ℕ) (p : Term) → Occurs i (reduct p) → Occurs i p
reduct_occurs i p o =
    let W : ℕ → Type 0 = λ j. Occurs j p in
    numbered_occurs (λ n. Unit {0}) W i (reduct p) (reduct_numbered (λ n. Unit {0}) W p (numbered_each W p (λ j q. q))) o

below_each : (n : ℕ) (t : Term) → ((i : ℕ) → Occurs i t → i < n) → Below n t
below_each n (app f a) h = (below_each n f (λ i o. h i (inl o)), below_each n a (λ i o. h i (inr o)))
below_each n (lam b) h = below_each n b h
below_each n (loc k) h = tt
below_each n (con k) h = tt
below_each n (var k) h = h k refl

pub reduct_below : (n : ℕ) (p : Term) → Below n p → Below n (reduct p)
reduct_below n p b = below_each n (reduct p) (λ i o. occurs_below n i p b (reduct_occurs i p o))

-- lines that list the reduct's matches list the pattern's
pub reduct_lists :
    (n : ℕ) (p t : Term) (ls : List Line) → Lists n (λ i. Occurs i (reduct p)) (Sweeps (reduct p) t) ls
    → Lists n (λ i. Occurs i p) (Sweeps p t) ls
reduct_lists n p t ls x =
    lists_same n (λ i. Occurs i p) (Sweeps p t) (Sweeps (reduct p) t) ls
    (λ φ v. (λ s. reduct_sweep φ v p ∙ s, λ s. sym (reduct_sweep φ v p) ∙ s))
    (lists_more n (λ i. Occurs i p) (λ i. Occurs i (reduct p)) (Sweeps (reduct p) t) ls (λ i o. reduct_occurs i p o) x)

pub reduct_full : (n : ℕ) (p t : Term) → Below n p → (ls : List Line) → Full n (reduct p) t ls → Full n p t ls
reduct_full n p t b ls x = full_lists n p t b ls (reduct_lists n p t ls (lists_full n (reduct p) t (reduct_below n p b) ls x)) x.rising
