-- One step of matching: when the filled pattern sweeps to a normal target, by the pattern's kind, and that every new target is normal.
-- The sweep's result is known from what its two rules leave, since a swept head is contracted and the target is normal. Assumes nothing.
--   body_target t  what the body of an abstraction has to sweep to
--   Split f e t    a target f of the head and a target e of the argument that together come to t, where the argument is used
use mathlib.Core.Path.{◌≡◌, refl, sym, ap, ◌∙◌, subst}
use mathlib.Core.Bool.{Bool, true, false, not}
use mathlib.Core.Logic.{◌⊎◌, inl, inr, ◌↔◌}
use Prim.Native.Nat.{ℕ}
use lib.Dec.{T}
use Rattle.terms.specs.Term.{Term, app, lam, loc, con, var, Normal, Value, shift, unshift, substitute, uses, is_eta, is_abstraction}
use Rattle.terms.specs.Sweep.{sweep, contract, fill}
use Rattle.terms.proofs.Tests.{false_of, and_true}
use Rattle.terms.proofs.Shift.{unshift_shift, shift_unshift, unused_shift, is_abstraction_shift, normal_shift}
use Rattle.terms.proofs.Substitute.{substitute_unused, substitute_shift, is_eta_below, normal_substitute, normal_used}
use Rattle.terms.proofs.Sweep.{contract_app, contract_lam, sweep_normal}
use Rattle.terms.proofs.Contracted.{Contracted, is_proper, Abstracted, Abstracted.out, Abstracted.kept, abstracted, contracted_sweep}
use Rattle.matching.specs.Alternatives.{constant}

-- abstractions
abbrev pub body_target : Term → Term
body_target (app f a) = app (shift 1 0 (app f a)) (loc 0)
body_target (lam b) = b
body_target (loc n) = app (shift 1 0 (loc n)) (loc 0)
body_target (con n) = app (con n) (loc 0)
body_target (var n) = app (var n) (loc 0)

pub is_abstraction_unshift : (m : Term) → uses 0 m ≡ false → is_abstraction (unshift 1 0 m) ≡ is_abstraction m
is_abstraction_unshift m u = sym (is_abstraction_shift 1 0 (unshift 1 0 m)) ∙ ap is_abstraction (shift_unshift 0 m u)

pub contract_to_lam : (s t : Term) → Normal (lam t) → (contract (lam s) ≡ lam t) ↔ (s ≡ t)
contract_to_lam s t h = (λ e. go e (abstracted s), λ e. rw e (contract_lam t h.0))
  where
    go : contract (lam s) ≡ lam t → Abstracted s → s ≡ t
    go e (out m p u l w) = cc (is_abstraction_unshift m u)
    go e (kept o w) = cc

pub contract_to_other : (s t : Term) → is_abstraction t ≡ false → (contract (lam s) ≡ t) ↔ (s ≡ app (shift 1 0 t) (loc 0))
contract_to_other s t l = (λ e. go e (abstracted s), λ e. rw (e, unused_shift 0 t, is_abstraction_shift 1 0 t, l) (unshift_shift 1 0 t))
  where
    go : contract (lam s) ≡ t → Abstracted s → s ≡ app (shift 1 0 t) (loc 0)
    go e (out m p u _ w) = rw (← e, w, shift_unshift 0 m u) p
    go e (kept o w) = absurd (subst T (ap is_abstraction (sym w ∙ e) ∙ l) tt)

pub contract_to : (s t : Term) → Normal t → (contract (lam s) ≡ t) ↔ (s ≡ body_target t)
contract_to s (app f a) h = contract_to_other s (app f a) refl
contract_to s (lam b) h = contract_to_lam s b h
contract_to s (loc n) h = contract_to_other s (loc n) refl
contract_to s (con n) h = contract_to_other s (con n) refl
contract_to s (var n) h = contract_to_other s (var n) refl

-- applications
pub data Split (f e t : Term) : Type 0 where
  -- the target is an application of the two
  parts : t ≡ app f e → Split f e t
  -- the head is an abstraction that uses its local, and comes to the target with the argument put in
  body : (b : Term) → f ≡ lam b → substitute 0 e b ≡ t → uses 0 b ≡ true → Normal (lam b) → Split f e t

-- a body without a redex, whose abstraction is no proper eta-redex, has a normal abstraction
pub lam_normal : (b : Term) → T (not (is_proper b)) → Normal b → Normal (lam b)
lam_normal (app m a) o h = (rw (false_of (is_abstraction m) h.0, and_true (is_eta (app m a))) at o, h)
lam_normal (lam b) o h = (tt, h)
lam_normal (loc n) o h = (tt, h)
lam_normal (con n) o h = (tt, h)
lam_normal (var n) o h = (tt, h)

pub lam_normal_of : (b e t : Term) → Normal t → Contracted (lam b) → substitute 0 e b ≡ t → Normal (lam b)
lam_normal_of b e t h g p = lam_normal b g.0 (normal_substitute 0 e b (rw p h))

split_lam : (b e t : Term) → Contracted (lam b) → Normal t → substitute 0 e b ≡ t → Split (lam b) e t ⊎ (lam b ≡ constant t)
split_lam b e t g h p = go (uses 0 b) refl
  where
    go : (u : Bool) → uses 0 b ≡ u → Split (lam b) e t ⊎ (lam b ≡ constant t)
    go true u = inl (body b refl p u (lam_normal_of b e t h g p))
    go false u = inr (ap lam (sym (shift_unshift 0 b u) ∙ ap (shift 1 0) (sym (substitute_unused 0 e b u) ∙ p)))

split_to : (f e t : Term) → Contracted f → Normal t → contract (app f e) ≡ t → Split f e t ⊎ (f ≡ constant t)
split_to (app f a) e t g h p = inl (parts (sym p))
split_to (lam b) e t g h p = split_lam b e t g h p
split_to (loc n) e t g h p = inl (parts (sym p))
split_to (con n) e t g h p = inl (parts (sym p))
split_to (var n) e t g h p = inl (parts (sym p))

split_from : (f e t : Term) → Normal t → Split f e t ⊎ (f ≡ constant t) → contract (app f e) ≡ t
split_from f e t h (inl (parts p)) = let n : Normal (app f e) = rw p at h in rw p (contract_app f e n.0)
split_from f e t h (inl (body b q p _ _)) = rw q p
split_from f e t h (inr q) = rw q (substitute_shift 0 e t)

-- the rows of the table, for a normal target
module _ (φ : ℕ → Term) where
  pub match_local : (n : ℕ) (t : Term) → (sweep (fill φ (loc n)) ≡ t) ↔ (t ≡ loc n)
  match_local n t = (sym, sym)

  pub match_constant : (n : ℕ) (t : Term) → (sweep (fill φ (con n)) ≡ t) ↔ (t ≡ con n)
  match_constant n t = (sym, sym)

  pub match_variable : (i : ℕ) (t : Term) → Value (φ i) → (sweep (fill φ (var i)) ≡ t) ↔ (φ i ≡ t)
  match_variable i t v = (λ e. sym (sweep_normal (φ i) v.1) ∙ e, λ e. sweep_normal (φ i) v.1 ∙ e)

  pub match_abstraction : (p t : Term) → Normal t → (sweep (fill φ (lam p)) ≡ t) ↔ (sweep (fill φ p) ≡ body_target t)
  match_abstraction p t h = contract_to (sweep (fill φ p)) t h

  pub match_application :
      (f e t : Term) → Normal t
      → (sweep (fill φ (app f e)) ≡ t) ↔ (Split (sweep (fill φ f)) (sweep (fill φ e)) t ⊎ (sweep (fill φ f) ≡ constant t))
  match_application f e t h = (
    split_to (sweep (fill φ f)) (sweep (fill φ e)) t (contracted_sweep (fill φ f)) h,
    split_from (sweep (fill φ f)) (sweep (fill φ e)) t h,
  )

-- every new target is normal
pub body_target_normal : (t : Term) → Normal t → Normal (body_target t)
body_target_normal (app f a) h = (tt, rw (normal_shift 1 0 (app f a)) h, tt)
body_target_normal (lam b) h = h.1
body_target_normal (loc n) h = (rw (is_abstraction_shift 1 0 (loc n)) tt, rw (normal_shift 1 0 (loc n)) tt, tt)
body_target_normal (con n) h = (tt, tt, tt)
body_target_normal (var n) h = (tt, tt, tt)

pub head_normal : (f e t : Term) → Normal t → Split f e t → Normal f
head_normal f e t h (parts p) = let n : Normal (app f e) = rw p at h in n.1
head_normal f e t h (body b p q u n) = rw p n

pub argument_normal : (f e t : Term) → Normal t → Split f e t → Normal e
argument_normal f e t h (parts p) = let n : Normal (app f e) = rw p at h in n.2
argument_normal f e t h (body b p q u n) = normal_used 0 e b u (rw q h)

pub constant_normal : (t : Term) → Normal t → Normal (constant t)
constant_normal t h = (rw (is_eta_below 0 t) tt, rw (normal_shift 1 0 t) h)

-- a head that splits the target doesn't ignore its argument
pub split_constant : (f e t : Term) → Normal t → Split f e t → f ≡ constant t → ⊥
split_constant f e t h (parts p) q = let n : Normal (app f e) = rw p at h in subst (λ x. T (not (is_abstraction x))) q n.0
split_constant f e t h (body b p q u n) r =
    let s : b ≡ shift 1 0 t = cc in
    subst T (sym u ∙ ap (uses 0) s ∙ unused_shift 0 t) tt
