-- A lister, as plain as can be, by recursion on the pattern, and that its lines list the matches. Each clause is one row of one step of
-- matching, and one law of lines that list a predicate. Assumes nothing.
--   solve n p t   the lines of the pattern p and the target t, over n variables
use mathlib.Core.Path.{◌≡◌, refl, sym, ◌∙◌, subst}
use mathlib.Core.Option.{some}
use mathlib.Core.List.{List, [], ◌∷◌, ◌++◌}
use mathlib.Core.Logic.{◌⊎◌, inl, inr}
use Prim.Native.Nat.{ℕ, ◌<◌}
use native.Mathlib.Omega.{arith}
use lib.ListN.{set, length-set}
use Rattle.terms.specs.Term.{Term, app, lam, loc, con, var, Normal, Value, Occurs, Below}
use Rattle.terms.specs.Sweep.{sweep, fill}
use Rattle.terms.specs.Listing.{In, Line}
use Rattle.matching.specs.Goals.{Sweeps}
use Rattle.matching.specs.Abstractions.{same}
use Rattle.matching.specs.Alternatives.{constant}
use Rattle.matching.specs.Lists.{Values, Predicate, Lists}
use Rattle.matching.proofs.Decide.{value?}
use Rattle.matching.proofs.Members.{guard, flat_map}
use Rattle.matching.proofs.Step.{Split, body_target, match_variable, match_abstraction, match_application}
use Rattle.matching.proofs.Step.{body_target_normal, head_normal, argument_normal, constant_normal, split_constant}
use Rattle.matching.proofs.Splits.{splits, splits_in, in_splits, splits_distinct}
use Rattle.matching.proofs.Lines.{open_line, merge, length_blank, extends_blank, assigns_blank, blank_open, extends_set}
use Rattle.matching.proofs.Lines.{assigns_set}
use Rattle.matching.proofs.Lists.{lists_same, lists_more, lists_none, lists_one, lists_or, lists_some, lists_and}

abbrev pub solve : ℕ → Term → Term → List Line
solve n (app f a) t = flat_map (λ q. merge (solve n f q.0) (solve n a q.1)) (splits t) ++ solve n f (constant t)
solve n (lam p) t = solve n p (body_target t)
solve n (loc k) t = guard (same t (loc k)) (open_line n)
solve n (con k) t = guard (same t (con k)) (open_line n)
solve n (var i) t = guard (value? t) (set (open_line n) i (some t))

-- a line where it is decided that A holds
module _ (n : ℕ) (S : ℕ → Type 0) (A : Type 0) (Q : Predicate) where
  lists_guard : (o : Dec A) (k : Line) → (A → Lists n S Q (k ∷ [])) → (¬ A → (φ : ℕ → Term) → Values φ → ¬ Q φ) → Lists n S Q (guard o k)
  lists_guard (yes a) k f g = f a
  lists_guard (no a) k f g = lists_none n S Q (g a)

-- a leaf that sweeps to itself
lists_leaf : (n : ℕ) (S : ℕ → Type 0) (p t : Term) → ((φ : ℕ → Term) → sweep (fill φ p) ≡ p)
    → Lists n S (Sweeps p t) (guard (same t p) (open_line n))
lists_leaf n S p t f =
    lists_guard n S (t ≡ p) (Sweeps p t) (same t p) (open_line n)
    (λ e. lists_one n S (Sweeps p t) (open_line n) (length_blank n) (assigns_blank S n) (λ φ v. (λ _. extends_blank φ n, λ _. f φ ∙ sym e)))
    (λ ne φ v s. ne (sym s ∙ f φ))

lists_variable : (n i : ℕ) (t : Term) → i < n → Lists n (λ j. j ≡ i) (Sweeps (var i) t) (guard (value? t) (set (open_line n) i (some t)))
lists_variable n i t h =
    lists_guard n (λ j. j ≡ i) (Value t) (Sweeps (var i) t) (value? t) (set (open_line n) i (some t))
    (λ w. lists_one n (λ j. j ≡ i) (Sweeps (var i) t) (set (open_line n) i (some t)) (length-set (open_line n) i (some t) ∙ length_blank n)
    (assigns_set (λ j. j ≡ i) (open_line n) i t refl w (assigns_blank (λ j. j ≡ i) n))
    (λ φ v.
    let m = match_variable φ i t (v i) in
    let x = extends_set φ (open_line n) i t (omega (arith, length_blank n)) (blank_open n i) in
    (λ s. x.1 (m.0 s, extends_blank φ n), λ g. m.1 (x.0 g).0)))
    (λ nv φ v s. nv (subst Value ((match_variable φ i t (v i)).0 s) (v i)))

-- an application, from its head and its argument
module _ (n : ℕ) (f a t : Term) (h : Normal t) where
  abbrev S : ℕ → Type 0
  S i = Occurs i f ⊎ Occurs i a

  abbrev Pair : Term × Term → Predicate
  Pair q φ = Sweeps f q.0 φ × Sweeps a q.1 φ

  abbrev Rows : Predicate
  Rows φ = ((q : Term × Term) × In q (splits t) × Pair q φ) ⊎ Sweeps f (constant t) φ

  application_to : (φ : ℕ → Term) → Split (sweep (fill φ f)) (sweep (fill φ a)) t ⊎ (sweep (fill φ f) ≡ constant t) → Rows φ
  application_to φ (inl s) = inl ((sweep (fill φ f), sweep (fill φ a)), in_splits (sweep (fill φ f)) (sweep (fill φ a)) t s, (refl, refl))
  application_to φ (inr s) = inr s

  application_from : (φ : ℕ → Term) → Rows φ → Split (sweep (fill φ f)) (sweep (fill φ a)) t ⊎ (sweep (fill φ f) ≡ constant t)
  application_from φ (inl (q, i, s)) = inl (rw (s.0, s.1) (splits_in t q i))
  application_from φ (inr s) = inr s

  lists_application :
      ((g : Term) → Normal g → Lists n (λ i. Occurs i f) (Sweeps f g) (solve n f g))
      → ((e : Term) → Normal e → Lists n (λ i. Occurs i a) (Sweeps a e) (solve n a e))
      → Lists n S (Sweeps (app f a) t) (solve n (app f a) t)
  lists_application lf la =
      lists_same n S (Sweeps (app f a) t) Rows (solve n (app f a) t)
      (λ φ v. let m = match_application φ f a t h in (λ s. application_to φ (m.0 s), λ s. m.1 (application_from φ s)))
      (lists_or n S (λ φ. (q : Term × Term) × In q (splits t) × Pair q φ) (Sweeps f (constant t)) (flat_map pair_lines (splits t))
      (solve n f (constant t))
      (λ φ v s r. split_constant s.0.0 s.0.1 t h (splits_in t s.0 s.1) (sym s.2.0 ∙ r))
      (lists_some n S Pair pair_lines (splits t) (splits_distinct t h)
      (λ φ v q r i j s u z. ((sym s.0 ∙ u.0) z, (sym s.1 ∙ u.1) z)) pair)
      (head_lines (constant t) (constant_normal t h)))
    where
      pair_lines : Term × Term → List Line
      pair_lines q = merge (solve n f q.0) (solve n a q.1)

      head_lines : (g : Term) → Normal g → Lists n S (Sweeps f g) (solve n f g)
      head_lines g m = lists_more n S (λ i. Occurs i f) (Sweeps f g) (solve n f g) (λ i. inl) (lf g m)

      pair : (q : Term × Term) → In q (splits t) → Lists n S (Pair q) (pair_lines q)
      pair q i =
          let s = splits_in t q i in
          lists_and n S (Sweeps f q.0) (Sweeps a q.1) (solve n f q.0) (solve n a q.1)
          (head_lines q.0 (head_normal q.0 q.1 t h s))
          (lists_more n S (λ i. Occurs i a) (Sweeps a q.1) (solve n a q.1) (λ i. inr)
          (la q.1 (argument_normal q.0 q.1 t h s)))

pub lists_solve : (n : ℕ) (p t : Term) → Below n p → Normal t → Lists n (λ i. Occurs i p) (Sweeps p t) (solve n p t)
lists_solve n (app f a) t b h = lists_application n f a t h (λ g m. lists_solve n f g b.0 m) (λ e m. lists_solve n a e b.1 m)
lists_solve n (lam p) t b h =
    lists_same n (λ i. Occurs i p) (Sweeps (lam p) t) (Sweeps p (body_target t)) (solve n p (body_target t))
    (λ φ v. match_abstraction φ p t h)
    (lists_solve n p (body_target t) b (body_target_normal t h))
lists_solve n (loc k) t b h = lists_leaf n (λ i. ⊥) (loc k) t (λ φ. refl)
lists_solve n (con k) t b h = lists_leaf n (λ i. ⊥) (con k) t (λ φ. refl)
lists_solve n (var i) t b h = lists_variable n i t b
