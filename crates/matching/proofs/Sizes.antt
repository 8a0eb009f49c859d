-- How long targets and values can be: a goal's target grows by at most two records for each record of the pattern that is used up, so
-- that with a pattern of 32 records and a recipe of 96 none has more than 158, and 160 suffice. Assumes nothing.
--   Subgoal p t q s   on the way from the pattern p and the target t, the part q meets the target s
use mathlib.Core.Path.{ap, subst}
use mathlib.Core.List.{List}
use mathlib.Core.Logic.{⊎_elim}
use Prim.Native.Nat.{ℕ, ◌+◌, ◌*◌, ◌≤◌}
use native.Mathlib.Omega.{arith}
use Rattle.terms.specs.Figures.{pattern_records, recipe_records, value_records}
use Rattle.terms.specs.Term.{Term, app, lam, loc, con, var, Normal, Below, size}
use Rattle.terms.specs.Listing.{In, Line, Full}
use Rattle.terms.proofs.Members.{in_append}
use Rattle.terms.proofs.Order.{sort_in}
use Rattle.terms.proofs.Shift.{size_shift}
use Rattle.terms.proofs.Substitute.{size_pos, size_substitute, size_used}
use Rattle.matching.specs.Abstractions.{same}
use Rattle.matching.specs.Alternatives.{constant}
use Rattle.matching.proofs.Decide.{value?}
use Rattle.matching.proofs.Members.{flat_map, flat_map_in, guard_in}
use Rattle.matching.proofs.Step.{Split, Split.parts, Split.body, body_target}
use Rattle.matching.proofs.Splits.{splits, splits_in}
use Rattle.matching.proofs.Lines.{Each, open_line, merge, merge_in, each_blank, each_set, each_joins, each_more}
use Rattle.matching.proofs.Lister.{solve}
use Rattle.matching.proofs.Listing.{full_listing, full, unique}

pub data Subgoal (p t : Term) : Term → Term → Type 0 where
  start : Subgoal p t p t
  below : (q s : Term) → Subgoal p t (lam q) s → Subgoal p t q (body_target s)
  head : (f a s g e : Term) → Subgoal p t (app f a) s → Split g e s → Subgoal p t f g
  argument : (f a s g e : Term) → Subgoal p t (app f a) s → Split g e s → Subgoal p t a e
  alone : (f a s : Term) → Subgoal p t (app f a) s → Subgoal p t f (constant s)

pub size_body_target : (t : Term) → size (body_target t) ≤ size t + 2
size_body_target (app f a) = omega (arith, size_shift 1 0 (app f a))
size_body_target (lam b) = omega arith
size_body_target (loc n) = omega (arith, size_shift 1 0 (loc n))
size_body_target (con n) = omega arith
size_body_target (var n) = omega arith

size_split : (f e t : Term) → Split f e t → (size f ≤ size t + 1) × (size e ≤ size t)
size_split f e t (parts p) = omega (arith, ap size p)
size_split f e t (body b p q u n) = omega (arith, ap size p, ap size q, size_substitute 0 e b, size_used 0 e b u)

pub goal_size : {p t q s : Term} → Subgoal p t q s → size s + 2 * size q ≤ size t + 2 * size p
goal_size start = omega arith
goal_size (below q s g) = omega (arith, goal_size g, size_body_target s)
goal_size (head f a s h e g x) = omega (arith, goal_size g, size_split h e s x, size_pos a)
goal_size (argument f a s h e g x) = omega (arith, goal_size g, size_split h e s x, size_pos f)
goal_size (alone f a s g) = omega (arith, goal_size g, size_shift 1 0 s, size_pos a)

-- the values of the lister's lines are targets
module _ (n : ℕ) (p t : Term) where
  abbrev pub Met : Term → Type 0
  Met v = (i : ℕ) × Subgoal p t (var i) v

  solve_met : (q s : Term) → Subgoal p t q s → (l : Line) → In l (solve n q s) → Each Met l
  solve_met (app f a) s g l i =
      ⊎_elim
      (λ j.
      let r = flat_map_in (λ x. merge (solve n f x.0) (solve n a x.1)) l (splits s) j in
      let x = splits_in s r.0 r.1 in
      let m = merge_in (solve n f r.0.0) (solve n a r.0.1) l r.2 in
      each_joins Met m.0 m.1 l m.4 (solve_met f r.0.0 (head f a s r.0.0 r.0.1 g x) m.0 m.2)
      (solve_met a r.0.1 (argument f a s r.0.0 r.0.1 g x) m.1 m.3))
      (λ j. solve_met f (constant s) (alone f a s g) l j)
      (in_append l (flat_map (λ x. merge (solve n f x.0) (solve n a x.1)) (splits s)) (solve n f (constant s)) i)
  solve_met (lam q) s g l i = solve_met q (body_target s) (below q s g) l i
  solve_met (loc k) s g l i = rw (guard_in (same s (loc k)) (open_line n) l i).0 (each_blank Met n)
  solve_met (con k) s g l i = rw (guard_in (same s (con k)) (open_line n) l i).0 (each_blank Met n)
  solve_met (var k) s g l i = rw (guard_in (value? s) _ l i).0 (each_set Met (open_line n) k s (k, g) (each_blank Met n))

-- and so are those of every full listing
pub values_met : (n : ℕ) (p t : Term) → Below n p → Normal t → (ls : List Line) → Full n p t ls → (l : Line) → In l ls → Each (Met n p t) l
values_met n p t b h ls x l i =
    let j : In l (full_listing n p t) = subst (In l) (unique n p t b ls (full_listing n p t) x (full n p t b h)) i in
    solve_met n p t p t start l (sort_in l (solve n p t) j)

-- document 01's sizes
module _ (p t : Term) (hp : size p ≤ pattern_records) (ht : size t ≤ recipe_records) where
  pub target_fits : (q s : Term) → Subgoal p t q s → size s ≤ value_records
  target_fits q s g = omega (arith, goal_size g, size_pos q)

  -- "the search never needs one above 160"
  pub value_fits : (n : ℕ) → Below n p → Normal t → (ls : List Line) → Full n p t ls → (l : Line) → In l ls
      → Each (λ v. size v ≤ value_records) l
  value_fits n b h ls x l i =
      each_more (Met n p t) (λ v. size v ≤ value_records) (λ v m. target_fits (var m.0) v m.1) l (values_met n p t b h ls x l i)
