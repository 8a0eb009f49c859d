-- The constants of listed values stand in the recipe: whatever holds of a term if it holds of its constants and variables, holds of each
-- target that a recipe comes to, and so of each value of a full listing, if it holds of the recipe. Assumes nothing.
use mathlib.Core.Path.{◌≡◌, refl}
use mathlib.Core.Option.{some}
use mathlib.Core.List.{List, ◌∷◌}
use mathlib.Core.Logic.{inl, inr}
use Prim.Native.Nat.{ℕ, suc, ◌≤◌}
use native.Mathlib.Omega.{arith}
use Rattle.terms.specs.Figures.{words, value_records}
use Rattle.terms.specs.Term.{Term, app, lam, loc, con, var, size, shift, Normal, Occurs, Below, Value}
use Rattle.terms.specs.OldForm.{ListedAsBefore}
use Rattle.terms.specs.Assignment.{Assigns}
use Rattle.terms.specs.Listing.{In, Line, Full}
use Rattle.terms.proofs.OldForm.{ConstantsBelow, constants_of, closed_numbers, written_as_before}
use Rattle.terms.proofs.Variables.{leaves_shift, leaves_body, leaves_argument, ground_below}
use Rattle.matching.proofs.Lines.{Each, each_more}
use Rattle.matching.proofs.Sizes.{Subgoal, Subgoal.start, Subgoal.below, Subgoal.head, Subgoal.argument, Subgoal.alone}
use Rattle.matching.proofs.Sizes.{Met, values_met, value_fits}
use Rattle.matching.proofs.Step.{Split, Split.parts, Split.body, body_target}

module _ (P : Term → Type 0) (apps : (f a : Term) → P (app f a) ≡ (P f × P a)) (lams : (b : Term) → P (lam b) ≡ P b)
    (locs : (n : ℕ) → P (loc n) ≡ Unit {0}) where
  shifted : (d c : ℕ) (t : Term) → P t → P (shift d c t)
  shifted d c t h = rw (leaves_shift P apps lams locs d c t) h

  applied : (t : Term) → P t → P (app t (loc 0))
  applied t h = rw (apps t (loc 0)) (h, rw (locs 0) tt)

  leaves_body_target : (s : Term) → P s → P (body_target s)
  leaves_body_target (app f a) h = applied (shift 1 0 (app f a)) (shifted 1 0 (app f a) h)
  leaves_body_target (lam b) h = rw (lams b) at h
  leaves_body_target (loc n) h = applied (shift 1 0 (loc n)) (shifted 1 0 (loc n) h)
  leaves_body_target (con n) h = applied (con n) h
  leaves_body_target (var n) h = applied (var n) h

  leaves_split : (f e s : Term) → Split f e s → P s → P f × P e
  leaves_split f e s (parts p) h = rw (p, apps f e) at h
  leaves_split f e s (body b p q u n) h =
      let g = rw (← q) at h in (
        rw (p, lams b) (leaves_body P apps lams locs 0 e b g),
        leaves_argument P apps lams locs 0 e b u g,
      )

  leaves_target : {p t q s : Term} → Subgoal p t q s → P t → P s
  leaves_target start h = h
  leaves_target (below q s g) h = leaves_body_target s (leaves_target g h)
  leaves_target (head f a s k e g x) h = (leaves_split k e s x (leaves_target g h)).0
  leaves_target (argument f a s k e g x) h = (leaves_split k e s x (leaves_target g h)).1
  leaves_target (alone f a s g) h = rw (lams (shift 1 0 s)) (shifted 1 0 s (leaves_target g h))

  leaves_listed : (n : ℕ) (p t : Term) → Below n p → Normal t → P t → (ls : List Line) → Full n p t ls → (l : Line) → In l ls → Each P l
  leaves_listed n p t b h x ls full_ls l i =
      each_more (Met n p t) P (λ v m. leaves_target m.1 x) l (values_met n p t b h ls full_ls l i)

-- a value of a line
each_in : (P : Term → Type 0) (l : Line) (v : Term) → Each P l → In (some v) l → P v
each_in P (o ∷ l) v h (inl e) = rw (← e) at h.0
each_in P (o ∷ l) v h (inr i) = each_in P l v h.1 i
each_in P mathlib.Core.List.[] v h x'' = elim x'' [ ]

value_in : (S : ℕ → Type 0) (l : Line) (v : Term) → Assigns S l → In (some v) l → Value v
value_in S (o ∷ l) v h (inl e) = (rw (← e) at h.0).1
value_in S (o ∷ l) v h (inr i) = value_in (λ k. S (suc k)) l v h.1 i
value_in S mathlib.Core.List.[] v h x'' = elim x'' [ ]

-- document 02: "Files of the old form mean what they meant", also for what list writes
pub listed_as_before : ListedAsBefore
listed_as_before n p t hp ht b h m ls x l i v j =
    let value = value_in (λ i. Occurs i p) l v (x.assigns l i) j in
    let c = each_in (ConstantsBelow words) l v
    (leaves_listed (ConstantsBelow words) (λ f a. refl) (λ b. refl) (λ k. refl) n p t b h (constants_of words t m) ls x l i) j in
    let s = each_in (λ v. size v ≤ value_records) l v (value_fits p t hp ht n b h ls x l i) j in
    written_as_before v (closed_numbers 0 v value.0 (ground_below v value.2) (omega (arith, s)) c)
