-- Assignments of n entries against the total ones: a complete one fills a pattern as its total one does and agrees with the lines that
-- its total one extends, so that a full listing is rising lines that list the matches. Entry by entry. Assumes nothing.
--   total_of a      the total assignment of a, with `k0` for the open entries
--   restrict n φ   the assignment of n entries of the total assignment φ
use mathlib.Core.Path.{◌≡◌, refl, sym, ap, ◌∙◌}
use mathlib.Core.Option.{Option, none, some}
use mathlib.Core.List.{List, [], ◌∷◌}
use mathlib.Core.Logic.{◌↔◌}
use Prim.Native.Nat.{ℕ, zero, suc, ◌<◌}
use native.Mathlib.Omega.{arith}
use lib.Dec.{lit<}
use lib.ListN.{length}
use Rattle.terms.specs.Term.{Term, con, Value, Occurs, Below}
use Rattle.terms.specs.Sweep.{sweep, fill}
use Rattle.terms.specs.Assignment.{Assignment, entry, valuation, value_or, Assigns, Entries, Complete, Match}
use Rattle.terms.specs.Listing.{In, Line, Rising, AgreesAt, Agrees, Full}
use Rattle.terms.proofs.Sweep.{fill_same}
use Rattle.terms.proofs.Occurs.{occurs_below}
use Rattle.terms.proofs.Order.{rising_distinct}
use Rattle.matching.specs.Lists.{Values, ExtendsAt, Extends, Lists}
use Rattle.matching.specs.Goals.{Sweeps}
use Rattle.matching.proofs.Lines.{assigns_entry}

-- from n entries to a total assignment
abbrev pub total_of : Assignment → ℕ → Term
total_of a i = value_or (con 0) (entry a i)

pub values_total : (n : ℕ) (a : Assignment) → Entries n a → Values (total_of a)
values_total n a e i = go (entry a i) refl
  where
    go : (o : Option Term) → entry a i ≡ o → Value (value_or (con 0) o)
    go none p = (tt, tt, lit< tt)
    go (some v) p = (assigns_entry (λ j. Unit {0}) a i v e.1 p).1

pub fill_total : (p : Term) (a : Assignment) → Complete p a → fill (valuation a) p ≡ fill (total_of a) p
fill_total p a c = fill_same (valuation a) (total_of a) p (λ i o. let v = c i o in rw v.1)

agrees_extends : (a l : Line) → Agrees a l → Extends (total_of a) l
agrees_extends [] [] g = tt
agrees_extends [] (q ∷ l) g = absurd g
agrees_extends (o ∷ a) [] g = absurd g
agrees_extends (o ∷ a) (none ∷ l) g = (tt, agrees_extends a l g.1)
agrees_extends (o ∷ a) (some v ∷ l) g = (ap (value_or (con 0)) g.0, agrees_extends a l g.1)

-- what the line assigns is assigned
extends_agrees :
    (S : ℕ → Type 0) (a l : Line) → length a ≡ length l → ((i : ℕ) → S i → (v : Term) × (entry a i ≡ some v)) → Assigns S l
    → Extends (total_of a) l → Agrees a l
extends_agrees S [] [] e c h g = tt
extends_agrees S [] (q ∷ l) e c h g = absurd (omega arith)
extends_agrees S (o ∷ a) [] e c h g = absurd (omega arith)
extends_agrees S (o ∷ a) (none ∷ l) e c h g = (tt, extends_agrees (λ i. S (suc i)) a l (omega arith) (λ i. c (suc i)) h.1 g.1)
extends_agrees S (o ∷ a) (some w ∷ l) e c h g =
    let v = c 0 h.0.0 in
    let q : value_or (con 0) o ≡ v.0 = ap (value_or (con 0)) v.1 in
    (v.1 ∙ ap some (sym q ∙ g.0), extends_agrees (λ i. S (suc i)) a l (omega arith) (λ i. c (suc i)) h.1 g.1)

-- from a total assignment to n entries
abbrev pub restrict : ℕ → (ℕ → Term) → Assignment
restrict zero φ = []
restrict (suc n) φ = some (φ 0) ∷ restrict n (λ i. φ (suc i))

pub entries_restrict : (n : ℕ) (φ : ℕ → Term) → Values φ → Entries n (restrict n φ)
entries_restrict zero φ v = (refl, tt)
entries_restrict (suc n) φ v = let r = entries_restrict n (λ i. φ (suc i)) (λ i. v (suc i)) in (ap suc r.0, ((tt, v 0), r.1))

entry_restrict : (n : ℕ) (φ : ℕ → Term) (i : ℕ) → i < n → entry (restrict n φ) i ≡ some (φ i)
entry_restrict zero φ i h = absurd (omega arith)
entry_restrict (suc n) φ zero h = refl
entry_restrict (suc n) φ (suc i) h = entry_restrict n (λ j. φ (suc j)) i (omega arith)

module _ (n : ℕ) (p : Term) (b : Below n p) where
  pub complete_restrict : (φ : ℕ → Term) → Complete p (restrict n φ)
  complete_restrict φ i o = (φ i, entry_restrict n φ i (occurs_below n i p b o))

  pub fill_restrict : (φ : ℕ → Term) → fill (valuation (restrict n φ)) p ≡ fill φ p
  fill_restrict φ = fill_same (valuation (restrict n φ)) φ p (λ i o. rw (entry_restrict n φ i (occurs_below n i p b o)))

pub agrees_restrict : (n : ℕ) (φ : ℕ → Term) (l : Line) → length l ≡ n → Extends φ l ↔ Agrees (restrict n φ) l
agrees_restrict zero φ [] e = (λ g. tt, λ g. tt)
agrees_restrict zero φ (o ∷ l) e = absurd (omega arith)
agrees_restrict (suc n) φ [] e = absurd (omega arith)
agrees_restrict (suc n) φ (o ∷ l) e =
    let r = agrees_restrict n (λ i. φ (suc i)) l (omega arith) in
    let s = at o in
    (λ g. (s.0 g.0, r.0 g.1), λ g. (s.1 g.0, r.1 g.1))
  where
    at : (o : Option Term) → ExtendsAt (φ 0) o ↔ AgreesAt (some (φ 0)) o
    at none = (λ g. tt, λ g. tt)
    at (some v) = (λ g. ap some g, λ g. cc)

-- a full listing is rising lines that list the matches
module _ (n : ℕ) (p t : Term) (b : Below n p) (ls : List Line) where
  abbrev S : ℕ → Type 0
  S i = Occurs i p

  pub full_lists : Lists n S (Sweeps p t) ls → Rising ls → Full n p t ls
  full_lists x u = record {
    entries = x.entries;
    assigns = x.assigns;
    rising = u;
    sound = λ a e c l i g. (e, c, ap sweep (fill_total p a c) ∙ x.sound (total_of a) (values_total n a e) l i (agrees_extends a l g));
    covers = λ a m.
        let r = x.covers (total_of a) (values_total n a m.0) (sym (ap sweep (fill_total p a m.1)) ∙ m.2) in
        (r.0, r.1, extends_agrees S a r.0 (m.0.0 ∙ sym (x.entries r.0 r.1)) m.1 (x.assigns r.0 r.1) r.2);
    once = λ a m l k i j g h. x.once (total_of a) (values_total n a m.0) l k i j (agrees_extends a l g) (agrees_extends a k h);
  }

  -- the match that a total assignment is
  match_restrict : (φ : ℕ → Term) → Values φ → Sweeps p t φ → Match n p t (restrict n φ)
  match_restrict φ v s = (entries_restrict n φ v, complete_restrict n p b φ, ap sweep (fill_restrict n p b φ) ∙ s)

  pub lists_full : Full n p t ls → Lists n S (Sweeps p t) ls
  lists_full x = record {
    entries = x.entries;
    assigns = x.assigns;
    sound = sound;
    covers = λ φ v s.
        let r = x.covers (restrict n φ) (match_restrict φ v s) in
        (r.0, r.1, (agrees_restrict n φ r.0 (x.entries r.0 r.1)).1 r.2);
    once = λ φ v l m i j g h.
        x.once (restrict n φ) (match_restrict φ v (sound φ v l i g)) l m i j ((agrees_restrict n φ l (x.entries l i)).0 g)
        ((agrees_restrict n φ m (x.entries m j)).0 h);
    distinct = rising_distinct ls x.rising;
  }
    where
      sound : (φ : ℕ → Term) → Values φ → (l : Line) → In l ls → Extends φ l → Sweeps p t φ
      sound φ v l i g =
          sym (ap sweep (fill_restrict n p b φ))
          ∙ (x.sound (restrict n φ) (entries_restrict n φ v) (complete_restrict n p b φ) l i
          ((agrees_restrict n φ l (x.entries l i)).0 g)).2
