-- The first easy goal of a state, and the states that a step leaves. The goal is what the chain of the easy goals begins with; a goal that
-- is written above `top` begins a chain that holds what the one before held. Assumes nothing.
--   Opened P W s r gs hs   the goals gs begin with the stored goal r: its terms, the goals behind it and the room for them
--   Pushed P Y at r p t    the goal to match p with t is as good as that of the stored goal r, which is smaller and stands in Y below `at`
use mathlib.Core.Path.{◌≡◌, refl, sym, ◌∙◌, subst, subst₂}
use mathlib.Core.Logic.{◌↔◌}
use mathlib.Core.List.{List, [], ◌∷◌}
use Prim.Native.Nat.{ℕ, ◌+◌, ◌*◌, ◌%◌, ◌<◌, ◌≤◌}
use native.Mathlib.Omega.{arith}
use lib.ListN.{length}
use lib.Seq.{sets}
use Rattle.terms.specs.Figures.{variables, table_bytes}
use Rattle.terms.specs.Term.{Term, size}
use Rattle.terms.specs.Listing.{Line}
use Rattle.terms.specs.Refusal.{OccursIn}
use Rattle.matching.specs.Lists.{Values, Extends}
use Rattle.matching.specs.Goals.{Sweeps, Goal, Goal.match, Goal.build, All, Listable}
use Rattle.records.specs.Parts.{Part}
use Rattle.records.proofs.Parts.{whole}
use Rattle.assignments.specs.declared.Entry.{Entry}
use Rattle.agenda.specs.declared.Agenda.{Agenda}
use Rattle.agenda.specs.declared.StoredGoal.{StoredGoal}
use Rattle.agenda.specs.declared.Step.TheVariants as step
use Rattle.agenda.specs.Stored.{stored_bytes, StoredAt, StoredFits}
use Rattle.agenda.specs.State.{goal_bytes, record_weight, Target, Chain, Easy, State, Bounds, Ready, weights}
use Rattle.agenda.specs.Moves.{Failed}
use Rattle.steps.specs.Steps.{Stepped}
use Rattle.steps.specs.Opening.{Opens}
use Rattle.agenda.proofs.Frame.{Kept, target_kept, chain_kept, holds_kept, kept_sets, kept_then, length_stored, goal_stored, chain_match}

pub record Opened (P W : List ℕ) (s : Agenda) (r : StoredGoal) (gs hs : List Goal) : Type 0 where
  pub p : Term
  pub t : Term
  pub rest : List Goal
  pub is : gs ≡ match p t ∷ rest
  pub part : Part P r.part p
  pub target : Target W s.top (size p) r.origin r.target t
  pub suits : Listable variables (OccursIn P) (match p t)
  pub chain : Chain Easy P W s.top r.next rest
  pub falls : r.next < s.easy
  pub room : s.top + goal_bytes + record_weight * size p + weights goal_bytes rest + weights 0 hs ≤ table_bytes

pub easy_opened :
    (P W : List ℕ) (s : Agenda) (a : List Entry) (r : StoredGoal) → 0 < s.easy → StoredAt W s.easy r
    → (gs hs : List Goal) (l : Line) → State 0 P W s a gs hs l → Opened P W s r gs hs
easy_opened P W s a r some stored_goal gs hs l x = go gs x.easy x.room
  where
    go : (gs : List Goal) → Chain Easy P W s.top s.easy gs → s.top + weights goal_bytes gs + weights 0 hs ≤ table_bytes + 0
        → Opened P W s r gs hs
    go [] c w = absurd (omega (arith, c))
    go (match p t ∷ rest) c w = record {
      p = p;
      t = t;
      rest = rest;
      is = refl;
      part = subst (λ (i : ℕ). Part P i p) (sym stored_goal.part) c.0.goal.part;
      target = subst₂ (λ (b i : ℕ). Target W s.top (size p) b i t) (sym stored_goal.origin) (sym stored_goal.target)
          c.0.goal.target;
      suits = c.0.goal.suits;
      chain = subst (λ (i : ℕ). Chain Easy P W s.top i rest) (sym stored_goal.next) c.1;
      falls = omega (arith, stored_goal.next, c.0.falls);
      room = omega (arith, w);
    }
    go (build f t e ∷ rest) c w = absurd c.0.kind

-- what the functions of a step need
pub opens : (P W : List ℕ) (s : Agenda) (a : List Entry) (r : StoredGoal) → Ready 0 P W s a → 0 < s.easy → StoredAt W s.easy r
    → StoredFits r → Opens P W s a r
opens P W s a r x some stored_goal fits =
    let o = easy_opened P W s a r some stored_goal x.gs x.hs x.line x.state in
    record {
      ready = x;
      some = some;
      stored_goal = stored_goal;
      fits = fits;
      part = whole P r.part o.p o.part;
      target = whole W r.target o.t o.target.part;
      part_even = omega (arith, stored_goal.part);
      origin_even = omega (arith, stored_goal.origin);
      target_even = omega (arith, stored_goal.target);
      next_even = omega (arith, stored_goal.next);
      falls = o.falls;
      below = omega (arith, o.target.below, o.target.part.some);
      low = o.target.heights.low;
      within = omega (arith, o.target.heights.within, o.target.part.some);
      room = omega (arith, o.room, o.part.some);
    }

-- a goal more at the head of a chain
pub match_pushed :
    (K : Goal → Type 0) (P Y X : List ℕ) (at : ℕ) (q : StoredGoal) → X ≡ sets Y at (stored_bytes q) → 0 < at → at + goal_bytes ≤ length Y
    → at % 4 ≡ 0
    → q.argument ≡ 0 → q.next < at → q.part % 4 ≡ 0 → q.origin % 4 ≡ 0 → q.target % 4 ≡ 0 → q.next % 4 ≡ 0
    → (p t : Term) (gs : List Goal) → K (match p t) → Part P q.part p → Target Y at (size p) q.origin q.target t
    → Listable variables (OccursIn P) (match p t)
    → Chain K P Y at q.next gs → Chain K P X (at + goal_bytes) at (match p t ∷ gs)
match_pushed K P Y X at q e low room even kind falls a b c d p t gs fit part target suits chain =
    let k = kept_sets (stored_bytes q) Y X at at e (omega arith) (omega arith) in
    chain_match K P X (at + goal_bytes) at q (goal_stored Y X at q e room a b target.heights.from c d (omega (arith, kind))) low
    (omega arith) even falls p t gs kind fit part
    (target_kept Y X at k (at + goal_bytes) (omega arith) (size p) q.origin q.target t target) suits
    (chain_kept Y X at k (at + goal_bytes) (omega arith) P K q.next gs chain)

pub record Pushed (P Y : List ℕ) (at : ℕ) (r : StoredGoal) (p t : Term) : Type 0 where
  pub q : Term
  pub u : Term
  pub part : Part P r.part q
  pub target : Target Y at (size q) r.origin r.target u
  pub suits : Listable variables (OccursIn P) (match q u)
  pub fewer : size q < size p
  pub same : (φ : ℕ → Term) → Values φ → Sweeps p t φ ↔ Sweeps q u φ

-- the steps of the first easy goal, r
module _ (P W : List ℕ) (s : Agenda) (a : List Entry) (r : StoredGoal) (x : Opens P W s a r) where
  bounds : Bounds P W s
  bounds = x.ready.bounds

  open_at : (gs hs : List Goal) (l : Line) → State 0 P W s a gs hs l → Opened P W s r gs hs
  open_at = easy_opened P W s a r x.some x.stored_goal

  -- no assignment satisfies it
  pub step_failed :
      ((gs hs : List Goal) (l : Line) → State 0 P W s a gs hs l → (o : Opened P W s r gs hs) (φ : ℕ → Term) → Values φ → Extends φ l
      → ¬ Sweeps o.p o.t φ)
      → Stepped P W s a W step.Failed
  unfolding Stepped
  step_failed n = record {
    none = λ gs hs l y φ v z.
        let o = open_at gs hs l y in
        n gs hs l y o φ v z.2 (subst (λ (g : List Goal). All g φ) o.is z.0).0;
    kept = refl;
  }

  -- every assignment does
  pub dropped :
      ((gs hs : List Goal) (l : Line) → State 0 P W s a gs hs l → (o : Opened P W s r gs hs) (φ : ℕ → Term) → Values φ → Extends φ l
      → Sweeps o.p o.t φ)
      → Stepped P W s a W (step.Left (record { top = s.top; easy = r.next; deferred = s.deferred }))
  unfolding Stepped
  dropped n = record {
    go = λ gs hs l y.
        let o = open_at gs hs l y in
        record {
          gs = o.rest;
          hs = hs;
          line = l;
          state = record {
            easy = o.chain;
            deferred = y.deferred;
            entries = y.entries;
            line = y.line;
            assigns = y.assigns;
            room = omega (arith, o.room);
          };
          same = λ φ v. (
            λ z. ((subst (λ (g : List Goal). All g φ) o.is z.0).1, z.1, z.2),
            λ z. (subst (λ (g : List Goal). All g φ) (sym o.is) (n gs hs l y o φ v z.2, z.0), z.1, z.2),
          );
        };
    kept = refl;
    higher = omega arith;
    falls = omega (arith, x.falls);
    bounds = record {
      whole = bounds.whole;
      short = bounds.short;
      top = bounds.top;
      start = bounds.start;
      even = bounds.even;
      easy_room = omega (arith, bounds.easy_room, x.falls);
      easy_even = x.next_even;
      deferred_room = bounds.deferred_room;
      deferred_even = bounds.deferred_even;
    };
  }

  -- a smaller goal stands for it, written at byte `at` behind what was written for its target
  pub replaced :
      (Y X : List ℕ) (at : ℕ) (q : StoredGoal) → Kept W Y s.top → length Y ≡ table_bytes → X ≡ sets Y at (stored_bytes q) → s.top ≤ at
      → at ≤ s.top + 1000 → at % 4 ≡ 0
      → q.argument ≡ 0 → q.next ≡ r.next → q.part % 4 ≡ 0 → q.origin % 4 ≡ 0 → q.target % 4 ≡ 0
      → ((gs hs : List Goal) (l : Line) → State 0 P W s a gs hs l → (o : Opened P W s r gs hs) → Pushed P Y at q o.p o.t)
      → Stepped P W s a X (step.Left (record { top = at + goal_bytes; easy = at; deferred = s.deferred }))
  unfolding Stepped
  replaced Y X at q k n e up near even kind next qa qb qd f =
      let falls = x.falls in
      let room = x.room in
      let next_even = x.next_even in
      let b = bounds in
      let h = kept_sets (stored_bytes q) Y X at at e (omega arith) (omega arith) in
      let j = kept_then W Y X s.top at up k h in
      record {
        go = λ gs hs l y.
            let o = open_at gs hs l y in
            let u = f gs hs l y o in
            record {
              gs = match u.q u.u ∷ o.rest;
              hs = hs;
              line = l;
              state = record {
                easy =
                    match_pushed Easy P Y X at q e (omega arith) (omega arith) even kind (omega arith) qa qb qd (omega arith) u.q u.u
                    o.rest tt u.part u.target u.suits
                    (chain_kept W Y s.top k at up P Easy q.next o.rest
                    (subst (λ (i : ℕ). Chain Easy P W s.top i o.rest) (sym next) o.chain));
                deferred = chain_kept W X s.top j (at + goal_bytes) (omega arith) P _ s.deferred hs y.deferred;
                entries = holds_kept W X s.top j (at + goal_bytes) (omega arith) a l y.entries;
                line = y.line;
                assigns = y.assigns;
                room = omega (arith, o.room, u.fewer);
              };
              same = λ φ v. (
                λ z.
                    let w : All (match o.p o.t ∷ o.rest) φ = subst (λ (g : List Goal). All g φ) o.is z.0 in
                    (((u.same φ v).0 w.0, w.1), z.1, z.2),
                λ z. (subst (λ (g : List Goal). All g φ) (sym o.is) ((u.same φ v).1 z.0.0, z.0.1), z.1, z.2),
              );
            };
        kept = j.same;
        higher = omega arith;
        falls = omega arith;
        bounds = record {
          whole = length_stored (stored_bytes q) Y X at e ∙ n;
          short = b.short;
          top = omega arith;
          start = omega arith;
          even = omega arith;
          easy_room = omega arith;
          easy_even = even;
          deferred_room = omega (arith, b.deferred_room);
          deferred_even = b.deferred_even;
        };
      }
