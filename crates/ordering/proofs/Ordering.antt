-- Lists of deferred goals: a goal is dropped from one and put in front. By the list, each goal before the dropped one being written anew
-- with what is left of the list behind it. Assumes nothing.
use mathlib.Core.Path.{◌≡◌, refl, sym, ap, ◌∙◌, subst}
use mathlib.Core.Logic.{◌↔◌}
use mathlib.Core.List.{List, [], ◌∷◌}
use Prim.Native.Nat.{ℕ, suc, ◌+◌, ◌-◌, ◌*◌, ◌/◌, ◌%◌, ◌<◌, ◌≤◌}
use native.Mathlib.Omega.{arith}
use lib.ListN.{length, get_or, take, drop}
use lib.Seq.{sets}
use Rattle.terms.specs.Figures.{variables, pattern_records, table_bytes, words}
use Rattle.terms.specs.Term.{Term, app, lam, loc, con, var, size, Below}
use Rattle.terms.proofs.Substitute.{size_pos}
use Rattle.matching.specs.Goals.{Goal, Goal.match, Goal.build, Meets, All}
use Rattle.matching.specs.Occurrences.{part_at}
use Rattle.records.specs.Parts.{slice, Part, Whole, Ends}
use Rattle.records.proofs.Parts.{part_bytes, whole, kind_at, whole_head, whole_argument}
use Rattle.records.proofs.Slices.{part_slice, whole_slice, slice_length}
use Rattle.assignments.specs.declared.Entry.{Entry}
use Rattle.abstractions.specs.Bodies.{Counting}
use Rattle.abstractions.proofs.Bodies.{counting_at}
use Rattle.abstractions.proofs.Occurrences.{part_at_lem}
use Rattle.agenda.specs.declared.Agenda.{Agenda}
use Rattle.agenda.specs.declared.StoredGoal.{StoredGoal}
use Rattle.agenda.specs.Stored.{stored_bytes, StoredAt, StoredFits}
use Rattle.agenda.specs.State.{goal_bytes, record_weight, build_weight, pattern_at, next_at, GoalAt, Easy, Deferred, Node, Chain}
use Rattle.agenda.specs.State.{weight, weights, Ready}
use Rattle.ordering.specs.Forwarding.{Forwarded}
use Rattle.deciding.specs.Deciding.{HasEntries}
use Rattle.agenda.specs.Locals.{Locals}
use Rattle.ordering.specs.Ordering.{Reaches, Reaches.here, Reaches.further, linked, Branches, Costed, Ranks, Drops, Dropped}
use Rattle.agenda.proofs.Lacking.{all_marks_at, locals_at}
use Rattle.agenda.proofs.Frame.{Kept, next_kept, target_kept, chain_kept, holds_kept, kept_sets, kept_then, length_stored, goal_stored}
use Rattle.agenda.proofs.Frame.{chain_match, chain_build}

-- the goal at the front of a list, and the list behind it
pub record FrontGoal (K : Goal → Type 0) (P W : List ℕ) (top at : ℕ) (gs : List Goal) : Type 0 where
  pub goal : Goal
  pub rest : List Goal
  pub is : gs ≡ goal ∷ rest
  pub node : Node K P W top at goal
  pub chain : Chain K P W top (next_at W at) rest

pub front_goal : (K : Goal → Type 0) (P W : List ℕ) (top at : ℕ) (gs : List Goal) → Chain K P W top at gs → 0 < at
    → FrontGoal K P W top at gs
front_goal K P W top at [] x h = absurd (omega (arith, x))
front_goal K P W top at (g ∷ gs) x h = record { goal = g; rest = gs; is = refl; node = x.0; chain = x.1 }

all_first : (gs : List Goal) (g : Goal) (rs : List Goal) → gs ≡ g ∷ rs → (φ : ℕ → Term) → All gs φ ↔ (Meets g φ × All rs φ)
all_first gs g rs e φ = subst (λ (l : List Goal). All l φ ↔ (Meets g φ × All rs φ)) (sym e) (λ x. x, λ x. x)

-- a list that comes to a goal has one
pub reaches_some : (W : List ℕ) (at i : ℕ) → Reaches W at i → 0 < at
reaches_some W at i (here h e) = h
reaches_some W at i (further h r) = h

pub reaches_next : (W : List ℕ) (at i : ℕ) → Reaches W at i → ¬ (at ≡ i) → Reaches W (next_at W at) i
reaches_next W at i (here h e) n = absurd (n e)
reaches_next W at i (further h r) n = r

-- a list that stands below `top` comes to the same goals where the bytes below are kept
pub reaches_kept :
    (W X : List ℕ) (top : ℕ) → Kept W X top → (P : List ℕ) (K : Goal → Type 0) (at i : ℕ) (gs : List Goal) → Chain K P W top at gs
    → Reaches W at i → Reaches X at i
reaches_kept W X top k P K at i [] c (here h e) = here h e
reaches_kept W X top k P K at i [] c (further h r) = absurd (omega (arith, c))
reaches_kept W X top k P K at i (g ∷ gs) c (here h e) = here h e
reaches_kept W X top k P K at i (g ∷ gs) c (further h r) =
    further h
    (subst (λ (j : ℕ). Reaches X j i) (sym (next_kept W X top k at c.0.room)) (reaches_kept W X top k P K (next_at W at) i gs c.1 r))

ranks :
    (P W : List ℕ) (top at : ℕ) (gs : List Goal) → Chain Deferred P W top at gs → 0 < at → top ≤ length W → length W ≤ table_bytes
    → length P ≤ 4 * pattern_records → Ranks P W at
ranks P W top at gs c h b m l =
    let f = front_goal Deferred P W top at gs c h in
    record {
      top = top;
      goals = gs;
      chain = c;
      some = h;
      within = omega (arith, f.node.room);
      falls = f.node.falls;
      below = b;
      most = m;
      short = l;
    }

linked_fits : {r q : StoredGoal} {n : ℕ} → StoredFits r → q ≡ linked r n → n < 4 * words → StoredFits q
linked_fits f e h =
    rw e (record { part = f.part; origin = f.origin; from = f.from; near = f.near; next = h; argument = f.argument })

-- a goal that is written anew above `top`, in front of a list
pub anew :
    (P W X : List ℕ) (top at o n : ℕ) (r : StoredGoal) (g : Goal) (gs : List Goal) → Kept W X top → top ≤ o → Node Deferred P W top at g
    → StoredAt W at r → StoredAt X o (linked r n)
    → n < o → o % 4 ≡ 0 → Chain Deferred P X (o + goal_bytes) n gs → Chain Deferred P X (o + goal_bytes) o (g ∷ gs)
anew P W X top at o n r (match p t) gs k h x y z l e c =
    let q = x.goal in
    chain_match Deferred P X (o + goal_bytes) o (linked r n) z (omega (arith, x.room)) (omega arith) e l p t gs
    (y.argument ∙ q.kind) x.kind (rw y.part q.part)
    (rw y.origin (rw y.target (target_kept W X top k (o + goal_bytes) (omega arith) _ _ _ t q.target))) q.suits c
anew P W X top at o n r (build f t e) gs k h x y z l ev c =
    let q = x.goal in
    chain_build Deferred P X (o + goal_bytes) o (linked r n) z (omega (arith, x.room)) (omega arith) ev l f t e gs
    x.kind (rw y.part q.part)
    (rw y.origin (rw y.target (target_kept W X top k (o + goal_bytes) (omega arith) _ _ _ t q.target)))
    (rw y.argument (target_kept W X top k (o + goal_bytes) (omega arith) _ _ _ e q.argument)) q.suits c

module _ {W X Y : List ℕ} {top at j i list end : ℕ} {r q : StoredGoal} (x : StoredAt W at r) (y : Dropped W top j i X list end)
    (whole : length W ≡ table_bytes)
    (room : end + goal_bytes ≤ table_bytes) (e : q ≡ linked r list) (s : Y ≡ sets X end (stored_bytes q)) where
  relinked_stored : Y ≡ sets X end (stored_bytes (linked r list))
  relinked_stored = s ∙ ap (λ (z : StoredGoal). sets X end (stored_bytes z)) e

  list_kept : Kept X Y end
  list_kept = kept_sets (stored_bytes (linked r list)) X Y end end relinked_stored (omega arith) (omega (arith, y.whole))

  below_kept : Kept W Y top
  below_kept = kept_then W X Y top end y.higher
      (record { same = y.kept; from = omega (arith, y.higher); to = omega (arith, y.higher, y.whole) }) list_kept

  stands : StoredAt Y end (linked r list)
  stands = goal_stored X Y end (linked r list) relinked_stored (omega (arith, y.whole)) (omega (arith, x.part)) (omega (arith, x.origin))
      (omega (arith, x.origin, x.target)) (omega (arith, x.target)) y.list_even (omega (arith, x.argument))

  in_front : (P : List ℕ) (g : Goal) (gs : List Goal) → Node Deferred P W top at g → Chain Deferred P X end list gs
      → Chain Deferred P Y (end + goal_bytes) end (g ∷ gs)
  in_front P g gs n c =
      anew P W Y top at end list r g gs below_kept y.higher n x stands (omega (arith, y.below)) y.even
      (chain_kept X Y end list_kept (end + goal_bytes) (omega arith) P Deferred list gs c)

-- the steps of a walk that drops a goal
module _ {W : List ℕ} {top at i : ℕ} {r : StoredGoal} (d : Drops W top at i) (x : StoredAt W at r) where
  pub dropped_here : at ≡ i → Dropped W top at i W r.next top
  dropped_here e = record {
    go = λ P gs c y.
        let f = front_goal Deferred P W top at gs c (reaches_some W at i y) in (
          f.goal,
          f.rest,
          subst (λ (j : ℕ). Node Deferred P W top j f.goal) e f.node,
          record {
            chain = rw x.next f.chain;
            few = omega (arith, ap length f.is);
            weighs = omega (arith, ap (weights 0) f.is);
            same = all_first gs f.goal f.rest f.is;
          },
        );
    later = λ P gs c y j h. rw x.next (subst (λ (k : ℕ). Reaches W (next_at W k) j) (sym e) h);
    kept = refl;
    whole = refl;
    higher = omega arith;
    even = d.even;
    list_even = omega (arith, x.next);
    below = omega (arith, d.falls, d.within, x.next);
  }

  module _ (n : ¬ (at ≡ i)) where
    next_reached : Reaches W r.next i
    next_reached = rw x.next (reaches_next W at i d.reaches n)

    pub drops_next : Drops W top r.next i
    drops_next =
        let f = front_goal Deferred d.pattern W top at d.goals d.chain (reaches_some W at i d.reaches) in
        let c : Chain Deferred d.pattern W top r.next f.rest = rw x.next f.chain in
        let g = front_goal Deferred d.pattern W top r.next f.rest c (reaches_some W r.next i next_reached) in
        record {
          pattern = d.pattern;
          goals = f.rest;
          chain = c;
          reaches = next_reached;
          within = g.node.room;
          falls = g.node.falls;
          whole = d.whole;
          room = omega (arith, d.room, ap length f.is);
          even = d.even;
        }

    module _ {X : List ℕ} {list end : ℕ} (y : Dropped W top r.next i X list end) where
      pub anew_room : end + goal_bytes ≤ table_bytes
      anew_room =
          let z = y.go drops_next.pattern drops_next.goals drops_next.chain next_reached in
          omega (arith, z.3.few, drops_next.room)

      pub anew_fits : StoredFits r → {q : StoredGoal} → q ≡ linked r list → StoredFits q
      anew_fits f e = linked_fits f e (omega (arith, anew_room, y.below))

      pub dropped_further : {Y : List ℕ} {q : StoredGoal} → q ≡ linked r list → Y ≡ sets X end (stored_bytes q)
          → Dropped W top at i Y end (end + goal_bytes)
      dropped_further {Y} {q} e s = record {
        go = λ P gs c u.
            let f = front_goal Deferred P W top at gs c (reaches_some W at i u) in
            let b = y.go P f.rest (rw x.next f.chain) next_reached in (
              b.0,
              f.goal ∷ b.1,
              b.2,
              record {
                chain = in_front x y d.whole anew_room e s P f.goal b.1 f.node b.3.chain;
                few = omega (arith, b.3.few, ap length f.is);
                weighs = omega (arith, ap (weights 0) f.is, b.3.weighs);
                same = λ φ.
                    let a = all_first gs f.goal f.rest f.is φ in
                    let m = b.3.same φ in
                    (λ j. let n = m.0 (a.0 j).1 in (n.0, ((a.0 j).0, n.1)), λ j. a.1 (j.1.0, m.1 (j.0, j.1.1)));
              },
            );
        later = λ P gs c u j h.
            let f = front_goal Deferred P W top at gs c (reaches_some W at i u) in
            let t : Chain Deferred P W top r.next f.rest = rw x.next f.chain in
            let b = y.go P f.rest t next_reached in
            let k = reaches_kept X Y end (list_kept x y d.whole anew_room e s) P Deferred list j b.1 b.3.chain
            (y.later P f.rest t next_reached j h) in
            let n : 0 < end = omega (arith, y.below) in
            further n (subst (λ (n : ℕ). Reaches Y n j) (stands x y d.whole anew_room e s).next k);
        kept = (below_kept x y d.whole anew_room e s).same;
        whole = length_stored (stored_bytes q) X Y end s ∙ y.whole;
        higher = omega (arith, y.higher);
        even = omega (arith, y.even);
        list_even = y.even;
        below = omega arith;
      }

-- the parts of a goal whose cost is asked
module _ {P W : List ℕ} {at : ℕ} {r : StoredGoal} (x : Costed P W at) (y : StoredAt W at r) where
  pub weighs_target : Whole W r.target
  weighs_target = cases x.goal x.stands
    where
      cases : (g : Goal) → GoalAt P W x.top at g → Whole W r.target
      cases (match p t) z = rw y.target (whole W _ t z.target.part)
      cases (build f t e) z = rw y.target (whole W _ t z.target.part)

  pub weighs_part : Whole P r.part
  weighs_part = cases x.goal x.stands
    where
      cases : (g : Goal) → GoalAt P W x.top at g → Whole P r.part
      cases (match p t) z = rw y.part (whole P _ p z.part)
      cases (build f t e) z = rw y.part (whole P _ f z.part)

  pub weighs_entries : (end : ℕ) → Ends P r.part end → HasEntries (take (end - r.part) (drop r.part P))
  weighs_entries end m = cases x.goal x.stands
    where
      has : (p : Term) → Part P (pattern_at W at) p → Below variables p → HasEntries (take (end - r.part) (drop r.part P))
      has p z b =
          let v : Part P r.part p = rw y.part z in
          record { tree = p; bytes = part_bytes P r.part (end - r.part) p v (omega (arith, m.exact p v)); below = b }

      cases : (g : Goal) → GoalAt P W x.top at g → HasEntries (take (end - r.part) (drop r.part P))
      cases (match p t) z = has p z.part z.suits.0.0
      cases (build f t e) z = has f z.part z.suits.0.0

  pub weighs_argument : ¬ (r.argument ≡ 0) → Whole W r.argument
  weighs_argument n = cases x.goal x.stands
    where
      cases : (g : Goal) → GoalAt P W x.top at g → Whole W r.argument
      cases (match p t) z = absurd (n (y.argument ∙ z.kind))
      cases (build f t e) z = rw y.argument (whole W _ e z.argument.part)

  pub weighs_copies : ¬ (r.argument ≡ 0) → Counting (slice W r.target) 0 (slice W r.argument)
  weighs_copies n = counting_at W W r.target r.argument 0 weighs_target (weighs_argument n) (omega (arith, x.most))

  pub weighs_locals : ¬ (r.argument ≡ 0) → Locals (slice P r.part) (slice W r.argument)
  weighs_locals n = cases x.goal x.stands
    where
      cases : (g : Goal) → GoalAt P W x.top at g → Locals (slice P r.part) (slice W r.argument)
      cases (match p t) z = absurd (n (y.argument ∙ z.kind))
      cases (build f t e) z =
          let u = z.argument in
          locals_at P r.part W r.argument weighs_part x.short
          (all_marks_at W r.argument (pattern_records - suc (size f)) e (rw y.argument u.part) (omega arith) u.closed
          (omega (arith, u.short)))

-- the candidates of an application
module _ {P W : List ℕ} (x : Branches P W) where
  pub branches_head : Whole P 4
  branches_head = whole_head P 0 x.part x.kind

  pub branches_argument : {h : ℕ} → Ends P 4 h → Whole (slice P h) 0
  branches_argument {h} e = whole_slice P h (whole_argument P 0 h x.part x.kind e)

  pub branches_whole : {end : ℕ} (k : ℕ) → Ends W 0 end → k < end / 4 → Whole W (4 * k)
  branches_whole k e h =
      let t = x.target.tree in
      let p = x.target.part in
      let n : 0 + 4 * k ≡ 4 * k = omega arith in
      subst (Whole W) n (whole W (0 + 4 * k) (part_at 0 t k).1 (part_at_lem W 0 0 t k p (omega (arith, e.exact t p))))

-- the steps of a walk over a list
module _ {P W : List ℕ} {at : ℕ} (x : Ranks P W at) where
  front : FrontGoal Deferred P W x.top at x.goals
  front = front_goal Deferred P W x.top at x.goals x.chain x.some

  pub ranks_costs : Costed P W at
  ranks_costs = record {
    top = x.top;
    goal = front.goal;
    stands = front.node.goal;
    deferred = front.node.kind;
    within = x.within;
    most = x.most;
    short = x.short;
  }

  pub ranks_next : {r : StoredGoal} → StoredAt W at r → ¬ (r.next ≡ 0) → Ranks P W r.next
  ranks_next {r} y n =
      let c : Chain Deferred P W x.top r.next front.rest = rw y.next front.chain in
      ranks P W x.top r.next front.rest c (omega (arith, n)) x.below x.most x.short

  pub ranks_here : Reaches W at at
  ranks_here = here x.some refl

  pub ranks_further : {r : StoredGoal} {i : ℕ} → StoredAt W at r → Reaches W r.next i → Reaches W at i
  ranks_further y h = further x.some (rw y.next at h)

-- the goal that a list comes to
pub goal_reached : (P W : List ℕ) (top at i : ℕ) (gs : List Goal) → Chain Deferred P W top at gs → Reaches W at i
    → (g : Goal) × Node Deferred P W top i g
goal_reached P W top at i [] c (here h e) = absurd (omega (arith, c))
goal_reached P W top at i [] c (further h r) = absurd (omega (arith, c))
goal_reached P W top at i (g ∷ gs) c (here h e) = (g, subst (λ (j : ℕ). Node Deferred P W top j g) e c.0)
goal_reached P W top at i (g ∷ gs) c (further h r) = goal_reached P W top (next_at W at) i gs c.1 r

-- a deferred goal has a weight of 3,000 or more, so that there are few: an application has three records
pub weight_least : (P W : List ℕ) (top at : ℕ) (g : Goal) → Node Deferred P W top at g → record_weight + build_weight ≤ weight g
weight_least P W top at (match (app f a) t) x = omega (arith, size_pos f, size_pos a)
weight_least P W top at (match (lam b) t) x = absurd x.kind
weight_least P W top at (match (loc i) t) x = absurd x.kind
weight_least P W top at (match (con i) t) x = absurd x.kind
weight_least P W top at (match (var i) t) x = absurd x.kind
weight_least P W top at (build f t e) x = omega (arith, x.goal.part.some)

pub few_goals :
    (P W : List ℕ) (top at : ℕ) (gs : List Goal) → Chain Deferred P W top at gs
    → (record_weight + build_weight) * length gs ≤ weights 0 gs
few_goals P W top at [] c = omega arith
few_goals P W top at (g ∷ gs) c = omega (arith, weight_least P W top at g c.0, few_goals P W top (next_at W at) gs c.1)

-- the goal that is to be first is brought there
module _ {P W : List ℕ} {s : Agenda} {a : List Entry} (x : Ready 0 P W s a) (none : s.easy ≡ 0) (some : 0 < s.deferred) where
  pub ready_ranks : Ranks P W s.deferred
  ready_ranks =
      let b = x.bounds in
      ranks P W s.top s.deferred x.hs x.state.deferred some (omega (arith, b.top, b.whole)) (omega (arith, b.whole))
      b.short

  relinking_room : s.top + goal_bytes * length x.hs ≤ table_bytes
  relinking_room = omega (arith, few_goals P W s.top s.deferred x.hs x.state.deferred, x.state.room)

  module _ {i : ℕ} (h : Reaches W s.deferred i) where
    pub reached_room : i + goal_bytes ≤ length W
    reached_room =
        omega (arith, (goal_reached P W s.top s.deferred i x.hs x.state.deferred h).1.room, x.bounds.top, x.bounds.whole)

    pub ready_drops : Drops W s.top s.deferred i
    ready_drops =
        let f = front_goal Deferred P W s.top s.deferred x.hs x.state.deferred some in
        record {
          pattern = P;
          goals = x.hs;
          chain = x.state.deferred;
          reaches = h;
          within = f.node.room;
          falls = f.node.falls;
          whole = x.bounds.whole;
          room = relinking_room;
          even = x.bounds.even;
        }

    module _ {r : StoredGoal} {X : List ℕ} {list end : ℕ} (y : StoredAt W i r) (z : Dropped W s.top s.deferred i X list end) where
      pub forward_room : end + goal_bytes ≤ table_bytes
      forward_room = omega (arith, (z.go P x.hs x.state.deferred h).3.few, relinking_room)

      pub forward_fits : StoredFits r → {q : StoredGoal} → q ≡ linked r list → StoredFits q
      forward_fits f e = linked_fits f e (omega (arith, forward_room, z.below))

      pub forwarded : {q : StoredGoal} {Y : List ℕ} → q ≡ linked r list → Y ≡ sets X end (stored_bytes q)
          → Forwarded P W s a Y (record { top = end + goal_bytes; easy = s.easy; deferred = end })
      forwarded {q} {Y} e w =
          let k : Kept W Y s.top = below_kept y z x.bounds.whole forward_room e w in
          record {
            go = λ gs hs l u.
                let b = z.go P hs u.deferred h in
                record {
                  gs = gs;
                  hs = b.0 ∷ b.1;
                  line = l;
                  state = record {
                    easy = chain_kept W Y s.top k (end + goal_bytes) (omega (arith, z.higher)) P Easy s.easy gs u.easy;
                    deferred = in_front y z x.bounds.whole forward_room e w P b.0 b.1 b.2 b.3.chain;
                    entries = holds_kept W Y s.top k (end + goal_bytes) (omega (arith, z.higher)) a l u.entries;
                    line = u.line;
                    assigns = u.assigns;
                    room = omega (arith, few_goals P W s.top s.deferred hs u.deferred, u.room, b.3.few, b.3.weighs);
                  };
                  same = λ φ v. (
                    λ m. let n = (b.3.same φ).0 m.1 in (m.0, (n.0, n.1), m.2),
                    λ m. (m.0, (b.3.same φ).1 (m.1.0, m.1.1), m.2),
                  );
                };
            kept = k.same;
            higher = omega (arith, z.higher);
            level = omega (arith, z.higher);
            bounds = record {
              whole = length_stored (stored_bytes q) X Y end w ∙ z.whole ∙ x.bounds.whole;
              short = x.bounds.short;
              top = forward_room;
              start = omega arith;
              even = omega (arith, z.even);
              easy_room = omega (arith, x.bounds.easy_room, z.higher);
              easy_even = x.bounds.easy_even;
              deferred_room = omega arith;
              deferred_even = z.even;
            };
            none_easy = none;
            some_deferred = omega (arith, z.higher, x.bounds.start);
          }
