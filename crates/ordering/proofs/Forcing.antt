-- One variable in two deferred goals: what finding them shows, and the agenda that is left when its value was written. By the list of
-- goals, and by the value, which is the only one that comes to both targets. Assumes nothing.
--   Among P W top i gs    the goal that stands at byte i, among the goals gs of a list, and the list behind it
--   GoalKnown P W top i p t   whatever deferred goal stands at byte i is that p sweeps to the target t
--   Meant P W s r         the two goals of r: their targets, and what is known of them
use mathlib.Core.Path.{◌≡◌, refl, sym, ap, ap₂, ◌∙◌, subst, subst₂}
use mathlib.Core.List.{List, [], ◌∷◌}
use Prim.Native.Nat.{ℕ, ◌+◌, ◌-◌, ◌*◌, ◌%◌, ◌<◌, ◌≤◌}
use native.Mathlib.Omega.{arith}
use lib.ListN.{length, take, drop}
use lib.Seq.{sets}
use Rattle.std.specs.declared.option.Option.{Option}
use Rattle.std.specs.declared.option.Option.TheVariants.{Some, None}
use Rattle.terms.specs.Figures.{variables, pattern_records, value_records, table_bytes}
use Rattle.terms.specs.Term.{Term, var, size, shift, Closed}
use Rattle.terms.specs.Table.{encode}
use Rattle.terms.specs.Refusal.{OccursIn}
use Rattle.terms.proofs.Shift.{size_shift}
use Rattle.terms.proofs.Table.{encode_length}
use Rattle.terms.proofs.Locals.{closed_more}
use Rattle.matching.specs.Goals.{Goal, Goal.match, Goal.build, Meets, All, Listable, Sweeps}
use Rattle.matching.specs.Repeated.{spine, firsts, seconds, enclose}
use Rattle.matching.proofs.Targets.{closed_shift}
use Rattle.matching.proofs.Repeated.{length_firsts, size_spine, suits_spine, size_join, size_enclose}
use Rattle.matching.proofs.Repeated.{join_closed, enclose_normal, enclose_closed, enclose_ground, goals_forced, goals_none}
use Rattle.records.specs.Parts.{slice, Part, Whole}
use Rattle.records.proofs.Parts.{part_one, whole}
use Rattle.records.proofs.Slices.{part_slice}
use Rattle.heights.specs.Heights.{heights}
use Rattle.assignments.specs.declared.Entry.{Entry}
use Rattle.copying.proofs.Stores.{stored}
use Rattle.sweeping.proofs.Contraction.{closed_fits, table_length}
use Rattle.agenda.specs.declared.Agenda.{Agenda}
use Rattle.agenda.specs.declared.StoredGoal.{StoredGoal}
use Rattle.agenda.specs.declared.Decision.TheVariants as decision
use Rattle.joins.specs.declared.pairs.Pairs.{Pairs}
use Rattle.ordering.specs.declared.repeated.Occurrences.{Occurrences}
use Rattle.agenda.specs.Stored.{stored_bytes, StoredAt, StoredFits, stored_match}
use Rattle.agenda.specs.State.{target_start, goal_bytes, height_bytes, relinking, pattern_at, origin_at, target_at, next_at, IsMatch}
use Rattle.agenda.specs.State.{WrittenTarget, Target, Easy, Deferred, Node, Chain, weight, weights, Ready}
use Rattle.agenda.specs.Moves.{Decided}
use Rattle.ordering.specs.Ordering.{Reaches, Reaches.here, Reaches.further, Drops, Dropped}
use Rattle.joins.specs.Pairs.{pairs_of, Repeated, Repeats}
use Rattle.joins.specs.Joins.{Joins, Joint, Joined, Encloses, Enclosed}
use Rattle.ordering.specs.Repeated.{GoalsListed, Later, Twice, RepeatedFound}
use Rattle.agenda.proofs.Frame.{Kept, part_kept, byte_kept, word_kept, next_kept, chain_kept, holds_kept, kept_sets, kept_then}
use Rattle.agenda.proofs.Frame.{target_kept, length_stored, goal_stored, chain_match}
use Rattle.agenda.proofs.Targets.{NewTarget, written_target, new_target}
use Rattle.ordering.proofs.Ordering.{front_goal, reaches_some, reaches_kept, few_goals, weight_least}
use Rattle.joins.proofs.Joins.{count_length, joined_ends, joined_joint, joined_no}

-- the steps of a walk over a list
module _ {P W : List ℕ} {at : ℕ} {r : StoredGoal} (x : GoalsListed P W at) (s : ¬ (at ≡ 0)) (y : StoredAt W at r) where
  pub listed_falls : r.next < at
  listed_falls = omega (arith, (front_goal Deferred P W x.top at x.goals x.chain (omega (arith, s))).node.falls, y.next)

  pub listed_next : GoalsListed P W r.next
  listed_next =
      let f = front_goal Deferred P W x.top at x.goals x.chain (omega (arith, s)) in
      record {
        top = x.top;
        goals = f.rest;
        chain = rw y.next f.chain;
        within = omega (arith, listed_falls, x.within);
        below = x.below;
        most = x.most;
        short = x.short;
      }

  pub listed_part : r.argument ≡ 0 → Whole P r.part
  listed_part k =
      let f = front_goal Deferred P W x.top at x.goals x.chain (omega (arith, s)) in
      go f.goal f.node
    where
      go : (g : Goal) → Node Deferred P W x.top at g → Whole P r.part
      go (match p t) n = rw y.part (whole P _ p n.goal.part)
      go (build f t e) n = absurd (n.goal.kind (sym y.argument ∙ k))

module _ (P W : List ℕ) (at : ℕ) where
  pub finds_nothing : RepeatedFound P W at None
  unfolding RepeatedFound
  finds_nothing = tt

  pub later_nothing : (i x : ℕ) → Later P W at i x None
  unfolding Later
  later_nothing i x = tt

  module _ (r : StoredGoal) (s : ¬ (at ≡ 0)) (y : StoredAt W at r) where
    some_goal : 0 < at
    some_goal = omega (arith, s)

    pub later_here : (i x : ℕ) (o : Option Pairs) (q : Pairs) → r.argument ≡ 0 → o ≡ Some q → Repeats P x r.part o
        → Later P W at i x (Some (record { first = i; second = at; pairs = q }))
    unfolding Later Repeats
    later_here i x o q k e z =
        let w : Repeats P x r.part (Some q) = subst (Repeats P x r.part) e z in
        record {
          first = refl;
          reaches = here some_goal refl;
          kind = sym y.argument ∙ k;
          repeated = subst (λ (j : ℕ). Repeated P x j q) y.part w;
        }

    pub later_further : (i x : ℕ) (o : Option Occurrences) → Later P W r.next i x o → Later P W at i x o
    unfolding Later
    later_further i x (Some q) z =
        record { first = z.first; reaches = further some_goal (rw y.next at z.reaches); kind = z.kind; repeated = z.repeated }
    later_further i x None z = tt

    pub finds_here : (o : Option Occurrences) (q : Occurrences) → r.argument ≡ 0 → o ≡ Some q → Later P W r.next at r.part o
        → RepeatedFound P W at (Some q)
    unfolding Later RepeatedFound
    finds_here o q k e z =
        let w : Later P W r.next at r.part (Some q) = subst (Later P W r.next at r.part) e z in
        let f : at ≡ q.first = sym w.first in
        record {
          reaches = here some_goal f;
          later = subst (λ (j : ℕ). Reaches W (next_at W j) q.second) f (rw y.next at w.reaches);
          first_kind = subst (IsMatch W) f (sym y.argument ∙ k);
          second_kind = w.kind;
          repeated = subst (λ (j : ℕ). Repeated P (pattern_at W j) (pattern_at W q.second) q.pairs) f
              (subst (λ (j : ℕ). Repeated P j (pattern_at W q.second) q.pairs) y.part w.repeated);
        }

    pub finds_further : (o : Option Occurrences) → RepeatedFound P W r.next o → RepeatedFound P W at o
    unfolding RepeatedFound
    finds_further (Some q) z = record {
      reaches = further some_goal (rw y.next at z.reaches);
      later = z.later;
      first_kind = z.first_kind;
      second_kind = z.second_kind;
      repeated = z.repeated;
    }
    finds_further None z = tt

pub found_twice : (P W : List ℕ) (at : ℕ) (o : Option Occurrences) (r : Occurrences) → o ≡ Some r → RepeatedFound P W at o → Twice P W at r
unfolding RepeatedFound
found_twice P W at o r e x = let y : RepeatedFound P W at (Some r) = subst (RepeatedFound P W at) e x in y

-- a goal of a list
record Among (P W : List ℕ) (top i : ℕ) (gs : List Goal) : Type 0 where
  goal : Goal
  rest : List Goal
  node : Node Deferred P W top i goal
  chain : Chain Deferred P W top (next_at W i) rest
  weighs : weight goal + weights 0 rest ≤ weights 0 gs
  meets : (φ : ℕ → Term) → All gs φ → Meets goal φ × All rest φ

among : (P W : List ℕ) (top at i : ℕ) (gs : List Goal) → Chain Deferred P W top at gs → Reaches W at i → Among P W top i gs
among P W top at i [] c (here h e) = absurd (omega (arith, c))
among P W top at i [] c (further h r) = absurd (omega (arith, c))
among P W top at i (g ∷ gs) c (here h e) = record {
  goal = g;
  rest = gs;
  node = subst (λ (j : ℕ). Node Deferred P W top j g) e c.0;
  chain = subst (λ (j : ℕ). Chain Deferred P W top (next_at W j) gs) e c.1;
  weighs = omega arith;
  meets = λ φ m. m;
}
among P W top at i (g ∷ gs) c (further h r) =
    let a = among P W top (next_at W at) i gs c.1 r in
    record {
      goal = a.goal;
      rest = a.rest;
      node = a.node;
      chain = a.chain;
      weighs = omega (arith, a.weighs);
      meets = λ φ m. a.meets φ m.1;
    }

-- what is known of a goal, in every work area with the same bytes below `top`
record GoalKnown (P W : List ℕ) (top i : ℕ) (p t : Term) : Type 0 where
  room : i + goal_bytes ≤ top
  kind : IsMatch W i
  part : (f : Term) → Part P (pattern_at W i) f → f ≡ p
  stands : Part P (pattern_at W i) p
  target : Target W top (size p) (origin_at W i) (target_at W i) t
  suits : Listable variables (OccursIn P) (match p t)

known :
    (P W : List ℕ) (top i : ℕ) (p : Term) (g : Goal) → Node Deferred P W top i g → IsMatch W i
    → ((f : Term) → Part P (pattern_at W i) f → f ≡ p)
    → (t : Term) × GoalKnown P W top i p t
known P W top i p (match f t) n k h =
    let e = h f n.goal.part in (
      t,
      record {
        room = n.room;
        kind = k;
        part = h;
        stands = subst (Part P (pattern_at W i)) e n.goal.part;
        target = subst (λ (f : Term). Target W top (size f) (origin_at W i) (target_at W i) t) e n.goal.target;
        suits = subst (λ (f : Term). Listable variables (OccursIn P) (match f t)) e n.goal.suits;
      },
    )
known P W top i p (build f t e) n k h = absurd (n.goal.kind k)

goal_is : (P W X : List ℕ) (top higher i : ℕ) (p t : Term) (g : Goal) → GoalKnown P W top i p t → Kept W X top
    → Node Deferred P X higher i g → g ≡ match p t
goal_is P W X top higher i p t (match f u) k x n =
    let e : f ≡ p = k.part f (subst (λ (j : ℕ). Part P (4 * j) f) (byte_kept W X top x i (omega (arith, k.room))) n.goal.part) in
    let y : Part X (target_at W i) u =
    subst₂ (λ (a b : ℕ). Part X (4 * a + 4 * b) u) (word_kept W X top x (i + 2) (omega (arith, k.room)))
    (byte_kept W X top x (i + 1) (omega (arith, k.room))) n.goal.target.part in
    ap₂ match e (part_one X (target_at W i) u t y (part_kept W X top x (target_at W i) t k.target.below k.target.part))
goal_is P W X top higher i p t (build f u e) k x n =
    absurd (n.goal.kind (ap (4 *◌) (word_kept W X top x (i + 6) (omega (arith, k.room))) ∙ k.kind))

meets_is : (g : Goal) (p t : Term) (φ : ℕ → Term) → g ≡ match p t → Meets g φ → Sweeps p t φ
meets_is g p t φ e m = subst (λ (h : Goal). Meets h φ) e m

is_meets : (g : Goal) (p t : Term) (φ : ℕ → Term) → g ≡ match p t → Sweeps p t φ → Meets g φ
is_meets g p t φ e m = subst (λ (h : Goal). Meets h φ) (sym e) m

-- the two goals
abbrev first_part : List ℕ → Pairs → ℕ → Term
first_part P q n = spine (var n) (firsts (pairs_of P q))

abbrev second_part : List ℕ → Pairs → ℕ → Term
second_part P q n = spine (var n) (seconds (pairs_of P q))

-- where their value is written, and the goal that takes their place
abbrev value_goal : Agenda → Pairs → StoredGoal
value_goal s q = stored_match q.first (target_start s) (target_start s) s.easy

record Meant (P W : List ℕ) (s : Agenda) (r : Occurrences) (n : ℕ) : Type 0 where
  t : Term
  u : Term
  first : GoalKnown P W s.top r.first (first_part P r.pairs n) t
  second : GoalKnown P W s.top r.second (second_part P r.pairs n) u

no_easy : (P W : List ℕ) (top at : ℕ) (gs : List Goal) → at ≡ 0 → Chain Easy P W top at gs → gs ≡ []
no_easy P W top at [] e c = refl
no_easy P W top at (g ∷ gs) e c = absurd (omega (arith, c.0.low))

kept_same : (W : List ℕ) (top : ℕ) → top ≤ length W → Kept W W top
kept_same W top h = record { same = refl; from = h; to = h }

module _ {P W : List ℕ} {s : Agenda} {a : List Entry} (x : Ready 0 P W s a) where
  pub ready_listed : GoalsListed P W s.deferred
  ready_listed =
      let b = x.bounds in
      record {
        top = s.top;
        goals = x.hs;
        chain = x.state.deferred;
        within = omega (arith, b.deferred_room, b.top, b.whole);
        below = omega (arith, b.top, b.whole);
        most = omega (arith, b.whole);
        short = b.short;
      }

  pub forced_open : Decided 0 P W s a W decision.Open
  unfolding Decided
  forced_open = refl

  module _ {r : Occurrences} (y : Twice P W s.deferred r) where
    -- the two goals, of any list of goals that stands there
    one_among : (hs : List Goal) → Chain Deferred P W s.top s.deferred hs → Among P W s.top r.first hs
    one_among hs c = among P W s.top s.deferred r.first hs c y.reaches

    two_among : (hs : List Goal) (c : Chain Deferred P W s.top s.deferred hs) → Among P W s.top r.second (one_among hs c).rest
    two_among hs c = among P W s.top (next_at W r.first) r.second (one_among hs c).rest (one_among hs c).chain y.later

    meant : Meant P W s r y.repeated.number
    meant =
        let i = one_among x.hs x.state.deferred in
        let j = two_among x.hs x.state.deferred in
        let f = known P W s.top r.first (first_part P r.pairs y.repeated.number) i.goal i.node y.first_kind
        y.repeated.first in
        let g = known P W s.top r.second (second_part P r.pairs y.repeated.number) j.goal j.node y.second_kind
        y.repeated.second in
        record { t = f.0; u = g.0; first = f.1; second = g.1 }

    pub first_room : r.first + goal_bytes ≤ length W
    first_room = omega (arith, meant.first.room, x.bounds.top, x.bounds.whole)

    pub second_room : r.second + goal_bytes ≤ length W
    second_room = omega (arith, meant.second.room, x.bounds.top, x.bounds.whole)

    -- each has 3,000 bytes at least
    room_left : s.top + 6000 ≤ table_bytes
    room_left =
        let i = one_among x.hs x.state.deferred in
        let j = two_among x.hs x.state.deferred in
        omega (
          arith,
          i.weighs,
          j.weighs,
          weight_least P W s.top r.first i.goal i.node,
          weight_least P W s.top r.second j.goal j.node,
          x.state.room,
        )

    part_size : size (first_part P r.pairs y.repeated.number) ≡ 1 + 2 * r.pairs.count
    part_size = omega (
      arith,
      size_spine (var y.repeated.number) (firsts (pairs_of P r.pairs)),
      length_firsts (pairs_of P r.pairs),
      count_length P r.pairs,
    )

    first_even : r.pairs.first % 4 ≡ 0
    first_even = omega (arith, y.repeated.first_ends.exact (first_part P r.pairs y.repeated.number) meant.first.stands)

    -- their targets begin in the work area
    pub first_target : {one : StoredGoal} → StoredAt W r.first one → one.target ≤ length W
    first_target i = omega (arith, i.target, meant.first.target.part.within)

    pub second_target : {two : StoredGoal} → StoredAt W r.second two → two.target ≤ length W
    second_target j = omega (arith, j.target, meant.second.target.part.within)

    module _ {one two : StoredGoal} (i : StoredAt W r.first one) (j : StoredAt W r.second two) where
      target_part : Part (slice W one.target) 0 meant.t
      target_part = rw i.target (part_slice W (target_at W r.first) meant.t meant.first.target.part)

      other_part : Part (slice W two.target) 0 meant.u
      other_part = rw j.target (part_slice W (target_at W r.second) meant.u meant.second.target.part)

      pub forced_joins : {room : ℕ} → room ≡ 4 * value_records
          → Joins P r.pairs (slice W one.target) (slice W two.target) 0 room 0
      forced_joins e =
          let t = meant.first.target in
          let n = r.pairs.count in
          let m = pattern_records - size (first_part P r.pairs y.repeated.number) in
          record {
            reads = record { first = y.repeated.first_ends.within; second = y.repeated.second_ends.within; short = x.bounds.short };
            tree = meant.t;
            part = target_part;
            other = whole (slice W two.target) 0 meant.u other_part;
            fits =
                closed_fits (m + n) (shift n 0 meant.t) (closed_shift n 0 m (m + n) meant.t refl t.closed)
                (omega (arith, t.short, t.few, part_size, size_shift n 0 meant.t));
            enough = omega (arith, t.short);
            shallow = omega (arith, t.short);
            least = omega (arith, target_part.some, target_part.within);
            other_least = omega (arith, other_part.some, other_part.within);
            first = omega arith;
            few = omega arith;
            most = omega arith;
          }

      module _ {out after : List ℕ} {w : Option ℕ}
          (z : Joined P r.pairs (slice W one.target) (slice W two.target) 0 out 0 after w) where
        -- no value comes to both targets
        pub forced_failed : w ≡ None → Decided 0 P W s a W decision.Failed
        unfolding Decided
        forced_failed e = record {
          none = λ gs hs l st φ v m.
              let f = one_among hs st.deferred in
              let g = two_among hs st.deferred in
              let k = kept_same W s.top (omega (arith, x.bounds.top, x.bounds.whole)) in
              let b = f.meets φ m.1 in
              let c = g.meets φ b.1 in
              goals_none (pairs_of P r.pairs) y.repeated.apart y.repeated.number meant.t meant.u φ
              (v y.repeated.number).1 []
              (joined_no e z meant.t meant.u target_part other_part) (
                meets_is f.goal _ meant.t φ
                    (goal_is P W W s.top s.top r.first _ meant.t f.goal meant.first k f.node) b.0,
                (
                  meets_is g.goal _ meant.u φ
                      (goal_is P W W s.top s.top r.second _ meant.u g.goal meant.second k g.node) c.0,
                  tt,
                ),
              );
          kept = refl;
        }

        module _ {n : ℕ} (e : w ≡ Some n) where
          target_size : n ≡ 4 * size meant.t
          target_size = omega (arith, (joined_ends e z).exact meant.t target_part)

          pub forced_target_within : n ≤ 4 * value_records
          forced_target_within = omega (arith, target_size, meant.first.target.short)

          joint : Joint P r.pairs 0 meant.t meant.u out 0 after
          joint = joined_joint e z meant.t meant.u target_part other_part

          body_size : size joint.body ≡ size meant.t
          body_size = (size_join (pairs_of P r.pairs) 0 meant.t meant.u joint.body joint.is).0

          module _ (l : length out ≡ 4 * value_records) where
            body_bytes : take (n - 0) (drop 0 after) ≡ encode joint.body
            body_bytes =
                stored out after (encode joint.body) n joint.bytes
                (omega (arith, encode_length joint.body, body_size, target_size)) (omega (arith, forced_target_within))

            pub forced_encloses : Encloses (take (n - 0) (drop 0 after)) r.pairs.count (length W) (target_start s)
            forced_encloses =
                let t = meant.first.target in
                let c = table_length (take (n - 0) (drop 0 after)) joint.body body_bytes in
                let m = pattern_records - size (first_part P r.pairs y.repeated.number) in
                record {
                  body = joint.body;
                  bytes = body_bytes;
                  least = omega (arith, target_part.some, body_size);
                  most = omega (arith, t.short, body_size, part_size);
                  depth = m;
                  shallow = omega (arith, t.few, part_size);
                  closed =
                      subst (λ (k : ℕ). Closed (m + k) joint.body) (count_length P r.pairs)
                      (join_closed (pairs_of P r.pairs) meant.t meant.u joint.body joint.is m t.closed);
                  enough = omega (arith, t.short, body_size, part_size, room_left, x.bounds.whole);
                }

            -- the value is written
            value : Term
            value = enclose (length (pairs_of P r.pairs)) joint.body

            value_closed : Closed (pattern_records - size (first_part P r.pairs y.repeated.number)) value
            unfolding value
            value_closed =
                enclose_closed (pairs_of P r.pairs) meant.t meant.u joint.body joint.is _ meant.first.target.closed

            value_size : size value + 2 ≤ value_records
            unfolding value
            value_size =
                omega (
                  arith,
                  size_enclose (length (pairs_of P r.pairs)) joint.body,
                  body_size,
                  count_length P r.pairs,
                  part_size,
                  meant.first.target.short,
                )

            module _ {X : List ℕ} {o : ℕ}
                (v : Enclosed (take (n - 0) (drop 0 after)) r.pairs.count W (target_start s) X o) where
              enclosed : Enclosed (take (n - 0) (drop 0 after)) (length (pairs_of P r.pairs)) W (target_start s) X o
              enclosed = subst (λ (k : ℕ). Enclosed (take (n - 0) (drop 0 after)) k W (target_start s) X o)
                  (sym (count_length P r.pairs)) v

              value_stored : X ≡ sets W (target_start s) (encode value)
              unfolding value
              value_stored = enclosed.bytes joint.body body_bytes

              value_end : o ≡ target_start s + 4 * size value
              unfolding value
              value_end = enclosed.end joint.body body_bytes

              value_room : target_start s + 4 * size value ≤ length W
              value_room = omega (arith, value_size, room_left, x.bounds.whole)

              value_few : size value ≤ value_records
              value_few = omega (arith, value_size)

              pub forced_target : WrittenTarget X (target_start s) o
              forced_target =
                  written_target W X X s.top value value_stored value_room value_few
                  (closed_more _ pattern_records value (omega arith) value_closed) o value_end

              -- and its heights
              module _ {H : List ℕ}
                  (beside : (u : Term) → Part X (target_start s) u → H ≡ sets X (target_start s - height_bytes) (heights u)) where
                value_made : NewTarget W H s.top value
                value_made = new_target W X H s.top value value_stored value_room value_few beside

                value_kept : Kept W H s.top
                value_kept = value_made.kept

                value_whole : length H ≡ table_bytes
                value_whole = value_made.same_length ∙ x.bounds.whole

                value_target : Target H o 1 (target_start s) (target_start s) value
                unfolding value
                value_target =
                    let t = meant.first.target in
                    record {
                      part = value_made.part;
                      below = omega (arith, value_end);
                      normal = enclose_normal (pairs_of P r.pairs) meant.t meant.u joint.body joint.is t.normal;
                      ground = enclose_ground (pairs_of P r.pairs) meant.t meant.u joint.body joint.is t.ground;
                      few = omega arith;
                      closed = closed_more _ (pattern_records - 1) value (omega (arith, part_size)) value_closed;
                      short = value_size;
                      heights = value_made.heights;
                    }

                -- and the first goal dropped
                chain_one : (hs : List Goal) → Chain Deferred P W s.top s.deferred hs → Chain Deferred P H o s.deferred hs
                chain_one hs c = chain_kept W H s.top value_kept o (omega (arith, value_end)) P Deferred s.deferred hs c

                reaches_one : Reaches H s.deferred r.first
                reaches_one =
                    reaches_kept W H s.top value_kept P Deferred s.deferred r.first x.hs x.state.deferred y.reaches

                later_one : Reaches H (next_at H r.first) r.second
                later_one =
                    subst (λ (k : ℕ). Reaches H k r.second) (sym (next_kept W H s.top value_kept r.first meant.first.room))
                    (reaches_kept W H s.top value_kept P Deferred (next_at W r.first) r.second
                    (one_among x.hs x.state.deferred).rest
                    (one_among x.hs x.state.deferred).chain y.later)

                few_deferred : goal_bytes * length x.hs ≤ relinking
                few_deferred = omega (arith, few_goals P W s.top s.deferred x.hs x.state.deferred, x.state.room)

                pub forced_drops : Drops H o s.deferred r.first
                forced_drops =
                    let f = front_goal Deferred P H o s.deferred x.hs (chain_one x.hs x.state.deferred)
                    (reaches_some H s.deferred r.first reaches_one) in
                    record {
                      pattern = P;
                      goals = x.hs;
                      chain = chain_one x.hs x.state.deferred;
                      reaches = reaches_one;
                      within = f.node.room;
                      falls = f.node.falls;
                      whole = value_whole;
                      room = omega (arith, value_end, value_size, few_deferred, room_left);
                      even = omega (arith, value_end, x.bounds.even);
                    }

                module _ {Y : List ℕ} {list m : ℕ} (d : Dropped H o s.deferred r.first Y list m) where
                  reaches_two : Reaches Y list r.second
                  reaches_two = d.later P x.hs (chain_one x.hs x.state.deferred) reaches_one r.second later_one

                  one_room : m ≤ o + relinking
                  one_room = omega (arith, (d.go P x.hs (chain_one x.hs x.state.deferred) reaches_one).3.few, few_deferred)

                  one_kept : Kept H Y o
                  one_kept = record {
                    same = d.kept;
                    from = omega (arith, value_whole, value_end, value_size, room_left);
                    to = omega (arith, d.whole, value_whole, value_end, value_size, room_left);
                  }

                  pub forced_drops_two : Drops Y m list r.second
                  forced_drops_two =
                      let b = d.go P x.hs (chain_one x.hs x.state.deferred) reaches_one in
                      let f = front_goal Deferred P Y m list b.1 b.3.chain (reaches_some Y list r.second reaches_two) in
                      record {
                        pattern = P;
                        goals = b.1;
                        chain = b.3.chain;
                        reaches = reaches_two;
                        within = f.node.room;
                        falls = f.node.falls;
                        whole = d.whole ∙ value_whole;
                        room = omega (
                          arith,
                          one_room,
                          value_end,
                          value_size,
                          few_goals P Y m list b.1 b.3.chain,
                          b.3.weighs,
                          weight_least P H o r.first b.0 b.2,
                          x.state.room,
                        );
                        even = d.even;
                      }

                  -- and the second, before the new goal
                  module _ {Z : List ℕ} {rest k : ℕ} (h : Dropped Y m list r.second Z rest k) where
                    two_room : k ≤ m + relinking
                    two_room =
                        let b = d.go P x.hs (chain_one x.hs x.state.deferred) reaches_one in
                        let c = h.go P b.1 b.3.chain reaches_two in
                        omega (arith, c.3.few, few_goals P Y m list b.1 b.3.chain, b.3.weighs, x.state.room)

                    pub forced_room : k + goal_bytes ≤ table_bytes
                    forced_room = omega (arith, two_room, one_room, value_end, value_size, room_left)

                    two_kept : Kept Y Z m
                    two_kept = record {
                      same = h.kept;
                      from = omega (arith, d.whole, value_whole, h.higher, forced_room);
                      to = omega (arith, h.whole, d.whole, value_whole, h.higher, forced_room);
                    }

                    pub forced_whole : length Z ≡ table_bytes
                    forced_whole = h.whole ∙ d.whole ∙ value_whole

                    module _ (none_easy : s.easy ≡ 0) {q : StoredGoal} (g : q ≡ value_goal s r.pairs) where
                      pub forced_fits : StoredFits q
                      forced_fits =
                          rw g (record {
                            part = omega (arith, y.repeated.first_ends.within, x.bounds.short);
                            origin = omega (arith, x.bounds.top);
                            from = omega arith;
                            near = omega arith;
                            next = omega (arith, none_easy);
                            argument = omega arith;
                          })

                      module _ {U : List ℕ} (b : U ≡ sets Z k (stored_bytes q)) where
                        bytes_stored : U ≡ sets Z k (stored_bytes (value_goal s r.pairs))
                        bytes_stored = b ∙ ap (λ (c : StoredGoal). sets Z k (stored_bytes c)) g

                        goal_kept : Kept Z U k
                        goal_kept = kept_sets (stored_bytes q) Z U k k b (omega arith) (omega (arith, forced_whole, forced_room))

                        from_value : Kept H U o
                        from_value = kept_then H Y U o m d.higher one_kept (kept_then Y Z U m k h.higher two_kept goal_kept)

                        all_kept : Kept W U s.top
                        all_kept = kept_then W H U s.top o (omega (arith, value_end)) value_kept from_value

                        goal_listable : Listable variables (OccursIn P) (match (var y.repeated.number) value)
                        goal_listable = (
                          suits_spine variables (OccursIn P) (var y.repeated.number) (firsts (pairs_of P r.pairs))
                              meant.first.suits.0,
                          value_target.normal,
                        )

                        goal_chain : Chain Easy P U (k + goal_bytes) k (match (var y.repeated.number) value ∷ [])
                        goal_chain =
                            let f = y.repeated.variable in
                            chain_match Easy P U (k + goal_bytes) k (value_goal s r.pairs)
                            (goal_stored Z U k (value_goal s r.pairs) bytes_stored (omega (arith, forced_whole, forced_room)) first_even
                            (omega (arith, x.bounds.even)) (omega arith) (omega (arith, x.bounds.even)) x.bounds.easy_even
                            (omega arith))
                            (omega (arith, x.bounds.start, value_end, d.higher, h.higher)) (omega arith) h.even
                            (omega (arith, none_easy, x.bounds.start, value_end, d.higher, h.higher))
                            (var y.repeated.number) value [] refl tt f
                            (target_kept H U o from_value (k + goal_bytes) (omega (arith, d.higher, h.higher)) 1 _ _ value value_target)
                            goal_listable none_easy

                        pub forced_next : Decided 0 P W s a U (decision.Next (record { top = k + goal_bytes; easy = k; deferred = rest }))
                        unfolding Decided value
                        forced_next = record {
                          go = λ gs hs l st.
                              let b₁ = d.go P hs (chain_one hs st.deferred) reaches_one in
                              let b₂ = h.go P b₁.1 b₁.3.chain reaches_two in
                              let g₁ = goal_is P W H s.top o r.first _ meant.t b₁.0 meant.first value_kept b₁.2 in
                              let g₂ = goal_is P W Y s.top m r.second _ meant.u b₂.0 meant.second
                              (kept_then W H Y s.top o (omega (arith, value_end)) value_kept one_kept) b₂.2 in
                              let none = no_easy P W s.top s.easy gs none_easy st.easy in
                              record {
                                gs = match (var y.repeated.number) value ∷ [];
                                hs = b₂.1;
                                line = l;
                                state = record {
                                  easy = goal_chain;
                                  deferred =
                                      chain_kept Z U k goal_kept (k + goal_bytes) (omega arith) P Deferred rest b₂.1 b₂.3.chain;
                                  entries = holds_kept W U s.top all_kept (k + goal_bytes)
                                      (omega (arith, value_end, d.higher, h.higher)) a l st.entries;
                                  line = st.line;
                                  assigns = st.assigns;
                                  room = omega (
                                    arith,
                                    st.room,
                                    two_room,
                                    one_room,
                                    value_end,
                                    value_size,
                                    b₁.3.weighs,
                                    b₂.3.weighs,
                                    weight_least P H o r.first b₁.0 b₁.2,
                                    weight_least P Y m r.second b₂.0 b₂.2,
                                  );
                                };
                                same = λ φ v'.
                                    let w₁ = b₁.3.same φ in
                                    let w₂ = b₂.3.same φ in
                                    let f =
                                    goals_forced (pairs_of P r.pairs) y.repeated.apart y.repeated.number meant.t meant.u φ
                                    (v' y.repeated.number).1 joint.body [] joint.is meant.first.target.normal in (
                                      λ c.
                                          let c₁ = w₁.0 c.1 in
                                          let c₂ = w₂.0 c₁.1 in (
                                            f.0 (
                                              meets_is b₁.0 _ meant.t φ g₁ c₁.0,
                                              (meets_is b₂.0 _ meant.u φ g₂ c₂.0, tt),
                                            ),
                                            c₂.1,
                                            c.2,
                                          ),
                                      λ c.
                                          let c₁ = f.1 c.0 in (
                                            subst (λ (i : List Goal). All i φ) (sym none) tt,
                                            w₁.1 (
                                              is_meets b₁.0 _ meant.t φ g₁ c₁.0,
                                              w₂.1 (is_meets b₂.0 _ meant.u φ g₂ c₁.1.0, c.1),
                                            ),
                                            c.2,
                                          ),
                                    );
                              };
                          kept = all_kept.same;
                          higher = omega (arith, value_end, d.higher, h.higher);
                          falls = omega (arith, value_end, d.higher, h.higher, forced_room, none_easy);
                          bounds = record {
                            whole = length_stored (stored_bytes q) Z U k b ∙ forced_whole;
                            short = x.bounds.short;
                            top = forced_room;
                            start = omega arith;
                            even = omega (arith, h.even);
                            easy_room = omega arith;
                            easy_even = h.even;
                            deferred_room = omega (arith, h.below);
                            deferred_even = h.list_even;
                          };
                        }
