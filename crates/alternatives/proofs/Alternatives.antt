-- The ways of an application that was deferred, but for an argument that is found: what each writes at the top is the goals that it leaves,
-- and the goals that are kept stand where they stood. A goal's weight covers what is written, since the parts of the application weigh less
-- than it does. Assumes nothing.
use mathlib.Core.Path.{◌≡◌, refl, sym, ap, ◌∙◌, subst}
use mathlib.Core.Bool.{Bool, true}
use mathlib.Core.List.{List, ◌∷◌}
use Prim.Native.Nat.{ℕ, ◌+◌, ◌-◌, ◌*◌, ◌/◌, ◌≤◌}
use native.Mathlib.Omega.{arith}
use lib.ListN.{length, get_or, take, drop, replicate, length-take}
use lib.Seq.{sets}
use Rattle.std.specs.declared.option.Option.{Option}
use Rattle.std.specs.declared.option.Option.TheVariants.{Some, None}
use Rattle.terms.specs.Figures.{variables, pattern_records, value_records, table_bytes}
use Rattle.terms.specs.Term.{Term, app, size, shift, Closed}
use Rattle.terms.specs.Table.{encode}
use Rattle.terms.specs.Listing.{Line}
use Rattle.terms.specs.Refusal.{OccursIn}
use Rattle.terms.specs.Heads.{rigid}
use Rattle.terms.proofs.Table.{encode_length}
use Rattle.terms.proofs.Shift.{size_shift}
use Rattle.terms.proofs.Locals.{closed_more}
use Rattle.matching.specs.Goals.{Goal, Goal.match}
use Rattle.matching.specs.Alternatives.{constant}
use Rattle.matching.proofs.Partial.{total_of}
use Rattle.matching.proofs.Alternatives.{alternative_parts, alternative_no_parts, listable_parts, listable_constant}
use Rattle.matching.proofs.Cuts.{no_local, constant_local}
use Rattle.matching.proofs.Step.{constant_normal}
use Rattle.matching.proofs.Targets.{closed_shift, constant_closed, constant_ground}
use Rattle.records.specs.Parts.{slice, Part, Whole, Ends}
use Rattle.records.proofs.Slices.{part_slice, slice_length}
use Rattle.records.proofs.Parts.{application, application_parts, kind_at, whole}
use Rattle.substitution.specs.Writers.{Source, Wrote}
use Rattle.substitution.proofs.Writers.{source, slice_wrote}
use Rattle.sweeping.proofs.Contraction.{closed_fits}
use Rattle.copying.proofs.Stores as Stores
use Rattle.assignments.specs.declared.Entry.{Entry}
use Rattle.shifting.proofs.Tests.{rigid_at}
use Rattle.agenda.specs.declared.Agenda.{Agenda}
use Rattle.agenda.specs.declared.StoredGoal.{StoredGoal}
use Rattle.agenda.specs.declared.Skeleton.{Skeleton}
use Rattle.agenda.specs.declared.Ways.{Ways}
use Rattle.agenda.specs.Stored.{stored_bytes, StoredAt, StoredFits, stored_match}
use Rattle.agenda.specs.State.{goal_bytes, target_bytes, HeightsBeside, Target, State, Bounds, Easy, Deferred, Chain, relinking}
use Rattle.agenda.specs.Moves.{Move, Moved, Failed, Branched}
use Rattle.abstractions.proofs.Depths.{depths_at, depth_written}
use Rattle.abstractions.specs.Occurrences.{DepthSource, WroteDepths}
use Rattle.arguments.specs.Ways.{Way, HasWays, HasDepths, HeadLacks, Fitting}
use Rattle.deciding.specs.Refuting.{SkeletonSource, PartSkeleton}
use Rattle.builds.specs.Builds.{Pushes, StoredPushed, after_stored, target_end}
use Rattle.builds.proofs.Pushing.{pushed_state, pushed_falls, pushed_bounds}
use Rattle.arguments.specs.Applications.{ApplicationDeferred, WaysCounted}
use Rattle.agenda.specs.Locals.{Locals, Lacks}
use Rattle.agenda.proofs.Lacking.{all_marks_at, locals_at, lacks_at}
use Rattle.agenda.proofs.Frame.{Kept, target_kept, chain_kept, holds_kept, kept_sets, kept_then, length_stored, goal_stored, chain_match}
use Rattle.agenda.proofs.Targets.{beside_head, beside_argument}
use Rattle.deciding.proofs.Refutations.{line_values_lem, extended_values, source_at, skeleton_at}
use Rattle.arguments.proofs.Applications.{argument_from, ApplicationSite, StoredBounds, MatchState, application_site, application_opened}
use Rattle.arguments.proofs.Applications.{from_application, fits_match}
use Rattle.arguments.proofs.Applications.{stored_bounds, argument_whole_slice, way_failed, branch_next, branch_failed, stored_as}

-- what is known before the ways are gone through
module _ (P W : List ℕ) (s : Agenda) (a : List Entry) (x : ApplicationDeferred P W s a) (r : StoredGoal) (y : StoredAt W s.deferred r)
  where
    pub argument_walkable : (h : ℕ) → Ends P (r.part + 4) h → Whole (slice P h) 0 × (pattern_records + length (slice P h) ≤ table_bytes)
    argument_walkable h e = (argument_whole_slice P W s a x r y h e, omega (arith, slice_length P h, x.ready.bounds.short))

    pub argument_source : (h : ℕ) → Ends P (r.part + 4) h → SkeletonSource (slice P h) W a
    argument_source h e = from_application P W s a x (SkeletonSource (slice P h) W a) (λ gs hs l f b t z.
        let v = application_site P W s a r gs hs l f b t y z in
        source_at P h W a b (argument_from P r.part h f b e v.part) x.ready.bounds.short v.suits.0.0.1 (total_of l)
        (line_values_lem P W s a l x.ready.bounds z.entries b))

    pub head_locals : Locals (slice P (r.part + 4)) (slice W r.target)
    head_locals = from_application P W s a x (Locals (slice P (r.part + 4)) (slice W r.target)) (λ gs hs l f b t z.
        let v = (application_site P W s a r gs hs l f b t y z).target in
        locals_at P (r.part + 4) W r.target (stored_bounds P W s a x r y).head x.ready.bounds.short
        (all_marks_at W r.target (pattern_records - size (app f b)) t v.part (omega arith) v.closed (omega (arith, v.short))))

    pub ways_counted :
        (h g : ℕ) (c d : Bool) (m : List ℕ) (o : ℕ) (i : Skeleton) → Ends W r.target h → Ends P (r.part + 4) g
        → ((t : Term) → Part (slice P g) 0 t → c ≡ rigid t) → PartSkeleton (slice P g) W a i.bytes i.length
        → Lacks (slice P (r.part + 4)) (slice W r.target) d → WroteDepths (slice W r.target) 0 (replicate value_records 0) 0 m o
        → WaysCounted P W s a (record { count = (h - r.target) / 4 + 2; argument = g; rigid = c; skeleton = i; lacking = d; depths = m })
    ways_counted h g c d m o i e j k p n u = record {
      ways = λ gs hs l z. application_opened P W s a x gs l (HasWays ((h - r.target) / 4 + 2))
          (λ f b t us o. omega (arith, e.exact t (application_site P W s a r gs us l f b t y o).target.part)) hs z;
      argument = subst (λ (i : ℕ). Ends P (i + 4) g) y.part j;
      rigid_argument = rigid_at P g c k;
      depths_are = λ gs hs l z. application_opened P W s a x gs l (HasDepths m)
          (λ f b t us v i q. depth_written W r.target _ m o u i t (application_site P W s a r gs us l f b t y v).target.part q) hs z;
      skeleton_table = p.table;
      skeleton_fits = λ gs hs l z. application_opened P W s a x gs l (Fitting p.table.tree l) (λ f b t us v φ w q.
          skeleton_at P g W a i.bytes i.length p b (argument_from P r.part g f b j
          (application_site P W s a r gs us l f b t y v).part) φ w
          (extended_values P W s a l x.ready.bounds v.entries b φ q)) hs z;
      lacking_head = λ i gs hs l z.
          let q = lacks_at P (r.part + 4) W r.target d i n in
          application_opened P W s a x gs l HeadLacks (λ f b t us o.
          let v = application_site P W s a r gs us l f b t y o in
          let q' = q.1 f t (application_parts P r.part f b v.part).0 v.target.part in
          (q.0, q'.0, q'.1)) hs z;
    }

    pub depths_room : DepthSource (slice W r.target) 0 value_records 0
    depths_room = from_application P W s a x (DepthSource (slice W r.target) 0 value_records 0) (λ gs hs l f b t z.
        let v = (application_site P W s a r gs hs l f b t y z).target in
        depths_at W r.target 0 value_records 0 t v.part (omega (arith, v.short)) (omega (arith, v.short)))

    -- the fields of the goals for the target's own parts fit
    module _ (k : get_or W r.target 0 ≡ 0) (i : StoredGoal) where
      pub argument_goal_fits : (h e : ℕ) → Ends P (r.part + 4) h → Ends W (r.target + 4) e → i ≡ stored_match h r.origin e s.easy
          → StoredFits i
      argument_goal_fits h e eh ee q = from_application P W s a x (StoredFits i) (λ gs hs l f b t z.
          let g = (application_site P W s a r gs hs l f b t y z).target in
          let o = application W r.target t g.part k in
          let n = ee.exact o.f o.head in
          let bounds = x.ready.bounds in
          fits_match i h r.origin e s.easy q (omega (arith, eh.within, bounds.short))
          (omega (arith, g.heights.from, g.below, bounds.top)) (omega (arith, g.heights.from))
          (omega (arith, g.heights.within, ap size o.is, o.argument.some)) (omega (arith, bounds.easy_room, bounds.top)))

      pub head_goal_fits : i ≡ stored_match (r.part + 4) r.origin (r.target + 4) s.top → StoredFits i
      head_goal_fits q = from_application P W s a x (StoredFits i) (λ gs hs l f b t z.
          let g = (application_site P W s a r gs hs l f b t y z).target in
          let o = application W r.target t g.part k in
          let n = stored_bounds P W s a x r y in
          let bounds = x.ready.bounds in
          fits_match i (r.part + 4) r.origin (r.target + 4) s.top q (omega (arith, n.part_low, bounds.short))
          (omega (arith, g.heights.from, g.below, bounds.top)) (omega (arith, g.heights.from))
          (omega (arith, g.heights.within, ap size o.is, o.head.some)) (omega (arith, bounds.top)))

    pub no_parts : ¬ (get_or W r.target 0 ≡ 0) → Failed relinking P W s a (Way 0) W
    no_parts k = way_failed P W s a x r y 0 W refl (λ f b t gs hs l φ v w p.
        alternative_no_parts φ f b t (λ q. k (kind_at W r.target t v.target.part ∙ q)) p.1.0)

-- the goals that the target's own parts leave
module _ (P W : List ℕ) (s : Agenda) (a : List Entry) (r : StoredGoal) (h e : ℕ) (Y X : List ℕ) (bounds : Bounds P W s)
    (eh : Ends P (r.part + 4) h) (ee : Ends W (r.target + 4) e)
    (y : StoredAt W s.deferred r) (n : StoredBounds P W s r)
    (first : Y ≡ sets W s.top (stored_bytes (stored_match h r.origin e s.easy)))
    (second : X ≡ sets Y (s.top + goal_bytes) (stored_bytes (stored_match (r.part + 4) r.origin (r.target + 4) s.top)))
  where
    abbrev goal_of_argument : StoredGoal
    goal_of_argument = stored_match h r.origin e s.easy

    abbrev head_goal : StoredGoal
    head_goal = stored_match (r.part + 4) r.origin (r.target + 4) s.top

    length_Y : length Y ≡ table_bytes
    length_Y = length_stored (stored_bytes goal_of_argument) W Y s.top first ∙ bounds.whole

    length_X : length X ≡ table_bytes
    length_X = length_stored (stored_bytes head_goal) Y X (s.top + goal_bytes) second ∙ length_Y

    kept_first : Kept W Y s.top
    kept_first = kept_sets (stored_bytes goal_of_argument) W Y s.top s.top first (omega arith) (omega (arith, bounds.whole, bounds.top))

    kept_second : Kept Y X (s.top + goal_bytes)
    kept_second = kept_sets (stored_bytes head_goal) Y X (s.top + goal_bytes) (s.top + goal_bytes) second (omega arith)
        (omega (arith, length_Y, n.room))

    kept_all : Kept W X s.top
    kept_all = kept_then W Y X s.top (s.top + goal_bytes) (omega arith) kept_first kept_second

    abbrev after : Agenda
    after = record { top = s.top + 2 * goal_bytes; easy = s.top + goal_bytes; deferred = r.next }

    parts_state :
        (gs hs : List Goal) (l : Line) (f b t u : Term) → ApplicationSite P W s r f b (app t u) → MatchState P W s a gs l f b (app t u) hs
        → State 0 P X after a (match f t ∷ match b u ∷ gs) hs l
    parts_state gs hs l f b t u v z =
        let g = v.target in
        let c = application_parts P r.part f b v.part in
        let d = application_parts W r.target t u g.part in
        let nh : h ≡ r.part + 4 + 4 * size f = eh.exact f c.0 in
        let ne : e ≡ r.target + 4 + 4 * size t = ee.exact t d.0 in
        let o = listable_parts variables (OccursIn P) f b t u v.suits in
        let head : Target W s.top (size f) r.origin (r.target + 4) t = record {
          part = d.0;
          below = omega (arith, g.below);
          normal = g.normal.1;
          ground = g.ground.0;
          few = omega (arith, g.few);
          closed = closed_more (pattern_records - size (app f b)) (pattern_records - size f) t (omega arith) g.closed.0;
          short = omega (arith, g.short);
          heights = beside_head W r.origin r.target (app t u) g.heights t u refl;
        } in
        let argument : Target W s.top (size b) r.origin e u = record {
          part = argument_from W r.target e t u ee g.part;
          below = omega (arith, g.below);
          normal = g.normal.2;
          ground = g.ground.1;
          few = omega (arith, g.few);
          closed = closed_more (pattern_records - size (app f b)) (pattern_records - size b) u (omega arith) g.closed.1;
          short = omega (arith, g.short);
          heights = subst (λ (i : ℕ). HeightsBeside W r.origin i u) (sym ne)
              (beside_argument W r.origin r.target (app t u) g.heights t u refl);
        } in
        let one : StoredAt Y s.top goal_of_argument =
        goal_stored W Y s.top goal_of_argument first (omega (arith, bounds.whole, n.room)) (omega (arith, v.part_even))
        v.origin_even (omega (arith, g.heights.from)) (omega (arith, v.target_even)) bounds.easy_even refl in
        let two : StoredAt X (s.top + goal_bytes) head_goal =
        goal_stored Y X (s.top + goal_bytes) head_goal second (omega (arith, length_Y, n.room)) (omega (arith, v.part_even))
        v.origin_even (omega (arith, g.heights.from)) (omega (arith, v.target_even)) bounds.even refl in
        let inner : Chain Easy P Y (s.top + goal_bytes) s.top (match b u ∷ gs) =
        chain_match Easy P Y (s.top + goal_bytes) s.top goal_of_argument one (omega (arith, bounds.start)) (omega arith) bounds.even
        (omega (arith, bounds.easy_room))
        b u gs refl tt (argument_from P r.part h f b eh v.part)
        (target_kept W Y s.top kept_first (s.top + goal_bytes) (omega arith) (size b) r.origin e u argument) o.1
        (chain_kept W Y s.top kept_first (s.top + goal_bytes) (omega arith) P Easy s.easy gs z.easy) in
        record {
          easy = chain_match Easy P X (s.top + 2 * goal_bytes) (s.top + goal_bytes)
              head_goal two (omega arith) (omega arith) (omega (arith, bounds.even)) (omega arith)
              f t (match b u ∷ gs) refl tt c.0
              (target_kept W X s.top kept_all (s.top + 2 * goal_bytes) (omega arith) (size f) r.origin (r.target + 4) t head) o.0
              (chain_kept Y X (s.top + goal_bytes) kept_second (s.top + 2 * goal_bytes) (omega arith) P Easy s.top
              (match b u ∷ gs) inner);
          deferred = chain_kept W X s.top kept_all (s.top + 2 * goal_bytes) (omega arith) P Deferred r.next hs
              (subst (λ (i : ℕ). Chain Deferred P W s.top i hs) (sym y.next) z.deferred.1);
          entries = holds_kept W X s.top kept_all (s.top + 2 * goal_bytes) (omega arith) a l z.entries;
          line = z.line;
          assigns = z.assigns;
          room = omega (arith, z.room);
        }

    way_parts : ApplicationDeferred P W s a → get_or W r.target 0 ≡ 0 → Move relinking P W s a (Way 0) X after a
    way_parts x k = record {
      go = λ gs hs l z. application_opened P W s a x gs l (λ us. Moved P X after a (Way 0 gs us l)) (λ f b t us o.
          let w = application_site P W s a r gs us l f b t y o in
          let v = application W r.target t w.target.part k in
          subst (λ (g : Term). MatchState P W s a gs l f b g us → Moved P X after a (Way 0 gs (match (app f b) g ∷ us) l)) (sym v.is)
          (λ q. record {
            gs = match f v.f ∷ match b v.a ∷ gs;
            hs = us;
            line = l;
            state = parts_state gs us l f b v.f v.a (application_site P W s a r gs us l f b (app v.f v.a) y q) q;
            same = λ φ _. (
              λ p. let m = (alternative_parts φ f b gs v.f v.a).0 (p.1.0, p.0) in (m, p.1.1, p.2),
              λ p. let m = (alternative_parts φ f b gs v.f v.a).1 p.0 in (m.1, (m.0, p.1), p.2),
            );
          }) o) hs z;
      kept = kept_all.same;
      higher = omega arith;
      falls = omega (arith, bounds.top, n.room);
      bounds = record {
        whole = length_X;
        short = bounds.short;
        top = omega (arith, n.room);
        start = omega (arith, bounds.start);
        even = omega (arith, bounds.even);
        easy_room = omega arith;
        easy_even = omega (arith, bounds.even);
        deferred_room = omega (arith, n.next, bounds.deferred_room);
        deferred_even = omega (arith, y.next);
      };
    }

-- the same, with the goals as they were made
pub way_parts_pushed :
    (P W : List ℕ) (s : Agenda) (a : List Entry) (r : StoredGoal) (h e : ℕ) (Y X : List ℕ) (i j : StoredGoal)
    (x : ApplicationDeferred P W s a)
    → StoredAt W s.deferred r
    → Ends P (r.part + 4) h → Ends W (r.target + 4) e → i ≡ stored_match h r.origin e s.easy
    → j ≡ stored_match (r.part + 4) r.origin (r.target + 4) s.top
    → Y ≡ sets W s.top (stored_bytes i) → X ≡ sets Y (s.top + goal_bytes) (stored_bytes j) → get_or W r.target 0 ≡ 0
    → Move relinking P W s a (Way 0) X (record { top = s.top + 2 * goal_bytes; easy = s.top + goal_bytes; deferred = r.next }) a
way_parts_pushed P W s a r h e Y X i j x y eh ee p q first second =
    way_parts P W s a r h e Y X x.ready.bounds eh ee y (stored_bounds P W s a x r y)
    (stored_as W Y s.top i (stored_match h r.origin e s.easy) p first)
    (stored_as Y X (s.top + goal_bytes) j (stored_match (r.part + 4) r.origin (r.target + 4) s.top) q second) x

-- a head that lacks a local of the target is no abstraction over it
pub constant_lacking : (P W : List ℕ) (s : Agenda) (a : List Entry) (w : Ways) → ApplicationDeferred P W s a → WaysCounted P W s a w
    → w.lacking ≡ true
    → Branched P W s a (Way 1) W None
constant_lacking P W s a w x c e = branch_failed P W s a (Way 1) W (record {
  none = λ gs hs l z φ v. application_opened P W s a x gs l (λ us. HeadLacks us → ¬ Way 1 gs us l φ) (λ f b t us o k p.
      no_local φ v f (constant t) k.0 k.1 (constant_local k.0 t ∙ k.2) p.1.0) hs z (c.lacking_head e gs hs l z);
  kept = refl;
})

-- the abstraction over the target, moved in below its binder
module _ (P W : List ℕ) (s : Agenda) (a : List Entry) (x : ApplicationDeferred P W s a) (r : StoredGoal)
    (y : StoredAt W s.deferred r) where
  pub raises : (room : ℕ) → room ≡ target_bytes → Source (shift 1) (slice W r.target) 0 0 room 0
  raises room h = from_application P W s a x (Source (shift 1) (slice W r.target) 0 0 room 0) (λ gs hs l f b t z.
      let u = (application_site P W s a r gs hs l f b t y z).target in
      source (shift 1) (slice W r.target) 0 0 room 0 t (part_slice W r.target t u.part)
      (closed_fits (pattern_records + 1 - size (app f b)) (shift 1 0 t)
      (closed_shift 1 0 (pattern_records - size (app f b)) (pattern_records + 1 - size (app f b)) t (omega (arith, u.few)) u.closed)
      (omega (arith, u.short, size_shift 1 0 t)))
      (omega (arith, u.short)) (omega (arith, u.short, size_shift 1 0 t)))

  pub record Raised (c : List ℕ) : Type 0 where
    pub short : length c ≤ target_bytes
    pub is : (f b t : Term) → ApplicationSite P W s r f b t → c ≡ encode (shift 1 0 t)

  module _ (out after : List ℕ) (next n : ℕ) (h : length out ≡ target_bytes)
      (v : Wrote (shift 1) (slice W r.target) 0 0 out 0 after next n)
    where
      w : Wrote (shift 1) W r.target 0 out 0 after (r.target + next) n
      w = slice_wrote (shift 1) W r.target 0 out 0 after next n v

      raised_end : (f b t : Term) → ApplicationSite P W s r f b t → (n ≡ 4 * size (shift 1 0 t)) × (n ≤ target_bytes)
      raised_end f b t v =
          let p : n ≡ 0 + 4 * size (shift 1 0 t) = w.exact t v.target.part in
          (omega arith, omega (arith, size_shift 1 0 t, v.target.short))

      pub raised_within : n ≤ target_bytes
      raised_within = from_application P W s a x (n ≤ target_bytes)
          (λ gs hs l f b t z. (raised_end f b t (application_site P W s a r gs hs l f b t y z)).1)

      pub raised : Raised (take (n - 0) (drop 0 after))
      raised = record {
        short = omega (arith, raised_within, length-take (n - 0) (drop 0 after));
        is = λ f b t v.
            let p = raised_end f b t v in
            Stores.stored out after (encode (shift 1 0 t)) n (w.bytes t v.target.part)
            (omega (arith, p.0, encode_length (shift 1 0 t)))
            (omega (arith, p.1));
      }

  module _ (c : List ℕ) (w : Raised c) where
    abbrev dropped : StoredGoal
    dropped = stored_match (r.part + 4) r.origin r.target r.next

    constant_below : (f b t : Term) → ApplicationSite P W s r f b t → (d : ℕ) → pattern_records - size (app f b) ≤ d → Closed d (constant t)
    constant_below f b t v d h = constant_closed d t (closed_more (pattern_records - size (app f b)) d t h v.target.closed)

    room : Pushes W s dropped c
    room = from_application P W s a x (Pushes W s dropped c) (λ gs hs l f b t z.
        let v = application_site P W s a r gs hs l f b t y z in
        let n = stored_bounds P W s a x r y in
        let bounds = x.ready.bounds in
        record {
          whole = bounds.whole;
          room = omega (arith, n.room, w.short);
          even = bounds.even;
          easy = omega (arith, bounds.easy_room, bounds.top);
          easy_even = bounds.easy_even;
          part = omega (arith, n.part_low, bounds.short);
          part_even = omega (arith, v.part_even);
          body = shift 1 0 t;
          table = w.is f b t v;
          few = omega (arith, v.target.short, size_shift 1 0 t);
          closed = constant_below f b t v pattern_records (omega arith);
        })

    -- the goal that it leaves
    module _ (X : List ℕ) (s' : Agenda) (p : StoredPushed W s dropped c X s') where
      abbrev last : Agenda
      last = after_stored s dropped (target_end s c)

      constant_state :
          (gs hs : List Goal) (l : Line) (f b t : Term) → ApplicationSite P W s r f b t → MatchState P W s a gs l f b t hs
          → State 0 P X last a (match f (constant t) ∷ gs) hs l
      constant_state gs hs l f b t v z =
          let g = v.target in
          pushed_state P W s dropped c X x.ready.bounds room s' p y.next a (match (app f b) t) gs hs l f (shift 1 0 t) z
          (w.is f b t v) (application_parts P r.part f b v.part).0
          (record {
            normal = constant_normal t g.normal;
            ground = constant_ground t g.ground;
            few = omega (arith, g.few);
            closed = constant_below f b t v (pattern_records - size f) (omega arith);
            short = omega (arith, g.short, size_shift 1 0 t);
          })
          (listable_constant variables (OccursIn P) f b t v.suits) (omega (arith, w.short))

      constant_move : Move relinking P W s a (Way 1) X last a
      constant_move = record {
        go = λ gs hs l z. application_opened P W s a x gs l (λ us. Moved P X last a (Way 1 gs us l)) (λ f b t us o. record {
          gs = match f (constant t) ∷ gs;
          hs = us;
          line = l;
          state = constant_state gs us l f b t (application_site P W s a r gs us l f b t y o) o;
          same = λ φ _. (λ p. ((p.1.0, p.0), p.1.1, p.2), λ p. (p.0.1, (p.0.0, p.1), p.2));
        }) hs z;
        kept = p.kept;
        higher = omega arith;
        falls = pushed_falls P W s dropped c X x.ready.bounds room s' p y.next;
        bounds = pushed_bounds P W s dropped c X x.ready.bounds room s' p y.next (stored_bounds P W s a x r y).next;
      }

    module _ (i : StoredGoal) (e : i ≡ stored_match (r.part + 4) r.origin r.target r.next) where
      pub constant_pushes : Pushes W s i c
      constant_pushes = subst (λ (k : StoredGoal). Pushes W s k c) (sym e) room

      pub constant_pushed : (X : List ℕ) (s' : Agenda) → StoredPushed W s i c X s' → Branched P W s a (Way 1) X (Some s')
      constant_pushed X s' g =
          let p = subst (λ (k : StoredGoal). StoredPushed W s k c X s') e g in
          subst (λ (o : Agenda). Branched P W s a (Way 1) X (Some o)) (sym p.agenda)
          (branch_next P W s a (Way 1) X (after_stored s dropped (target_end s c)) (constant_move X s' p))
