-- The step of an easy goal whose part is an abstraction or an application. The goal goes on with the part's own parts, whose targets are
-- the target's, or it is deferred as it is; no assignment brings in a local that the part lacks. Assumes nothing.
use mathlib.Core.Path.{◌≡◌, refl, sym, ap, ap₂, ◌∙◌, subst, subst₂}
use mathlib.Core.Bool.{Bool, true}
use mathlib.Core.Logic.{inl, inr, ◌↔◌}
use mathlib.Core.List.{List, [], ◌∷◌}
use Prim.Native.Nat.{ℕ, suc, ◌+◌, ◌-◌, ◌*◌, ◌%◌, ◌<◌, ◌≤◌}
use native.Mathlib.Omega.{arith}
use lib.ListN.{length, get_or, take, drop, length-take}
use lib.Seq.{sets}
use Rattle.terms.specs.Figures.{variables, pattern_records, value_records, table_bytes}
use Rattle.terms.specs.Term.{Term, app, lam, loc, con, var, size, shift, Normal, Ground, Closed}
use Rattle.terms.specs.Table.{record_bytes, encode}
use Rattle.terms.specs.Sweep.{sweep, fill}
use Rattle.terms.specs.Refusal.{OccursIn}
use Rattle.terms.specs.Heads.{rigid}
use Rattle.terms.proofs.Table.{kind, encode_length}
use Rattle.terms.proofs.Shift.{size_shift}
use Rattle.terms.proofs.Locals.{closed_more}
use Rattle.matching.specs.Goals.{Sweeps, Goal, Goal.match, All, Listable}
use Rattle.matching.proofs.Step.{body_target, match_abstraction, body_target_normal}
use Rattle.matching.proofs.Targets.{body_target_closed, body_target_ground, closed_shift}
use Rattle.matching.proofs.Cuts.{rigid_application, no_local}
use Rattle.records.specs.Parts.{slice, Part, Whole, Ends}
use Rattle.records.proofs.Slices.{part_slice}
use Rattle.records.proofs.Parts.{kind_at, application, abstraction, argument_part, whole_head}
use Rattle.heights.specs.Heights.{heights}
use Rattle.assignments.specs.declared.Entry.{Entry}
use Rattle.substitution.specs.Writers.{Source, Wrote}
use Rattle.sweeping.proofs.Contraction.{closed_fits}
use Rattle.substitution.proofs.Writers.{source, slice_wrote}
use Rattle.copying.proofs.Stores.{written_then, stored}
use Rattle.agenda.specs.declared.Agenda.{Agenda}
use Rattle.agenda.specs.declared.StoredGoal.{StoredGoal}
use Rattle.agenda.specs.declared.Step.TheVariants as step
use Rattle.agenda.specs.Stored.{part_limit, stored_bytes, stored_match}
use Rattle.agenda.specs.State.{goal_bytes, height_bytes, target_bytes, HeightsBeside, WrittenTarget, Target, Easy, Deferred, Bounds}
use Rattle.steps.specs.Steps.{Stepped}
use Rattle.agenda.specs.Locals.{Locals, Lacks}
use Rattle.steps.specs.Opening.{Opens, Expandable, Expanded}
use Rattle.agenda.proofs.Targets.{beside_head, beside_argument, beside_body, NewTarget, written_target, new_target}
use Rattle.agenda.proofs.Lacking.{all_marks_at, locals_at, lacks_at}
use Rattle.agenda.proofs.Frame.{Kept, target_kept, chain_kept, holds_kept, kept_sets, kept_then, length_stored}
use Rattle.steps.proofs.Opening.{Opened, easy_opened, match_pushed, Pushed, step_failed, replaced}

-- what stands in a state that is known to be there
module _ (P W : List ℕ) (s : Agenda) (a : List Entry) (r : StoredGoal) (x : Opens P W s a r) where
  pub known : Opened P W s r x.ready.gs x.ready.hs
  known = easy_opened P W s a r x.some x.stored_goal x.ready.gs x.ready.hs x.ready.line x.ready.state

  pub application_head_whole : get_or P r.part 0 ≡ 0 → Whole P (r.part + 4)
  application_head_whole k = whole_head P r.part x.part k

  pub target_head_whole : get_or W r.target 0 ≡ 0 → Whole W (r.target + 4)
  target_head_whole k = whole_head W r.target x.target k

  pub applies : Expandable W r.target (s.top + height_bytes)
  applies =
      let o = known in
      let b = x.ready.bounds in
      record {
        tree = o.t;
        part = o.target.part;
        closed = closed_more (pattern_records - size o.p) pattern_records o.t (omega arith) o.target.closed;
        short = omega (arith, o.target.short);
        least = x.target.least;
        room = omega (arith, x.room, b.whole);
      }

  pub step_locals : Locals (slice P r.part) (slice W r.target)
  step_locals =
      let o = known in
      locals_at P r.part W r.target x.part x.ready.bounds.short
      (all_marks_at W r.target (pattern_records - size o.p) o.t o.target.part (omega arith) o.target.closed
      (omega (arith, o.target.short)))

-- `@ t #0` is written: the shifted target first into an array of its own
module _ (W : List ℕ) (at o : ℕ) (x : Expandable W at o) where
  pub apply_source : (room : ℕ) → room ≡ target_bytes → Source (shift 1) (slice W at) 0 0 room 0
  apply_source room e =
      let n = size_shift 1 0 x.tree in
      source (shift 1) (slice W at) 0 0 room 0 x.tree (part_slice W at x.tree x.part)
      (closed_fits (suc pattern_records) (shift 1 0 x.tree)
      (closed_shift 1 0 pattern_records (suc pattern_records) x.tree (omega arith) x.closed) (omega (arith, x.short)))
      (omega (arith, x.short)) (omega (arith, x.short))

  module _ (Z Y : List ℕ) (next n : ℕ) (v : Wrote (shift 1) (slice W at) 0 0 Z 0 Y next n) where
    w : Wrote (shift 1) W at 0 Z 0 Y (at + next) n
    w = slice_wrote (shift 1) W at 0 Z 0 Y next n v

    pub apply_length : n ≡ 4 * size x.tree
    apply_length = omega (arith, w.exact x.tree x.part, size_shift 1 0 x.tree)

    pub apply_most : n ≤ target_bytes
    apply_most = omega (arith, apply_length, x.short)

    pub expanded :
        (U X R : List ℕ) (m : ℕ) → length Z ≡ target_bytes → U ≡ sets W o (record_bytes 0 0 [])
        → X ≡ sets U (o + 4) (take (n - 0) (drop 0 Y))
        → R ≡ sets X m (record_bytes 2 0 [])
        → m ≡ o + 4 + n → Expanded W at o R (m + 4)
    expanded U X R m z e f g h = record {
      exact = λ t y. omega (arith, w.exact t y);
      bytes = λ t y.
          let c : take (n - 0) (drop 0 Y) ≡ encode (shift 1 0 t) =
          stored Z Y (encode (shift 1 0 t)) n (w.bytes t y) (omega (arith, w.exact t y, encode_length (shift 1 0 t)))
          (omega (arith, apply_most)) in
          let d : X ≡ sets W o (record_bytes 0 0 (encode (shift 1 0 t))) =
          written_then (record_bytes 0 0 []) (encode (shift 1 0 t)) W U X o (o + 4) e (f ∙ ap (sets U (o + 4)) c) refl in
          written_then (record_bytes 0 0 (encode (shift 1 0 t))) (record_bytes 2 0 []) W X R o m d g
          (omega (arith, w.exact t y, encode_length (shift 1 0 t)));
      more = omega arith;
      most = omega (arith, apply_most);
    }

-- an abstraction
other_target : (t : Term) → ¬ (kind t ≡ 1) → body_target t ≡ app (shift 1 0 t) (loc 0)
other_target (app f a) n = refl
other_target (lam b) n = absurd (n refl)
other_target (loc i) n = refl
other_target (con i) n = refl
other_target (var i) n = refl

module _ (P W : List ℕ) (s : Agenda) (a : List Entry) (r : StoredGoal) (x : Opens P W s a r) (k : get_or P r.part 0 ≡ 1) where
  -- the body's goal, whose target u stands at byte `i` of Y
  body_goal :
      (Y : List ℕ) (at i : ℕ) (gs hs : List Goal) (o : Opened P W s r gs hs) (u : Term) → body_target o.t ≡ u → Part Y i u
      → i + 4 * size u ≤ at → size u ≤ size o.t + 2
      → (b : ℕ) → HeightsBeside Y b i u → Pushed P Y at (stored_match (r.part + 4) b i r.next) o.p o.t
  body_goal Y at i gs hs o u e y below short origin heights =
      let v = abstraction P r.part o.p o.part k in
      let n = ap size v.is in
      let g = o.target in
      let suits : Listable variables (OccursIn P) (match (lam v.b) o.t) =
      subst (λ (p : Term). Listable variables (OccursIn P) (match p o.t)) v.is o.suits in
      let few = g.few in
      let normal = subst Normal e (body_target_normal o.t g.normal) in
      record {
        q = v.b;
        u = u;
        part = v.body;
        target = record {
          part = y;
          below = below;
          normal = normal;
          ground = subst Ground e (body_target_ground o.t g.ground);
          few = omega arith;
          closed = subst₂ Closed (omega arith) e (body_target_closed (pattern_records - size o.p) o.t g.closed);
          short = omega (arith, g.short);
          heights = heights;
        };
        suits = (suits.0, normal);
        fewer = omega arith;
        same = λ φ w. subst₂ (λ (p z : Term). Sweeps p o.t φ ↔ Sweeps v.b z φ) (sym v.is) e
            (match_abstraction φ v.b o.t g.normal);
      }

  pub body_pushed :
      (X : List ℕ) → get_or W r.target 0 ≡ 1
      → X ≡ sets W s.top (stored_bytes (stored_match (r.part + 4) r.origin (r.target + 4) r.next))
      → Stepped P W s a X (step.Left (record { top = s.top + goal_bytes; easy = s.top; deferred = s.deferred }))
  body_pushed X t e =
      let b = x.ready.bounds in
      replaced P W s a r x W X s.top (stored_match (r.part + 4) r.origin (r.target + 4) r.next)
      (record { same = refl; from = omega (arith, b.top, b.whole); to = omega (arith, b.top, b.whole) }) b.whole e (omega arith)
      (omega arith) b.even
      refl refl (omega (arith, x.part_even)) x.origin_even (omega (arith, x.target_even))
      (λ gs hs l y o.
      let z = abstraction W r.target o.t o.target.part t in
      let n = ap size z.is in
      body_goal W s.top (r.target + 4) gs hs o z.b (ap body_target z.is) z.body (omega (arith, o.target.below)) (omega arith)
      r.origin (beside_body W r.origin r.target o.t o.target.heights z.b z.is))

  module _ (Y : List ℕ) (end : ℕ) (t : ¬ (get_or W r.target 0 ≡ 1)) (d : Expanded W r.target (s.top + height_bytes) Y end) where
    abbrev applied : Term → Term
    applied t = app (shift 1 0 t) (loc 0)

    -- what was written is short enough to be a target: an abstraction has two records
    module _ {gs hs : List Goal} (o : Opened P W s r gs hs) where
      applied_few : size (applied o.t) ≤ value_records
      applied_few =
          let v = abstraction P r.part o.p o.part k in
          omega (arith, o.target.short, size_shift 1 0 o.t, ap size v.is, v.body.some)

      applied_room : s.top + height_bytes + 4 * size (applied o.t) ≤ length W
      applied_room = omega (arith, applied_few, x.room, x.ready.bounds.whole)

      applied_bytes : Y ≡ sets W (s.top + height_bytes) (encode (applied o.t))
      applied_bytes = d.bytes o.t o.target.part

    pub applied_written : WrittenTarget Y (s.top + height_bytes) end
    applied_written =
        let o = known P W s a r x in
        written_target W Y Y s.top (applied o.t) (applied_bytes o) (applied_room o) (applied_few o)
        (subst (Closed pattern_records) (other_target o.t (λ q. t (kind_at W r.target o.t o.target.part ∙ q)))
        (closed_more (suc (pattern_records - size o.p)) pattern_records (body_target o.t) (omega (arith, o.target.few, o.part.some))
        (body_target_closed (pattern_records - size o.p) o.t o.target.closed)))
        end (d.exact o.t o.target.part)

    module _ (Z : List ℕ)
        (g : (u : Term) → Part Y (s.top + height_bytes) u → Z ≡ sets Y (s.top + height_bytes - height_bytes) (heights u)) where
      made : {gs hs : List Goal} → (o : Opened P W s r gs hs) → NewTarget W Z s.top (applied o.t)
      made o = new_target W Y Z s.top (applied o.t) (applied_bytes o) (applied_room o) (applied_few o) g

      pub applied_pushed :
          (X : List ℕ) → X ≡ sets Z end (stored_bytes (stored_match (r.part + 4) (s.top + height_bytes) (s.top + height_bytes) r.next))
          → Stepped P W s a X (step.Left (record { top = end + goal_bytes; easy = end; deferred = s.deferred }))
      applied_pushed X e =
          let b = x.ready.bounds in
          let whole = b.whole in
          let even = b.even in
          let o = known P W s a r x in
          replaced P W s a r x Z X end (stored_match (r.part + 4) (s.top + height_bytes) (s.top + height_bytes) r.next)
          (made o).kept ((made o).same_length ∙ whole) e (omega (arith, d.more)) (omega (arith, d.most))
          (omega (arith, d.exact o.t o.target.part)) refl refl (omega (arith, x.part_even)) (omega (arith, even))
          (omega (arith, even))
          (λ gs hs l y o.
          body_goal Z end (s.top + height_bytes) gs hs o (applied o.t)
          (other_target o.t (λ q. t (kind_at W r.target o.t o.target.part ∙ q))) (made o).part
          (omega (arith, d.exact o.t o.target.part)) (omega (arith, size_shift 1 0 o.t))
          (s.top + height_bytes) (made o).heights)

-- an application
pub argument_near : (P W : List ℕ) (s : Agenda) (a : List Entry) (r : StoredGoal) → Opens P W s a r → (i : ℕ) → get_or W r.target 0 ≡ 0
    → Ends W (r.target + 4) i → i < r.origin + part_limit
argument_near P W s a r x i t c =
    let o = known P W s a r x in
    let u = application W r.target o.t o.target.part t in
    omega (arith, c.exact u.f u.head, ap size u.is, o.target.heights.within)

module _ (P W : List ℕ) (s : Agenda) (a : List Entry) (r : StoredGoal) (x : Opens P W s a r) (k : get_or P r.part 0 ≡ 0) where
  -- with a rigid head
  module _ (rigid_head : (t : Term) → Part P r.part t → rigid t ≡ true) where
    parts_of : (gs hs : List Goal) (o : Opened P W s r gs hs) (f b : Term) → o.p ≡ app f b → (φ : ℕ → Term)
        → Sweeps o.p o.t φ ↔ (o.t ≡ app (sweep (fill φ f)) (sweep (fill φ b)))
    parts_of gs hs o f b e φ =
        let h : rigid (app f b) ≡ true = subst (λ (p : Term). rigid p ≡ true) e (rigid_head o.p o.part) in
        subst (λ (p : Term). Sweeps p o.t φ ↔ (o.t ≡ app (sweep (fill φ f)) (sweep (fill φ b)))) (sym e)
        (rigid_application φ f b o.t o.target.normal h)

    pub rigid_missed : ¬ (get_or W r.target 0 ≡ 0) → Stepped P W s a W step.Failed
    rigid_missed n =
        step_failed P W s a r x (λ gs hs l y o φ v g z.
        let u = application P r.part o.p o.part k in
        n (kind_at W r.target o.t o.target.part ∙ ap kind ((parts_of gs hs o u.f u.a u.is φ).0 z)))

    module _ (h i : ℕ) (t : get_or W r.target 0 ≡ 0) (d : Ends P (r.part + 4) h) (c : Ends W (r.target + 4) i) where
      abbrev first : StoredGoal
      first = stored_match h r.origin i r.next

      abbrev second : StoredGoal
      second = stored_match (r.part + 4) r.origin (r.target + 4) s.top

      pub step_parts_pushed :
          (Y X : List ℕ) → Y ≡ sets W s.top (stored_bytes (stored_match h r.origin i r.next))
          → X
          ≡ sets Y (s.top + goal_bytes) (stored_bytes (stored_match (r.part + 4) r.origin (r.target + 4) s.top))
          → Stepped P W s a X
          (step.Left (record { top = s.top + goal_bytes + goal_bytes; easy = s.top + goal_bytes; deferred = s.deferred }))
      unfolding Stepped
      step_parts_pushed Y X e f = record {
        go = λ gs hs l y.
            let o = easy_opened P W s a r x.some x.stored_goal gs hs l y in
            let u = application P r.part o.p o.part k in
            let w = application W r.target o.t o.target.part t in
            let n = ap size u.is in
            let m = ap size w.is in
            let g = o.target in
            let below = g.below in
            let few = g.few in
            let short = g.short in
            let normal : Normal (app w.f w.a) = subst Normal w.is g.normal in
            let ground : Ground (app w.f w.a) = subst Ground w.is g.ground in
            let closed : Closed (pattern_records - size o.p) (app w.f w.a) =
            subst (Closed (pattern_records - size o.p)) w.is g.closed in
            let suits : Listable variables (OccursIn P) (match (app u.f u.a) o.t) =
            subst (λ (p : Term). Listable variables (OccursIn P) (match p o.t)) u.is o.suits in
            let head : Target W s.top (size u.f) r.origin (r.target + 4) w.f = record {
              part = w.head;
              below = omega arith;
              normal = normal.1;
              ground = ground.0;
              few = omega arith;
              closed = closed_more (pattern_records - size o.p) (pattern_records - size u.f) w.f (omega arith) closed.0;
              short = omega arith;
              heights = beside_head W r.origin r.target o.t g.heights w.f w.a w.is;
            } in
            let argument : Target W s.top (size u.a) r.origin i w.a = record {
              part = argument_part W r.target i o.t c w;
              below = omega (arith, c.exact w.f w.head);
              normal = normal.2;
              ground = ground.1;
              few = omega arith;
              closed = closed_more (pattern_records - size o.p) (pattern_records - size u.a) w.a (omega arith) closed.1;
              short = omega arith;
              heights = subst (λ (j : ℕ). HeightsBeside W r.origin j w.a) (sym (c.exact w.f w.head))
                  (beside_argument W r.origin r.target o.t g.heights w.f w.a w.is);
            } in
            let chain =
            match_pushed Easy P W Y s.top first e (omega arith) (omega arith) even refl
            (omega arith) part_even x.origin_even target_even next_even
            u.a w.a o.rest tt
            (argument_part P r.part h o.p d u) argument ((suits.0.0.1, λ j q. suits.0.1 j (inr q)), normal.2) o.chain in
            record {
              gs = match u.f w.f ∷ match u.a w.a ∷ o.rest;
              hs = hs;
              line = l;
              state = record {
                easy =
                    match_pushed Easy P Y X (s.top + goal_bytes) second f (omega arith) (omega (arith, written)) (omega (arith, even)) refl
                    (omega arith)
                    (omega arith) x.origin_even (omega arith) even u.f w.f
                    (match u.a w.a ∷ o.rest) tt u.head
                    (target_kept W Y s.top from (s.top + goal_bytes) (omega arith) (size u.f) r.origin (r.target + 4) w.f head)
                    ((suits.0.0.0, λ j q. suits.0.1 j (inl q)), normal.1) chain;
                deferred = chain_kept W X s.top all (s.top + goal_bytes + goal_bytes) (omega arith) P Deferred s.deferred hs
                    y.deferred;
                entries = holds_kept W X s.top all (s.top + goal_bytes + goal_bytes) (omega arith) a l y.entries;
                line = y.line;
                assigns = y.assigns;
                room = omega (arith, o.room);
              };
              same = λ φ v.
                  let q = parts_of gs hs o u.f u.a u.is φ in (
                    λ z.
                        let j : All (match o.p o.t ∷ o.rest) φ = subst (λ (p : List Goal). All p φ) o.is z.0 in
                        let b : app w.f w.a ≡ app (sweep (fill φ u.f)) (sweep (fill φ u.a)) = sym w.is ∙ q.0 j.0 in
                        let b1 : sweep (fill φ u.f) ≡ w.f = cc in
                        let b2 : sweep (fill φ u.a) ≡ w.a = cc in
                        ((b1, (b2, j.1)), z.1, z.2),
                    λ z. (
                      subst (λ (p : List Goal). All p φ) (sym o.is) (q.1 (w.is ∙ sym (ap₂ app z.0.0 z.0.1.0)), z.0.1.1),
                      z.1,
                      z.2,
                    ),
                  );
            };
        kept = all.same;
        higher = omega arith;
        falls = omega arith;
        bounds = record {
          whole = length_stored (stored_bytes second) Y X (s.top + goal_bytes) f ∙ written;
          short = x.ready.bounds.short;
          top = omega arith;
          start = omega arith;
          even = omega arith;
          easy_room = omega arith;
          easy_even = omega arith;
          deferred_room = omega (arith, x.ready.bounds.deferred_room);
          deferred_even = x.ready.bounds.deferred_even;
        };
      }
        where
          whole : length W ≡ table_bytes
          whole = x.ready.bounds.whole

          written : length Y ≡ table_bytes
          written = length_stored (stored_bytes first) W Y s.top e ∙ whole

          even : s.top % 4 ≡ 0
          even = x.ready.bounds.even

          part_even : h % 4 ≡ 0
          part_even =
              let o = known P W s a r x in
              let u = application P r.part o.p o.part k in
              omega (arith, d.exact u.f u.head, x.part_even)

          target_even : i % 4 ≡ 0
          target_even =
              let o = known P W s a r x in
              let u = application W r.target o.t o.target.part t in
              omega (arith, c.exact u.f u.head, x.target_even)

          next_even : r.next % 4 ≡ 0
          next_even = x.next_even

          from : Kept W Y s.top
          from = kept_sets (stored_bytes first) W Y s.top s.top e (omega arith) (omega (arith, x.room, whole))

          all : Kept W X s.top
          all = kept_then W Y X s.top (s.top + goal_bytes) (omega arith) from
              (kept_sets (stored_bytes second) Y X (s.top + goal_bytes) (s.top + goal_bytes) f (omega arith)
              (omega (arith, x.room, written)))

  -- the target has a local that it lacks
  pub flexible_missed : (b : Bool) → b ≡ true → Lacks (slice P r.part) (slice W r.target) b → Stepped P W s a W step.Failed
  flexible_missed b e h =
      let j = lacks_at P r.part W r.target b e h in
      step_failed P W s a r x (λ gs hs l y o φ v g z.
      let q = j.1 o.p o.t o.part o.target.part in
      no_local φ v o.p o.t j.0 q.0 q.1 z)

  -- it is deferred
  pub deferred_as_is :
      (X : List ℕ) → X ≡ sets W s.top (stored_bytes
      (stored_match r.part r.origin r.target s.deferred))
      → Stepped P W s a X (step.Left (record { top = s.top + goal_bytes; easy = r.next; deferred = s.top }))
  unfolding Stepped
  deferred_as_is X e = record {
    go = λ gs hs l y.
        let o = easy_opened P W s a r x.some x.stored_goal gs hs l y in
        let u = application P r.part o.p o.part k in
        record {
          gs = o.rest;
          hs = match o.p o.t ∷ hs;
          line = l;
          state = record {
            easy = chain_kept W X s.top j (s.top + goal_bytes) (omega arith) P Easy r.next o.rest o.chain;
            deferred =
                match_pushed Deferred P W X s.top q e (omega (arith, b.start)) (omega (arith, x.room, b.whole)) b.even refl
                (omega (arith, b.deferred_room)) x.part_even x.origin_even x.target_even
                b.deferred_even o.p o.t hs (subst (λ (p : Term). Deferred (match p o.t)) (sym u.is) tt) o.part
                o.target
                o.suits y.deferred;
            entries = holds_kept W X s.top j (s.top + goal_bytes) (omega arith) a l y.entries;
            line = y.line;
            assigns = y.assigns;
            room = omega (arith, o.room);
          };
          same = λ φ v. (
            λ z.
                let w : All (match o.p o.t ∷ o.rest) φ = subst (λ (p : List Goal). All p φ) o.is z.0 in
                (w.1, (w.0, z.1), z.2),
            λ z. (subst (λ (p : List Goal). All p φ) (sym o.is) (z.1.0, z.0), z.1.1, z.2),
          );
        };
    kept = j.same;
    higher = omega arith;
    falls = omega (arith, x.room, x.falls, b.easy_room);
    bounds = record {
      whole = length_stored (stored_bytes q) W X s.top e ∙ b.whole;
      short = b.short;
      top = omega (arith, x.room);
      start = omega arith;
      even = omega (arith, b.even);
      easy_room = omega (arith, b.easy_room, x.falls);
      easy_even = x.next_even;
      deferred_room = omega arith;
      deferred_even = b.even;
    };
  }
    where
      b : Bounds P W s
      b = x.ready.bounds

      q : StoredGoal
      q = stored_match r.part r.origin r.target s.deferred

      j : Kept W X s.top
      j = kept_sets (stored_bytes q) W X s.top s.top e (omega arith) (omega (arith, x.room, b.whole))
