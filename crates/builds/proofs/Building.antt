-- The steps of a goal to build: a body's abstraction that is written at the top becomes the target of the goal's head, and a body that no
-- head sweeps to leaves nothing. The state after a step stands where it says since what is below the top is kept. Assumes nothing.
--   BuildSite P W s r f t e   the stored goal r, first of those deferred, is the goal to build f's body from t and e
--   Bodied P W s r m b        b is the table of the body that the choices m give
--   UsesTold P W s r m u      u says whether that body uses its local
--   Facts .. f t e            what writing the abstraction over it needs to know
use mathlib.Core.Path.{◌≡◌, refl, sym, ap, ◌∙◌, subst, subst₂}
use mathlib.Core.Bool.{Bool, true, false}
use mathlib.Core.Logic.{◌↔◌}
use mathlib.Core.List.{List, [], ◌∷◌}
use Prim.Native.Nat.{ℕ, suc, ◌+◌, ◌-◌, ◌*◌, ◌%◌, ◌<◌, ◌≤◌}
use native.Mathlib.Omega.{arith}
use lib.Dec.{T}
use lib.ListN.{length, take, drop}
use lib.Seq.{sets}
use Rattle.std.specs.declared.option.Option.TheVariants.{Some, None}
use Rattle.terms.specs.Figures.{variables, pattern_records, value_records, table_bytes}
use Rattle.terms.specs.Term.{Term, lam, size, uses, is_eta, shift, Closed}
use Rattle.terms.specs.Table.{encode}
use Rattle.terms.specs.Listing.{Line}
use Rattle.terms.specs.Refusal.{OccursIn}
use Rattle.terms.proofs.Table.{encode_length}
use Rattle.terms.proofs.Shift.{size_shift}
use Rattle.terms.proofs.Locals.{closed_more}
use Rattle.matching.specs.Lists.{Values}
use Rattle.matching.specs.Goals.{Sweeps, Goal, Goal.match, Goal.build, Listable}
use Rattle.matching.specs.Bodies.{copies, body, Some as Chosen}
use Rattle.matching.proofs.Bodies.{copies_size, body_uses, body_size, body_closed, body_ground, body_normal, body_eta}
use Rattle.matching.proofs.Targets.{closed_shift}
use Rattle.matching.proofs.Choices.{listable_chosen}
use Rattle.records.specs.Parts.{slice, Part, Tree}
use Rattle.records.specs.Tests.{Says, Equals}
use Rattle.records.proofs.Parts.{tree, whole}
use Rattle.sweeping.proofs.Contraction.{closed_fits}
use Rattle.copying.proofs.Stores as Stores
use Rattle.assignments.specs.declared.Entry.{Entry}
use Rattle.abstractions.specs.Bodies.{BodySource, Body, chosen_in}
use Rattle.abstractions.proofs.Bodies.{choosing_at, body_exact_at, body_bytes_at, body_number_at}
use Rattle.agenda.specs.declared.Agenda.{Agenda}
use Rattle.agenda.specs.declared.StoredGoal.{StoredGoal}
use Rattle.agenda.specs.Stored.{StoredAt, StoredFits}
use Rattle.agenda.specs.State.{target_bytes, Target, State, Bounds, Ready, relinking}
use Rattle.agenda.specs.Moves.{Move, Moved, Failed, Branched}
use Rattle.builds.specs.Choices.{ChosenBody}
use Rattle.builds.specs.Builds.{Builds, AnyChosen, Pushes, Suitable, StoredPushed, after_stored, target_end}
use Rattle.agenda.proofs.Frame.{length_stored}
use Rattle.builds.proofs.Pushing.{pushed_state, pushed_falls, pushed_bounds}

pub record BuildSite (P W : List ℕ) (s : Agenda) (r : StoredGoal) (f t e : Term) : Type 0 where
  pub part : Part P r.part f
  pub target : Target W s.top (suc (size f)) r.origin r.target t
  pub argument : Target W s.top (suc (size f)) r.argument r.argument e
  pub suits : Listable variables (OccursIn P) (build f t e)
  pub next : r.next < s.deferred
  pub part_even : r.part % 4 ≡ 0
  pub next_even : r.next % 4 ≡ 0

pub record Bodied (P W : List ℕ) (s : Agenda) (r : StoredGoal) (m b : List ℕ) : Type 0 where
  pub is : (f t e : Term) → BuildSite P W s r f t e → b ≡ encode (body e 0 t (chosen_in m) 0)

pub record UsesTold (P W : List ℕ) (s : Agenda) (r : StoredGoal) (m : List ℕ) (u : Bool) : Type 0 where
  pub is : (f t e : Term) → BuildSite P W s r f t e → u ≡ uses 0 (body e 0 t (chosen_in m) 0)

-- two answers to one question
answers_same : (A : Type 0) (u v : Bool) → Says u A → (v ≡ true) ↔ A → u ≡ v
answers_same A true v x h = sym (h.1 x)
answers_same A false true x h = absurd (x (h.0 refl))
answers_same A false false x h = refl

-- the goal that is read
module _ (P W : List ℕ) (s : Agenda) (a : List Entry) where
  abbrev pub BuildState : List Goal → Line → Term → Term → Term → List Goal → Type 0
  BuildState gs l f t e hs = State relinking P W s a gs (build f t e ∷ hs) l

  pub build_site : (r : StoredGoal) (gs hs : List Goal) (l : Line) (f t e : Term) → StoredAt W s.deferred r → BuildState gs l f t e hs
      → BuildSite P W s r f t e
  build_site r gs hs l f t e y x =
      let n = x.deferred.0 in
      record {
        part = subst (λ (i : ℕ). Part P i f) (sym y.part) n.goal.part;
        target = subst₂ (λ (o i : ℕ). Target W s.top (suc (size f)) o i t) (sym y.origin) (sym y.target) n.goal.target;
        argument = subst (λ (i : ℕ). Target W s.top (suc (size f)) i i e) (sym y.argument) n.goal.argument;
        suits = n.goal.suits;
        next = omega (arith, y.next, n.falls);
        part_even = omega (arith, y.part);
        next_even = omega (arith, y.next);
      }

  module _ (ready : Ready relinking P W s a) (x : Builds W s) where
    -- the first deferred goal is one to build, in each state that stands there
    pub build_opened :
        (gs : List Goal) (l : Line) (Q : List Goal → Type 0)
        → ((f t e : Term) (hs : List Goal) → BuildState gs l f t e hs → Q (build f t e ∷ hs))
        → (hs : List Goal) → State relinking P W s a gs hs l → Q hs
    build_opened gs l Q h [] y = absurd (omega (arith, x.some_deferred, y.deferred))
    build_opened gs l Q h (match p t ∷ hs) y = absurd (x.kind y.deferred.0.goal.kind)
    build_opened gs l Q h (build f t e ∷ hs) y = h f t e hs y

    -- the state that a step starts from
    pub from_build : (A : Type 0) → ((gs hs : List Goal) (l : Line) (f t e : Term) → BuildState gs l f t e hs → A) → A
    from_build A h =
        build_opened ready.gs ready.line (λ _. A) (λ f t e hs y. h ready.gs hs ready.line f t e y) ready.hs ready.state

    module _ (r : StoredGoal) (y : StoredAt W s.deferred r) where
      pub choosing : (last room : ℕ) → value_records ≤ last → target_bytes ≤ room
          → BodySource (slice W r.target) 0 (slice W r.argument) last 0 room 0
      choosing last room h k = from_build (BodySource (slice W r.target) 0 (slice W r.argument) last 0 room 0) (λ gs hs l f t e z.
          let v = build_site r gs hs l f t e y z in
          let u = v.target in
          choosing_at W W r.target r.argument 0 last 0 room 0 t u.part (whole W r.argument e v.argument.part)
          (omega (arith, ready.bounds.whole))
          (closed_fits (suc pattern_records - suc (size f)) (shift 1 0 t)
          (closed_shift 1 0 (pattern_records - suc (size f)) (suc pattern_records - suc (size f)) t (omega (arith, u.few)) u.closed)
          (omega (arith, u.short, size_shift 1 0 t)))
          (omega (arith, u.short)) (omega (arith, u.short)) (omega (arith, u.short)))

      -- the places of the part, the target and the argument lie in their tables
      pub build_part_within : r.part ≤ length P
      build_part_within = from_build (r.part ≤ length P) (λ gs hs l f t e z. omega (arith, (build_site r gs hs l f t e y z).part.within))

      pub build_target_within : r.target ≤ length W
      build_target_within =
          from_build (r.target ≤ length W) (λ gs hs l f t e z. omega (arith, (build_site r gs hs l f t e y z).target.part.within))

      pub build_argument_within : r.argument ≤ length W
      build_argument_within =
          from_build (r.argument ≤ length W) (λ gs hs l f t e z. omega (arith, (build_site r gs hs l f t e y z).argument.part.within))

      module _ (m b c : List ℕ) (next n k : ℕ) (h : length b ≡ target_bytes)
          (w : Body (slice W r.target) 0 (slice W r.argument) m 0 b 0 c next n k) where
        size_end : (f t e : Term) → BuildSite P W s r f t e → (n ≡ 4 * size (body e 0 t (chosen_in m) 0)) × (n ≤ target_bytes)
        size_end f t e v =
            let p : n ≡ 0 + 4 * size (body e 0 t (chosen_in m) 0) = body_exact_at W W r.target r.argument 0 m 0 b 0 c next n k w t e
            v.target.part v.argument.part in
            (omega arith, omega (arith, body_size e 0 t (chosen_in m) 0, v.target.short))

        pub end_within : n ≤ length c
        end_within = from_build (n ≤ length c) (λ gs hs l f t e z.
            let v = build_site r gs hs l f t e y z in
            omega (
              arith,
              (size_end f t e v).1,
              length_stored (encode (body e 0 t (chosen_in m) 0)) b c 0
                  (body_bytes_at W W r.target r.argument 0 m 0 b 0 c next n k w t e v.target.part v.argument.part),
            ))

        pub bodied : Bodied P W s r m (take (n - 0) (drop 0 c))
        bodied = record {
          is = λ f t e v.
              let p = size_end f t e v in
              let q : c ≡ sets b 0 (encode (body e 0 t (chosen_in m) 0)) =
              body_bytes_at W W r.target r.argument 0 m 0 b 0 c next n k w t e v.target.part v.argument.part in
              Stores.stored b c (encode (body e 0 t (chosen_in m) 0)) n q (omega (arith, p.0, encode_length (body e 0 t (chosen_in m) 0)))
              (omega (arith, p.1));
        }

        copies_counted : (f t e : Term) → BuildSite P W s r f t e → k ≡ copies e 0 t
        copies_counted f t e v =
            omega (arith, body_number_at W W r.target r.argument 0 m 0 b 0 c next n k w t e v.target.part v.argument.part)

        pub choices_within : k ≤ value_records
        choices_within = from_build (k ≤ value_records) (λ gs hs l f t e z.
            let v = build_site r gs hs l f t e y z in
            omega (arith, copies_counted f t e v, copies_size e 0 t, v.target.short))

        -- the local is used where a choice is made
        pub used_chosen : (u : Bool) → AnyChosen m k u → UsesTold P W s r m u
        used_chosen u h = record {
          is = λ f t e v.
              answers_same (Chosen (chosen_in m) 0 (copies e 0 t)) u (uses 0 (body e 0 t (chosen_in m) 0))
              (subst (λ (j : ℕ). Says u (Chosen (chosen_in m) 0 j)) (copies_counted f t e v) h.is)
              (body_uses e 0 t (chosen_in m) 0);
        }

      -- a body that no head sweeps to, or that doesn't use its local, leaves nothing
      module _ (m : List ℕ) where
        none : (W' : List ℕ) → W' ≡ W
            → ((f t e : Term) (φ : ℕ → Term) → BuildSite P W s r f t e → Values φ
            → ¬ (Sweeps f (lam (body e 0 t (chosen_in m) 0)) φ × (uses 0 (body e 0 t (chosen_in m) 0) ≡ true)))
            → Failed relinking P W s a (ChosenBody m) W'
        none W' q h = record {
          none = λ gs hs l z φ v.
              build_opened gs l (λ us. ¬ ChosenBody m gs us l φ)
              (λ f t e us o p. h f t e φ (build_site r gs us l f t e y o) v p.1.0) hs z;
          kept = ap (take s.top) q;
        }

        pub unused : (W' : List ℕ) → W' ≡ W → (u : Bool) → UsesTold P W s r m u → u ≡ false
            → Branched P W s a (ChosenBody m) W' None
        unfolding Branched
        unused W' q u h n = none W' q (λ f t e φ v o p. subst T (sym p.1 ∙ sym (h.is f t e v) ∙ n) tt)

      module _ (m b : List ℕ) (w : Bodied P W s r m b) where
        -- a head has at least one record, so that the target has four fewer than it may have
        body_short : (f t e : Term) → BuildSite P W s r f t e → length b + 4 * 4 ≤ target_bytes
        body_short f t e v =
            let p : length b ≡ 4 * size (body e 0 t (chosen_in m) 0) =
            ap length (w.is f t e v) ∙ encode_length (body e 0 t (chosen_in m) 0) in
            omega (arith, body_size e 0 t (chosen_in m) 0, v.target.short, v.part.some)

        body_below_lem : (f t e : Term) → BuildSite P W s r f t e → (d : ℕ) → pattern_records - suc (size f) ≤ d
            → Closed d (lam (body e 0 t (chosen_in m) 0))
        body_below_lem f t e v d h =
            closed_more (suc (pattern_records - suc (size f))) (suc d) (body e 0 t (chosen_in m) 0) (omega arith)
            (body_closed e 0 t (chosen_in m) 0 (pattern_records - suc (size f)) (omega arith) v.target.closed)

        pub body_tree : Tree b × (length b ≤ table_bytes)
        body_tree = from_build (Tree b × (length b ≤ table_bytes)) (λ gs hs l f t e z.
            let v = build_site r gs hs l f t e y z in
            (tree b (body e 0 t (chosen_in m) 0) (w.is f t e v), omega (arith, body_short f t e v)))

        suitable : (f t e : Term) → BuildSite P W s r f t e → is_eta (body e 0 t (chosen_in m) 0) ≡ false
            → Suitable (size f) (lam (body e 0 t (chosen_in m) 0))
        suitable f t e v no_eta =
            let u = v.target in
            record {
              normal = body_normal e t (chosen_in m) u.normal no_eta;
              ground = body_ground e 0 t (chosen_in m) 0 u.ground;
              few = omega (arith, u.few);
              closed = body_below_lem f t e v (pattern_records - size f) (omega (arith, u.few));
              short = omega (arith, u.short, body_size e 0 t (chosen_in m) 0);
            }

        pub pushes : StoredFits r → Pushes W s r b
        pushes o = from_build (Pushes W s r b) (λ gs hs l f t e z.
            let v = build_site r gs hs l f t e y z in
            record {
              whole = ready.bounds.whole;
              room = omega (arith, z.room, body_short f t e v);
              even = ready.bounds.even;
              easy = omega (arith, ready.bounds.easy_room, ready.bounds.top);
              easy_even = ready.bounds.easy_even;
              part = o.part;
              part_even = v.part_even;
              body = body e 0 t (chosen_in m) 0;
              table = w.is f t e v;
              few = omega (arith, v.target.short, body_size e 0 t (chosen_in m) 0);
              closed = body_below_lem f t e v pattern_records (omega arith);
            })

        pub eta : (W' : List ℕ) → W' ≡ W → (u : Bool) → Equals b is_eta u → u ≡ true → Branched P W s a (ChosenBody m) W' None
        unfolding Branched
        eta W' q u h n = none m W' q (λ f t e φ v o p.
            body_eta φ f e t (chosen_in m) v.target.normal (sym (h (body e 0 t (chosen_in m) 0) (w.is f t e v)) ∙ n) p.0)

-- the abstraction over the body is the target of the head
module _ (P W : List ℕ) (s : Agenda) (a : List Entry) (ready : Ready relinking P W s a) (x : Builds W s) (r : StoredGoal)
    (y : StoredAt W s.deferred r) (m b : List ℕ) (w : Bodied P W s r m b) (i j : Bool) (used : UsesTold P W s r m i)
    (no_eta : Equals b is_eta j) (is_used : i ≡ true) (is_none : j ≡ false) (o : StoredFits r) (X : List ℕ) (s' : Agenda)
    (p : StoredPushed W s r b X s')
  where
    -- what holds of the goal, however it is read
    pub record Facts (f t e : Term) : Type 0 where
      pub site : BuildSite P W s r f t e
      pub is : b ≡ encode (body e 0 t (chosen_in m) 0)
      pub uses_local : uses 0 (body e 0 t (chosen_in m) 0) ≡ true
      pub normal : is_eta (body e 0 t (chosen_in m) 0) ≡ false

    facts : (gs hs : List Goal) (l : Line) (f t e : Term) → BuildState P W s a gs l f t e hs → Facts f t e
    facts gs hs l f t e z =
        let v = build_site P W s a r gs hs l f t e y z in
        let q = w.is f t e v in
        record {
          site = v;
          is = q;
          uses_local = sym (used.is f t e v) ∙ is_used;
          normal = sym (no_eta (body e 0 t (chosen_in m) 0) q) ∙ is_none;
        }

    room : Pushes W s r b
    room = pushes P W s a ready x r y m b w o

    move : Move relinking P W s a (ChosenBody m) X (after_stored s r (target_end s b)) a
    move = record {
      go = λ gs hs l. build_opened P W s a ready x gs l (λ us. Moved P X (after_stored s r (target_end s b)) a (ChosenBody m gs us l))
          (λ f t e us z.
          let n = facts gs us l f t e z in
          record {
            gs = match f (lam (body e 0 t (chosen_in m) 0)) ∷ gs;
            hs = us;
            line = l;
            state = pushed_state P W s r b X ready.bounds room s' p y.next a (build f t e) gs us l f (body e 0 t (chosen_in m) 0) z
                n.is n.site.part (suitable P W s a ready x r y m b w f t e n.site n.normal)
                (listable_chosen variables (OccursIn P) f t e (chosen_in m) n.site.suits n.normal)
                (omega (arith, body_short P W s a ready x r y m b w f t e n.site));
            same = λ φ v. (λ o. ((o.1.0.0, o.0), o.1.1, o.2), λ o. (o.0.1, ((o.0.0, n.uses_local), o.1), o.2));
          }) hs;
      kept = p.kept;
      higher = omega arith;
      falls = pushed_falls P W s r b X ready.bounds room s' p y.next;
      bounds = from_build P W s a ready x (Bounds P X (after_stored s r (target_end s b))) (λ gs hs l f t e z.
          pushed_bounds P W s r b X ready.bounds room s' p y.next (facts gs hs l f t e z).site.next);
    }

    pub stored_pushed : Branched P W s a (ChosenBody m) X (Some s')
    unfolding Branched
    stored_pushed = subst (λ (u : Agenda). Move relinking P W s a (ChosenBody m) X u a) (sym p.agenda) move
