-- The ways of an application that was deferred: what each writes at the top is the goals that it leaves, and the goals that are kept stand
-- where they stood. A goal's weight covers what is written, since the parts of the application weigh less than it does. Assumes nothing.
--   ApplicationSite P W s r f b t   the stored goal r, first of those deferred, is the goal that the application of f and b sweeps to t
--   StoredBounds P W s r            what reading that goal and writing at the top needs
use mathlib.Core.Path.{◌≡◌, sym, ap, ◌∙◌, subst, subst₂}
use mathlib.Core.List.{List, [], ◌∷◌}
use Prim.Native.Nat.{ℕ, ◌+◌, ◌*◌, ◌%◌, ◌<◌, ◌≤◌}
use native.Mathlib.Omega.{arith}
use lib.ListN.{length, take}
use lib.Seq.{sets}
use Rattle.std.specs.declared.option.Option.TheVariants.{Some, None}
use Rattle.terms.specs.Figures.{variables, table_bytes, words}
use Rattle.terms.specs.Term.{Term, app, lam, loc, con, var, size}
use Rattle.terms.specs.Listing.{Line}
use Rattle.terms.specs.Refusal.{OccursIn}
use Rattle.terms.proofs.Table.{kind}
use Rattle.matching.specs.Lists.{Values}
use Rattle.matching.specs.Goals.{Goal, Goal.match, Goal.build, Listable}
use Rattle.records.specs.Parts.{slice, Part, Whole, Ends}
use Rattle.records.proofs.Slices.{whole_slice}
use Rattle.records.proofs.Parts.{application_parts, whole}
use Rattle.assignments.specs.declared.Entry.{Entry}
use Rattle.agenda.specs.declared.Agenda.{Agenda}
use Rattle.agenda.specs.declared.StoredGoal.{StoredGoal}
use Rattle.agenda.specs.declared.Ways.{Ways}
use Rattle.agenda.specs.Stored.{part_limit, stored_bytes, StoredAt, StoredFits, stored_match, stored_build}
use Rattle.agenda.specs.State.{Target, State, relinking}
use Rattle.agenda.specs.Moves.{Question, Move, Failed, Branched}
use Rattle.arguments.specs.Ways.{Way}
use Rattle.arguments.specs.Applications.{ApplicationDeferred, WaysCounted}

pub argument_from : (l : List ℕ) (at h : ℕ) (f b : Term) → Ends l (at + 4) h → Part l at (app f b) → Part l h b
argument_from l at h f b e x =
    let v = application_parts l at f b x in
    subst (λ (i : ℕ). Part l i b) (sym (e.exact f v.0)) v.1

pub record ApplicationSite (P W : List ℕ) (s : Agenda) (r : StoredGoal) (f b t : Term) : Type 0 where
  pub part : Part P r.part (app f b)
  pub target : Target W s.top (size (app f b)) r.origin r.target t
  pub suits : Listable variables (OccursIn P) (match (app f b) t)
  pub next : r.next < s.deferred
  pub part_even : r.part % 4 ≡ 0
  pub origin_even : r.origin % 4 ≡ 0
  pub target_even : r.target % 4 ≡ 0
  pub next_even : r.next % 4 ≡ 0

pub record StoredBounds (P W : List ℕ) (s : Agenda) (r : StoredGoal) : Type 0 where
  pub head : Whole P (r.part + 4)
  pub target : Whole W r.target
  pub target_low : r.target + 4 ≤ s.top
  pub part_low : r.part + 12 ≤ length P
  pub next : r.next < s.deferred
  pub room : s.top + 5832 ≤ table_bytes

module _ (P W : List ℕ) (s : Agenda) (a : List Entry) where
  abbrev pub MatchState : List Goal → Line → Term → Term → Term → List Goal → Type 0
  MatchState gs l f b t hs = State relinking P W s a gs (match (app f b) t ∷ hs) l

  pub application_site : (r : StoredGoal) (gs hs : List Goal) (l : Line) (f b t : Term) → StoredAt W s.deferred r
      → MatchState gs l f b t hs
      → ApplicationSite P W s r f b t
  application_site r gs hs l f b t y x =
      let n = x.deferred.0 in
      record {
        part = subst (λ (i : ℕ). Part P i (app f b)) (sym y.part) n.goal.part;
        target = subst₂ (λ (i k : ℕ). Target W s.top (size (app f b)) i k t) (sym y.origin) (sym y.target) n.goal.target;
        suits = n.goal.suits;
        next = omega (arith, y.next, n.falls);
        part_even = omega (arith, y.part);
        origin_even = omega (arith, y.origin);
        target_even = omega (arith, y.target);
        next_even = omega (arith, y.next);
      }

  module _ (x : ApplicationDeferred P W s a) where
    -- the first deferred goal is an application, in each state that stands there
    pub application_opened :
        (gs : List Goal) (l : Line) (Q : List Goal → Type 0)
        → ((f b t : Term) (hs : List Goal) → MatchState gs l f b t hs → Q (match (app f b) t ∷ hs))
        → (hs : List Goal) → State relinking P W s a gs hs l → Q hs
    application_opened gs l Q h [] y = absurd (omega (arith, x.some_deferred, y.deferred))
    application_opened gs l Q h (match (app f b) t ∷ hs) y = h f b t hs y
    application_opened gs l Q h (match (lam b) t ∷ hs) y = absurd y.deferred.0.kind
    application_opened gs l Q h (match (loc n) t ∷ hs) y = absurd y.deferred.0.kind
    application_opened gs l Q h (match (con n) t ∷ hs) y = absurd y.deferred.0.kind
    application_opened gs l Q h (match (var n) t ∷ hs) y = absurd y.deferred.0.kind
    application_opened gs l Q h (build f t e ∷ hs) y = absurd (y.deferred.0.goal.kind x.kind)

    -- the state that a way starts from
    pub from_application : (A : Type 0) → ((gs hs : List Goal) (l : Line) (f b t : Term) → MatchState gs l f b t hs → A) → A
    from_application A h =
        application_opened x.ready.gs x.ready.line (λ _. A) (λ f b t hs y. h x.ready.gs hs x.ready.line f b t y)
        x.ready.hs x.ready.state

    module _ (r : StoredGoal) (y : StoredAt W s.deferred r) where
      pub stored_bounds : StoredBounds P W s r
      stored_bounds = from_application (StoredBounds P W s r) (λ gs hs l f b t z.
          let v = application_site r gs hs l f b t y z in
          let u = application_parts P r.part f b v.part in
          record {
            head = whole P (r.part + 4) f u.0;
            target = whole W r.target t v.target.part;
            target_low = omega (arith, v.target.below, v.target.part.some);
            part_low = omega (arith, u.0.some, u.1.some, u.1.within);
            next = v.next;
            room = omega (arith, z.room, u.0.some, u.1.some);
          })

      -- what is known before the ways are gone through
      pub application_argument_whole : (h : ℕ) → Ends P (r.part + 4) h → Whole P h
      application_argument_whole h e =
          from_application (Whole P h) (λ gs hs l f b t z. whole P h b
          (argument_from P r.part h f b e (application_site r gs hs l f b t y z).part))

      pub argument_whole_slice : (h : ℕ) → Ends P (r.part + 4) h → Whole (slice P h) 0
      argument_whole_slice h e = whole_slice P h (application_argument_whole h e)

      pub application_target_within : r.target ≤ length W
      application_target_within = omega (arith, stored_bounds.target.least)

      pub argument_ends : (w : Ways) → WaysCounted P W s a w → Ends P (r.part + 4) w.argument
      argument_ends w c = subst (λ (i : ℕ). Ends P (i + 4) w.argument) (sym y.part) c.argument

      -- no way
      pub way_failed :
          (i : ℕ) (X : List ℕ) → take s.top X ≡ take s.top W
          → ((f b t : Term) (gs hs : List Goal) (l : Line) (φ : ℕ → Term) → ApplicationSite P W s r f b t → Values φ
          → ¬ Way i gs (match (app f b) t ∷ hs) l φ)
          → Failed relinking P W s a (Way i) X
      way_failed i X k h = record {
        none = λ gs hs l z φ v. application_opened gs l (λ us. ¬ Way i gs us l φ)
            (λ f b t us o. h f b t gs us l φ (application_site r gs us l f b t y o) v) hs z;
        kept = k;
      }

-- what a way answers
pub branch_next : (P W : List ℕ) (s : Agenda) (a : List Entry) (Q : Question) (X : List ℕ) (s' : Agenda) → Move relinking P W s a Q X s' a
    → Branched P W s a Q X (Some s')
unfolding Branched
branch_next P W s a Q X s' x = x

pub branch_failed : (P W : List ℕ) (s : Agenda) (a : List Entry) (Q : Question) (X : List ℕ) → Failed relinking P W s a Q X
    → Branched P W s a Q X None
unfolding Branched
branch_failed P W s a Q X x = x

-- a goal that is written
pub stored_as : (W Y : List ℕ) (at : ℕ) (i j : StoredGoal) → i ≡ j → Y ≡ sets W at (stored_bytes i) → Y ≡ sets W at (stored_bytes j)
stored_as W Y at i j p q = q ∙ ap (λ (k : StoredGoal). sets W at (stored_bytes k)) p

pub fits_build :
    (i : StoredGoal) (part origin target next argument : ℕ) → i ≡ stored_build part origin target next argument → part < part_limit
    → origin < 4 * words → origin ≤ target → target < origin + part_limit → next < 4 * words → argument < 4 * words → StoredFits i
fits_build i part origin target next argument p x o f y z w =
    rw p (record { part = x; origin = o; from = f; near = y; next = z; argument = w })

pub fits_match :
    (i : StoredGoal) (part origin target next : ℕ) → i ≡ stored_match part origin target next → part < part_limit → origin < 4 * words
    → origin ≤ target → target < origin + part_limit → next < 4 * words → StoredFits i
fits_match i part origin target next p x o f y z = fits_build i part origin target next 0 p x o f y z (omega arith)
