-- The step of an easy goal whose part is a local, a constant or a variable. A local and a constant sweep to themselves; a variable sweeps
-- to its value, which is the target or nothing, and an open one takes it. Assumes nothing.
use mathlib.Core.Path.{◌≡◌, refl, sym, ap, ◌∙◌, subst}
use mathlib.Core.Bool.{Bool, true, false}
use mathlib.Core.Option.{none, some}
use mathlib.Core.List.{List, ◌∷◌}
use Prim.Native.Nat.{ℕ, ◌+◌, ◌-◌, ◌*◌, ◌/◌, ◌<◌, ◌≤◌}
use native.Mathlib.Omega.{arith}
use lib.Dec.{eqb}
use lib.ListN.{length, get_or, take, drop, set, length-set}
use Rattle.terms.specs.Figures.{variables}
use Rattle.terms.specs.Term.{Term, app, lam, loc, con, var, size, Occurs, Closed, Value}
use Rattle.terms.specs.Table.{encode}
use Rattle.terms.specs.Assignment.{entry}
use Rattle.terms.specs.Refusal.{OccursIn}
use Rattle.terms.proofs.Table.{kind, number_of, encode_one}
use Rattle.terms.proofs.Tests.{by_eqb}
use Rattle.matching.specs.Lists.{Values}
use Rattle.matching.specs.Goals.{Sweeps, Goal, Goal.match, All, Listable}
use Rattle.matching.proofs.Step.{match_variable}
use Rattle.matching.proofs.Lines.{extends_entry, extends_set, assigns_set}
use Rattle.records.specs.Record.{number_at}
use Rattle.records.specs.Parts.{Part, Ends}
use Rattle.records.specs.Tests.{Says}
use Rattle.records.proofs.Parts.{part_bytes, kind_at, number_at_lem, constant_at, variable_at}
use Rattle.records.proofs.Tests.{says}
use Rattle.heights.specs.Heights.{height}
use Rattle.heights.proofs.Heights.{closed_height, height_closed, heights_first}
use Rattle.assignments.specs.declared.Span.{Span}
use Rattle.assignments.specs.declared.Entry.{Entry}
use Rattle.assignments.specs.declared.Entry.TheVariants.{Open, Assigned}
use Rattle.copying.specs.Equality.{Same}
use Rattle.substitution.proofs.Writers.{local_at}
use Rattle.assignments.specs.Held.{Held}
use Rattle.assignments.proofs.Held.{holds_open, holds_held, holds_set}
use Rattle.agenda.specs.declared.Agenda.{Agenda}
use Rattle.agenda.specs.declared.StoredGoal.{StoredGoal}
use Rattle.agenda.specs.declared.Step.TheVariants as step
use Rattle.agenda.specs.State.{heights_place}
use Rattle.steps.specs.Steps.{Stepped}
use Rattle.steps.specs.Opening.{Opens, Plain, Names, SameRecord}
use Rattle.steps.proofs.Opening.{Opened, easy_opened, step_failed, dropped}

-- locals and constants
module _ (P W : List ℕ) (i j : ℕ) (h : Plain P i) (φ : ℕ → Term) where
  record_sweeps : (p t : Term) → Part P i p → Part W j t → SameRecord P i W j → Sweeps p t φ
  record_sweeps (app f a) t x y e = absurd (h.no_application (kind_at P i (app f a) x))
  record_sweeps (lam b) t x y e = absurd (h.no_abstraction (kind_at P i (lam b) x))
  record_sweeps (loc n) t x y e =
      sym (local_at W j n t y (sym e.kind ∙ kind_at P i (loc n) x) (sym (number_at_lem P i (loc n) x) ∙ e.number))
  record_sweeps (con n) t x y e =
      sym (constant_at W j n t y (sym e.kind ∙ kind_at P i (con n) x) (sym (number_at_lem P i (con n) x) ∙ e.number))
  record_sweeps (var n) t x y e = absurd (h.no_variable (kind_at P i (var n) x))

  same_record : (p t : Term) → Part P i p → Part W j t → p ≡ t → SameRecord P i W j
  same_record p t x y e = record {
    kind = kind_at P i p x ∙ ap kind e ∙ sym (kind_at W j t y);
    number = number_at_lem P i p x ∙ ap number_of e ∙ sym (number_at_lem W j t y);
  }

  sweeps_record : (p t : Term) → Part P i p → Part W j t → Sweeps p t φ → SameRecord P i W j
  sweeps_record (app f a) t x y e = absurd (h.no_application (kind_at P i (app f a) x))
  sweeps_record (lam b) t x y e = absurd (h.no_abstraction (kind_at P i (lam b) x))
  sweeps_record (loc n) t x y e = same_record (loc n) t x y e
  sweeps_record (con n) t x y e = same_record (con n) t x y e
  sweeps_record (var n) t x y e = absurd (h.no_variable (kind_at P i (var n) x))

module _ (P W : List ℕ) (s : Agenda) (a : List Entry) (r : StoredGoal) (x : Opens P W s a r) (h : Plain P r.part) (b : Bool)
    (k : Says b (SameRecord P r.part W r.target)) where
  pub record_met : b ≡ true → Stepped P W s a W (step.Left (record { top = s.top; easy = r.next; deferred = s.deferred }))
  record_met e =
      dropped P W s a r x
      (λ gs hs l y o φ v g. record_sweeps P W r.part r.target h φ o.p o.t o.part o.target.part (says _ b true k e))

  pub record_missed : b ≡ false → Stepped P W s a W step.Failed
  record_missed e =
      step_failed P W s a r x
      (λ gs hs l y o φ v g z. says _ b false k e (sweeps_record P W r.part r.target h φ o.p o.t o.part o.target.part z))

-- a variable's number
pub variable_below : (P W : List ℕ) (s : Agenda) (a : List Entry) (r : StoredGoal) → Opens P W s a r → get_or P r.part 0 ≡ 4
    → number_at P r.part < variables
variable_below P W s a r x k =
    let y = x.ready in
    let o = easy_opened P W s a r x.some x.stored_goal y.gs y.hs y.line y.state in
    let e = variable_at P r.part (number_at P r.part) o.p o.part k refl in
    let h : Listable variables (OccursIn P) (match (var (number_at P r.part)) o.t) =
    subst (λ (p : Term). Listable variables (OccursIn P) (match p o.t)) e o.suits in
    h.0.0

pub names_of : (P W : List ℕ) (s : Agenda) (a : List Entry) (r : StoredGoal) (i : ℕ) → Opens P W s a r → get_or P r.part 0 ≡ 4
    → i ≡ number_at P r.part → Names P W s a r i
names_of P W s a r i x k e = record { opens = x; kind = k; number = e; below = omega (arith, variable_below P W s a r x k) }

-- what both entries give
module _ (P W : List ℕ) (s : Agenda) (a : List Entry) (r : StoredGoal) (i : ℕ) (x : Names P W s a r i) where
  names : (gs hs : List Goal) → (o : Opened P W s r gs hs) → o.p ≡ var i
  names gs hs o = variable_at P r.part i o.p o.part x.kind x.number

  value_is : (gs hs : List Goal) (o : Opened P W s r gs hs) (φ : ℕ → Term) → Values φ → Sweeps o.p o.t φ → φ i ≡ o.t
  value_is gs hs o φ v z = (match_variable φ i o.t (v i)).0 (subst (λ (p : Term). Sweeps p o.t φ) (names gs hs o) z)

  is_value : (gs hs : List Goal) (o : Opened P W s r gs hs) (φ : ℕ → Term) → Values φ → φ i ≡ o.t → Sweeps o.p o.t φ
  is_value gs hs o φ v z = subst (λ (p : Term). Sweeps p o.t φ) (sym (names gs hs o)) ((match_variable φ i o.t (v i)).1 z)

  -- the height that is kept of the target
  kept_height : (gs hs : List Goal) (o : Opened P W s r gs hs) (h : ℕ) → h ≡ heights_place r.origin r.target
      → get_or W h 0 ≡ height o.t
  kept_height gs hs o h e =
      ap (λ (j : ℕ). get_or W j 0) e ∙ heights_first W (heights_place r.origin r.target) o.t o.target.heights.heights

  closed_none : (t : Term) → Closed 0 t → height t ≡ 0
  closed_none t c = omega (arith, closed_height 0 t c)

  -- the target isn't closed
  pub open_missed : (h : ℕ) → h ≡ heights_place r.origin r.target → ¬ (get_or W h 0 ≡ 0) → Stepped P W s a W step.Failed
  open_missed h e n =
      step_failed P W s a r x.opens (λ gs hs l y o φ v g z.
      n (kept_height gs hs o h e ∙ closed_none o.t (subst (Closed 0) (value_is gs hs o φ v z) (v i).0)))

  -- it is, and the variable takes it
  pub open_met :
      (h end : ℕ) → h ≡ heights_place r.origin r.target → get_or W h 0 ≡ 0 → Ends W r.target end → get_or a i Open ≡ Open
      → Stepped P W s a W (step.Assign (record {
        variable = i;
        span = record { first = r.target / 4; count = (end - r.target) / 4 };
        agenda = record { top = s.top; easy = r.next; deferred = s.deferred };
      }))
  unfolding Stepped
  open_met h end e z m q = (
    x.below,
    record {
      go = λ gs hs l y.
          let o = easy_opened P W s a r x.opens.some x.opens.stored_goal gs hs l y in
          let closed = height_closed 0 o.t (omega (arith, kept_height gs hs o h e, z)) in
          let value : Value o.t = (closed, o.target.normal, o.target.ground) in
          let first : 4 * (r.target / 4) ≡ r.target = omega (arith, x.opens.target_even) in
          let count : (end - r.target) / 4 ≡ size o.t = omega (arith, m.exact o.t o.target.part) in
          let free : entry l i ≡ none = holds_open W s.top a l i y.entries q in
          let within : i < length l = omega (arith, y.line, x.below) in
          let occurs : OccursIn P i = o.suits.0.1 i (subst (λ (p : Term). Occurs i p) (sym (names gs hs o)) refl) in
          record {
            gs = o.rest;
            hs = hs;
            line = set l i (some o.t);
            state = record {
              easy = o.chain;
              deferred = y.deferred;
              entries =
                  holds_set W s.top a l i (Assigned (record { first = r.target / 4; count = (end - r.target) / 4 })) (some o.t)
                  (record {
                    part = subst (λ (j : ℕ). Part W j o.t) (sym first) o.target.part;
                    count = count;
                    below = omega (arith, o.target.below);
                    most = omega (arith, o.target.short);
                    value = value;
                  })
                  y.entries;
              line = length-set l i (some o.t) ∙ y.line;
              assigns = assigns_set (OccursIn P) l i o.t occurs value y.assigns;
              room = omega (arith, o.room);
            };
            same = λ φ v.
                let g = extends_set φ l i o.t within free in (
                  λ z.
                      let u : All (match o.p o.t ∷ o.rest) φ = subst (λ (h : List Goal). All h φ) o.is z.0 in
                      (u.1, z.1, g.1 (value_is gs hs o φ v u.0, z.2)),
                  λ z.
                      let u = g.0 z.2 in
                      (subst (λ (h : List Goal). All h φ) (sym o.is) (is_value gs hs o φ v u.0, z.0), z.1, u.1),
                );
          };
      kept = refl;
      higher = omega arith;
      falls = omega (arith, x.opens.falls);
      bounds = let b = x.opens.ready.bounds in record {
        whole = b.whole;
        short = b.short;
        top = b.top;
        start = b.start;
        even = b.even;
        easy_room = omega (arith, b.easy_room, x.opens.falls);
        easy_even = x.opens.next_even;
        deferred_room = b.deferred_room;
        deferred_even = b.deferred_even;
      };
    },
  )

  -- the value that it has already
  module _ (n : Span) (q : get_or a i Open ≡ Assigned n) where
    pub held_room : 4 * (n.first + n.count) ≤ length W
    held_room =
        let y = x.opens.ready in
        let h = holds_held W s.top a y.line i n y.state.entries q in
        omega (arith, h.2.below, y.bounds.top, y.bounds.whole)

    module _ (end : ℕ) (m : Ends W r.target end) (b : Bool)
        (k : Same (take (4 * n.count) (drop (4 * n.first) W)) (take (end - r.target) (drop r.target W)) b) where
      bytes_of : (v t : Term) → Held W s.top n v → Part W r.target t
          → (take (4 * n.count) (drop (4 * n.first) W) ≡ encode v) × (take (end - r.target) (drop r.target W) ≡ encode t)
      bytes_of v t h y = (
        part_bytes W (4 * n.first) (4 * n.count) v h.part (ap (4 *◌) h.count),
        part_bytes W r.target (end - r.target) t y (omega (arith, m.exact t y)),
      )

      pub held_met : b ≡ true → Stepped P W s a W (step.Left (record { top = s.top; easy = r.next; deferred = s.deferred }))
      unfolding Same
      held_met e =
          let f : Same (take (4 * n.count) (drop (4 * n.first) W)) (take (end - r.target) (drop r.target W)) true =
          subst (Same _ _) e k in
          dropped P W s a r x.opens (λ gs hs l y o φ v g.
          let h = holds_held W s.top a l i n y.entries q in
          let c = bytes_of h.0 o.t h.2 o.target.part in
          is_value gs hs o φ v (extends_entry φ l i h.0 h.1 g ∙ encode_one h.0 o.t (sym c.0 ∙ f ∙ c.1)))

      pub held_missed : b ≡ false → Stepped P W s a W step.Failed
      unfolding Same
      held_missed e =
          let f : Same (take (4 * n.count) (drop (4 * n.first) W)) (take (end - r.target) (drop r.target W)) false =
          subst (Same _ _) e k in
          step_failed P W s a r x.opens (λ gs hs l y o φ v g z.
          let h = holds_held W s.top a l i n y.entries q in
          let c = bytes_of h.0 o.t h.2 o.target.part in
          f (c.0 ∙ ap encode (sym (extends_entry φ l i h.0 h.1 g) ∙ value_is gs hs o φ v z) ∙ sym c.1))
