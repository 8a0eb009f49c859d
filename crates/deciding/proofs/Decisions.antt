-- A deferred goal whose part has one swept form, whatever assignment extends the line: comparing that form with the goal's targets shows
-- whether every such assignment meets the goal, or none. From the laws of matching for a known form, applied in every state that stands
-- there. Assumes nothing.
--   part_of g         the part of the pattern that the goal g is about
--   GoalPart P r g   that part stands where the stored goal r says, and its variables have entries
--   SweptForm b      b is the table of that part's swept form, for every assignment that extends the line
use mathlib.Core.Path.{◌≡◌, refl, sym, ap, ◌∙◌, subst}
use mathlib.Core.Bool.{Bool, true, false}
use mathlib.Core.Option.{some}
use mathlib.Core.List.{List, [], ◌∷◌}
use mathlib.Core.Logic.{◌↔◌}
use Prim.Native.Nat.{ℕ, suc, ◌+◌, ◌-◌, ◌*◌, ◌/◌, ◌%◌, ◌<◌, ◌≤◌}
use native.Mathlib.Omega.{arith}
use lib.ListN.{length, get_or, take, drop}
use Rattle.std.specs.Bool.{MatchBool}
use Rattle.terms.specs.Figures.{variables, pattern_records, table_bytes}
use Rattle.terms.specs.Term.{Term, size, Below}
use Rattle.terms.specs.Sweep.{sweep, fill}
use Rattle.terms.specs.Table.{encode}
use Rattle.terms.specs.Assignment.{entry}
use Rattle.terms.specs.Listing.{Line}
use Rattle.terms.proofs.Table.{encode_one}
use Rattle.terms.proofs.Occurs.{occurs_below}
use Rattle.terms.proofs.Substitute.{size_pos}
use Rattle.matching.specs.Lists.{Values, Extends}
use Rattle.matching.specs.Goals.{Goal, Goal.match, Goal.build, Meets}
use Rattle.matching.proofs.Known.{known_match, known_build}
use Rattle.records.specs.Record.{number_at}
use Rattle.records.specs.Parts.{slice, Part, Whole, Ends}
use Rattle.records.specs.Tests.{Says, Tells}
use Rattle.records.proofs.Parts.{part_bytes, whole, at_start}
use Rattle.records.proofs.Slices.{part_slice, whole_slice, slice_length}
use Rattle.assignments.specs.declared.Span.{Span}
use Rattle.assignments.specs.declared.Entry.{Entry}
use Rattle.assignments.specs.declared.Entry.TheVariants.{Open, Assigned}
use Rattle.assignments.specs.Entries.{Given, Mentions}
use Rattle.assignments.proofs.Entries.{open_span, occurs_mentions, mentions_occurs}
use Rattle.copying.specs.Equality.{Same}
use Rattle.sweeping.specs.Swept.{swept_bytes}
use Rattle.assignments.specs.Held.{Holds}
use Rattle.agenda.specs.declared.Agenda.{Agenda}
use Rattle.agenda.specs.declared.Decision.{Decision}
use Rattle.agenda.specs.declared.StoredGoal.{StoredGoal}
use Rattle.agenda.specs.Stored.{StoredAt}
use Rattle.agenda.specs.State.{goal_bytes, GoalAt, State, Sat, Bounds, Ready, Target, Easy, Deferred, Chain, weights, relinking}
use Rattle.agenda.specs.Moves.{Move, Moved, Decided}
use Rattle.builds.specs.Builds.{Solving, Solved}
use Rattle.deciding.specs.Deciding.{HasEntries, OpenAt, AllAssigned, Comparing, FormCompared}
use Rattle.agenda.proofs.Frame.{Kept, chain_kept, holds_kept}
use Rattle.assignments.proofs.Held.{holds_held}

-- the variables of a table, record by record
module _ (l : List ℕ) (k : ℕ) (h : 4 * k + 4 ≤ length l) where
  mention : get_or l (4 * k) 0 ≡ 4 → Mentions l (number_at l (4 * k))
  mention e = record { index = k; within = h; is = record { kind = e; number = refl } }

  pub entry_low : (i : ℕ) → HasEntries l → get_or l (4 * k) 0 ≡ 4 → i ≡ number_at l (4 * k) → i < variables
  entry_low i x e q = omega (
    arith,
    occurs_below variables (number_at l (4 * k)) x.tree x.below
        (mentions_occurs l (number_at l (4 * k)) x.tree x.bytes (mention e)),
  )

  pub open_here : (a : List Entry) → OpenAt l a k → Tells l (AllAssigned a) false
  open_here a o t b all = all (number_at l (4 * k)) (mentions_occurs l (number_at l (4 * k)) t b (mention o.kind)) o.is

pub none_open : (l : List ℕ) (a : List Entry) → ((j : ℕ) → j < length l / 4 → ¬ OpenAt l a j) → Tells l (AllAssigned a) true
none_open l a f t b i o z =
    let m = occurs_mentions l i t b o in
    f m.index (omega (arith, m.within)) (record { kind = m.is.kind; is = ap (λ (j : ℕ). get_or a j Open) m.is.number ∙ z })

pub entry_open_at : (l : List ℕ) (a : List Entry) (k i : ℕ) → get_or l (4 * k) 0 ≡ 4 → i ≡ number_at l (4 * k)
    → get_or a i Open ≡ Open → OpenAt l a k
entry_open_at l a k i e q o = record { kind = e; is = ap (λ (j : ℕ). get_or a j Open) (sym q) ∙ o }

pub assigned_not_open : (l : List ℕ) (a : List Entry) (k i : ℕ) (x : Span) → i ≡ number_at l (4 * k)
    → get_or a i Open ≡ Assigned x → ¬ OpenAt l a k
assigned_not_open l a k i x q e o = open_span (sym o.is ∙ ap (λ (j : ℕ). get_or a j Open) (sym q) ∙ e)

pub assigned_told : (l : List ℕ) (a : List Entry) (r : Bool)
    → MatchBool r ((k : ℕ) → k < length l / 4 → ¬ OpenAt l a k) ((k : ℕ) × (k < length l / 4) × OpenAt l a k)
    → Tells l (AllAssigned a) r
assigned_told l a true h = none_open l a h
assigned_told l a false h = open_here l h.0 (omega (arith, h.1)) a h.2

-- the swept form against the targets
module _ (W : List ℕ) (r : StoredGoal) (b : List ℕ) (x : Comparing W r b) where
  pub compared_match : r.argument ≡ 0 → (end : ℕ) (q : Bool) → Ends W r.target end
      → Same b (take (end - r.target) (drop r.target W)) q → FormCompared W r b q
  unfolding Same
  compared_match k end q m c = record {
    matches = λ _ x t e y. go q c x t e (part_bytes W r.target (end - r.target) t y (omega (arith, m.exact t y)));
    builds = λ n. absurd (n k);
  }
    where
      go : (q : Bool) → Same b (take (end - r.target) (drop r.target W)) q → (x t : Term) → b ≡ encode x
          → take (end - r.target) (drop r.target W) ≡ encode t → Says q (x ≡ t)
      go true c x t e f = encode_one x t (sym e ∙ c ∙ f)
      go false c x t e f = λ z. c (e ∙ ap encode z ∙ sym f)

  module _ (n : ¬ (r.argument ≡ 0)) where
    pub deferred_argument_within : r.argument ≤ length W
    deferred_argument_within = omega (arith, (x.argument n).least)

    pub solving_swept : Solving b (slice W r.argument) (slice W r.target)
    solving_swept = record {
      head = whole b 0 x.tree (at_start b x.tree x.bytes);
      argument = whole_slice W r.argument (x.argument n);
      target = whole_slice W r.target x.target;
      head_most = omega (arith, x.most);
      target_most = omega (arith, slice_length W r.target, x.whole);
    }

    pub compared_build : (q : Bool) → Solved b (slice W r.argument) (slice W r.target) q → FormCompared W r b q
    compared_build q d = record {
      matches = λ k. absurd (n k);
      builds = λ _ y e t g v w.
          d.is y e t (at_start b y g) (part_slice W r.argument e v) (part_slice W r.target t w);
    }

abbrev pub part_of : Goal → Term
part_of (match p t) = p
part_of (build f t e) = f

pub record GoalPart (P : List ℕ) (r : StoredGoal) (g : Goal) : Type 0 where
  pub part : Part P r.part (part_of g)
  pub below : Below variables (part_of g)

-- the value of a variable that is assigned
pub held_given :
    (P W : List ℕ) (s : Agenda) (a : List Entry) (l : Line) → Bounds P W s → Holds W s.top a l
    → (i : ℕ) (n : Span) → get_or a i Open ≡ Assigned n → (v : Term) × (entry l i ≡ some v) × Given W a i v
held_given P W s a l bounds h i n q =
    let k = holds_held W s.top a l i n h q in (
      k.0,
      k.1,
      record {
        span = n;
        is = q;
        most = omega (arith, k.2.count, k.2.most);
        within = omega (arith, k.2.below, bounds.top, bounds.whole);
        bytes = part_bytes W (4 * n.first) (4 * n.count) k.0 k.2.part (ap (4 *◌) k.2.count);
        value = k.2.value;
      },
    )

module _ (P W : List ℕ) (s : Agenda) (a : List Entry) (ready : Ready relinking P W s a) (deferred : 0 < s.deferred) (r : StoredGoal)
    (y : StoredAt W s.deferred r) where
  abbrev pub GoalOpened : List Goal → Line → Goal → List Goal → Type 0
  GoalOpened gs l g hs = State relinking P W s a gs (g ∷ hs) l

  pub deferred_opened : (gs : List Goal) (l : Line) (Q : List Goal → Type 0)
      → ((g : Goal) (hs : List Goal) → GoalOpened gs l g hs → Q (g ∷ hs))
      → (hs : List Goal) → State relinking P W s a gs hs l → Q hs
  deferred_opened gs l Q h [] x = absurd (omega (arith, deferred, x.deferred))
  deferred_opened gs l Q h (g ∷ hs) x = h g hs x

  pub from_deferred : (A : Type 0) → ((gs hs : List Goal) (l : Line) (g : Goal) → GoalOpened gs l g hs → A) → A
  from_deferred A h =
      deferred_opened ready.gs ready.line (λ _. A) (λ g hs x. h ready.gs hs ready.line g x) ready.hs ready.state

  pub put : (g : Goal) → GoalAt P W s.top s.deferred g → GoalPart P r g
  put (match p t) x = record { part = subst (λ (i : ℕ). Part P i p) (sym y.part) x.part; below = x.suits.0.0 }
  put (build f t e) x = record { part = subst (λ (i : ℕ). Part P i f) (sym y.part) x.part; below = x.suits.0.0 }

  part_whole : Whole P r.part
  part_whole = from_deferred (Whole P r.part) (λ gs hs l g x. whole P r.part (part_of g) (put g x.deferred.0.goal).part)

  pub deferred_part_within : r.part ≤ length P
  deferred_part_within = omega (arith, part_whole.least)

  pub walkable : Whole (slice P r.part) 0 × (pattern_records + length (slice P r.part) ≤ table_bytes)
  walkable = (whole_slice P r.part part_whole, omega (arith, ready.bounds.short, slice_length P r.part))

  pub record SweptForm (b : List ℕ) : Type 0 where
    pub tree : Term
    pub bytes : b ≡ encode tree
    pub most : length b ≤ swept_bytes
    pub is : (gs hs : List Goal) (l : Line) (g : Goal) → GoalOpened gs l g hs → (φ : ℕ → Term) → Values φ → Extends φ l
        → sweep (fill φ (part_of g)) ≡ tree

  -- the swept form against the goal
  module _ (b : List ℕ) (f : SweptForm b) where
    stands : (k b i j : ℕ) (t : Term) → i ≡ j → Target W s.top k b j t → Part W i t
    stands k b i j t p x = subst (λ (m : ℕ). Part W m t) (sym p) x.part

    comparable : (gs hs : List Goal) (l : Line) (g : Goal) → GoalOpened gs l g hs → Comparing W r b
    comparable gs hs l (match u v) x =
        let k = x.deferred.0.goal in
        record {
          tree = f.tree;
          bytes = f.bytes;
          most = f.most;
          whole = ready.bounds.whole;
          target = whole W r.target v (stands (size u) _ r.target _ v y.target k.target);
          argument = λ d. absurd (d (y.argument ∙ k.kind));
        }
    comparable gs hs l (build u v w) x =
        let k = x.deferred.0.goal in
        record {
          tree = f.tree;
          bytes = f.bytes;
          most = f.most;
          whole = ready.bounds.whole;
          target = whole W r.target v (stands (suc (size u)) _ r.target _ v y.target k.target);
          argument = λ d. whole W r.argument w (stands (suc (size u)) _ r.argument _ w y.argument k.argument);
        }

    pub deferred_comparing : Comparing W r b
    deferred_comparing = from_deferred (Comparing W r b) comparable

    module _ (u : Bool) (m : FormCompared W r b u) where
      says_same : (A B : Type 0) (i : Bool) → B ↔ A → Says i A → Says i B
      says_same A B true e x = e.1 x
      says_same A B false e x = λ v. x (e.0 v)

      verdict : (gs hs : List Goal) (l : Line) (g : Goal) → GoalOpened gs l g hs → (φ : ℕ → Term) → Values φ → Extends φ l
          → Says u (Meets g φ)
      verdict gs hs l (match p t) x φ v k =
          let c = x.deferred.0.goal in
          says_same _ _ u (known_match φ p f.tree (f.is gs hs l (match p t) x φ v k) t)
          (m.matches (y.argument ∙ c.kind) f.tree t f.bytes (stands (size p) _ r.target _ t y.target c.target))
      verdict gs hs l (build p t e) x φ v k =
          let c = x.deferred.0.goal in
          says_same _ _ u (known_build φ p f.tree (f.is gs hs l (build p t e) x φ v k) t e)
          (m.builds (λ d. c.kind (sym y.argument ∙ d)) f.tree e t f.bytes
          (stands (suc (size p)) _ r.argument _ e y.argument c.argument)
          (stands (suc (size p)) _ r.target _ t y.target c.target))

      pub known_failed : u ≡ false → Decided relinking P W s a W Decision.Failed
      unfolding Decided
      known_failed false_is = record {
        none = λ gs hs l z φ v. deferred_opened gs l (λ us. ¬ Sat gs us l φ) (λ g us x k.
            subst (λ (i : Bool). Says i (Meets g φ)) false_is (verdict gs us l g x φ v k.2) k.1.0) hs z;
        kept = refl;
      }

      abbrev next : Agenda
      next = record { top = s.top + 4; easy = s.easy; deferred = r.next }

      kept_below : Kept W W s.top
      kept_below = record {
        same = refl;
        from = omega (arith, ready.bounds.whole, ready.bounds.top);
        to = omega (arith, ready.bounds.whole, ready.bounds.top);
      }

      spare : (gs hs : List Goal) (g : Goal) → s.top + weights goal_bytes gs + weights 0 (g ∷ hs) ≤ table_bytes + relinking
          → s.top + 4 + weights goal_bytes gs + weights 0 hs ≤ table_bytes
      spare gs hs (match p t) x = omega (arith, x, size_pos p)
      spare gs hs (build f t e) x = omega (arith, x, size_pos f)

      move : u ≡ true → Move relinking P W s a Sat W next a
      move true_is = record {
        go = λ gs hs l. deferred_opened gs l (λ us. Moved P W next a (Sat gs us l)) (λ g us x.
            record {
              gs = gs;
              hs = us;
              line = l;
              state = record {
                easy = chain_kept W W s.top kept_below (s.top + 4) (omega arith) P Easy s.easy gs x.easy;
                deferred = chain_kept W W s.top kept_below (s.top + 4) (omega arith) P Deferred r.next us
                    (subst (λ (i : ℕ). Chain Deferred P W s.top i us) (sym y.next) x.deferred.1);
                entries = holds_kept W W s.top kept_below (s.top + 4) (omega arith) a l x.entries;
                line = x.line;
                assigns = x.assigns;
                room = omega (arith, spare gs us g x.room);
              };
              same = λ φ v. (
                λ k. (k.0, k.1.1, k.2),
                λ k. (k.0, (subst (λ (i : Bool). Says i (Meets g φ)) true_is (verdict gs us l g x φ v k.2), k.1), k.2),
              );
            }) hs;
        kept = refl;
        higher = omega arith;
        falls = omega (arith, top_low);
        bounds = record {
          whole = ready.bounds.whole;
          short = ready.bounds.short;
          top = top_low;
          start = omega (arith, ready.bounds.start);
          even = omega (arith, ready.bounds.even);
          easy_room = omega (arith, ready.bounds.easy_room);
          easy_even = ready.bounds.easy_even;
          deferred_room = omega (arith, next_low.0, ready.bounds.deferred_room);
          deferred_even = next_low.1;
        };
      }
        where
          top_low : s.top + 4 ≤ table_bytes
          top_low = from_deferred (s.top + 4 ≤ table_bytes) (λ gs hs l g x. omega (arith, spare gs hs g x.room))

          next_low : (r.next < s.deferred) × (r.next % 4 ≡ 0)
          next_low = from_deferred ((r.next < s.deferred) × (r.next % 4 ≡ 0))
              (λ gs hs l g x. (omega (arith, y.next, x.deferred.0.falls), omega (arith, y.next)))

      pub known_next : u ≡ true
          → Decided relinking P W s a W (Decision.Next (record { top = s.top + 4; easy = s.easy; deferred = r.next }))
      unfolding Decided
      known_next true_is = move true_is

-- the test doesn't apply
pub undecided : (P W : List ℕ) (s : Agenda) (a : List Entry) → Decided relinking P W s a W Decision.Open
unfolding Decided
undecided P W s a = refl
