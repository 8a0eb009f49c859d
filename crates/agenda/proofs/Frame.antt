-- What stands below `top` stays where the bytes below it are kept, and a goal that is written above it can be read. From the bytes that
-- are kept a part is read again, and the rest follows goal by goal. Assumes nothing.
--   Kept W X top   the bytes of W and X below `top` are the same
use mathlib.Core.Path.{◌≡◌, sym, ap, ap₂, ◌∙◌, subst, subst₂}
use mathlib.Core.Option.{Option, none, some}
use mathlib.Core.List.{List, [], ◌∷◌, ◌++◌, append_assoc}
use Prim.Native.Nat.{ℕ, suc, ◌+◌, ◌*◌, ◌%◌, ◌<◌, ◌≤◌}
use native.Mathlib.Omega.{arith}
use lib.ListN.{length, get_or, take, drop, take-append-drop}
use lib.Seq.{sets, sets-eq, take-take, take-add, take_at, drop_at, length-sets, length-take-le, get_or-take}
use Rattle.terms.specs.Term.{Term, size}
use Rattle.terms.specs.Figures.{variables}
use Rattle.terms.specs.Table.{encode}
use Rattle.terms.specs.Listing.{Line}
use Rattle.terms.specs.Layout.{word_at}
use Rattle.terms.specs.Refusal.{OccursIn}
use Rattle.terms.proofs.Table.{encode_length}
use Rattle.matching.specs.Goals.{Goal, Goal.match, Goal.build, Listable}
use Rattle.records.specs.Parts.{Part}
use Rattle.records.proofs.Parts.{part}
use Rattle.heights.specs.Heights.{heights, HeightsAt}
use Rattle.heights.proofs.Heights.{heights_length}
use Rattle.copying.proofs.Stores.{take_sets, get_or_stored}
use Rattle.assignments.specs.declared.Entry.{Entry}
use Rattle.assignments.specs.declared.Entry.TheVariants.{Open, Assigned}
use Rattle.assignments.specs.Held.{EntryHeld, Holds}
use Rattle.agenda.specs.declared.Agenda.{Agenda}
use Rattle.agenda.specs.declared.StoredGoal.{StoredGoal}
use Rattle.agenda.specs.Stored.{stored_bytes, StoredAt}
use Rattle.agenda.specs.State.{goal_bytes, heights_place, HeightsBeside, Target, GoalAt, Chain, State}
use Rattle.agenda.specs.State.{origin_at, target_at, next_at, argument_at}

pub byte_below : (W X : List ℕ) (top i : ℕ) → i < top → take top X ≡ take top W → get_or X i 0 ≡ get_or W i 0
byte_below W X top i h e = sym (get_or-take top X i 0 h) ∙ ap (λ (l : List ℕ). get_or l i 0) e ∙ get_or-take top W i 0 h

pub record Kept (W X : List ℕ) (top : ℕ) : Type 0 where
  pub same : take top X ≡ take top W
  pub from : top ≤ length W
  pub to : top ≤ length X

-- bytes below top
module _ (W X : List ℕ) (top : ℕ) (k : Kept W X top) where
  bytes_kept : (at n : ℕ) → at + n ≤ top → take n (drop at X) ≡ take n (drop at W)
  bytes_kept at n h =
      sym (cut X k.to)
      ∙ ap (drop at) (sym (take-take (at + n) top X h) ∙ ap (take (at + n)) k.same ∙ take-take (at + n) top W h) ∙ cut W k.from
    where
      cut : (l : List ℕ) → top ≤ length l → drop at (take (at + n) l) ≡ take n (drop at l)
      cut l c = ap (drop at) (take-add at n l) ∙ drop_at (take at l) (take n (drop at l)) at (length-take-le at l (omega arith))

  pub part_kept : (at : ℕ) (t : Term) → at + 4 * size t ≤ top → Part W at t → Part X at t
  part_kept at t h x =
      let q : take (4 * size t) (drop at X) ≡ encode t =
      bytes_kept at (4 * size t) h ∙ ap (take (4 * size t)) x.bytes ∙ take_at (encode t) x.rest (4 * size t) (encode_length t) in
      part X at t (drop (4 * size t) (drop at X))
      (sym (take-append-drop (4 * size t) (drop at X)) ∙ ap (◌++ drop (4 * size t) (drop at X)) q)

  pub byte_kept : (i : ℕ) → i < top → get_or X i 0 ≡ get_or W i 0
  byte_kept i h = byte_below W X top i h k.same

  pub word_kept : (i : ℕ) → i + 2 ≤ top → word_at X i ≡ word_at W i
  word_kept i h = ap₂ (λ (x y : ℕ). x * 256 + y) (byte_kept i (omega arith)) (byte_kept (i + 1) (omega arith))

  pub next_kept : (at : ℕ) → at + goal_bytes ≤ top → next_at X at ≡ next_at W at
  next_kept at h = ap (4 *◌) (word_kept (at + 4) (omega arith))

  origin_kept : (at : ℕ) → at + goal_bytes ≤ top → origin_at X at ≡ origin_at W at
  origin_kept at h = ap (4 *◌) (word_kept (at + 2) (omega arith))

  target_at_kept : (at : ℕ) → at + goal_bytes ≤ top → target_at X at ≡ target_at W at
  target_at_kept at h = ap₂ (λ (x y : ℕ). x + 4 * y) (origin_kept at h) (byte_kept (at + 1) (omega arith))

  argument_kept : (at : ℕ) → at + goal_bytes ≤ top → argument_at X at ≡ argument_at W at
  argument_kept at h = ap (4 *◌) (word_kept (at + 6) (omega arith))

  heights_kept : (i : ℕ) (t : Term) → i + size t ≤ top → HeightsAt W i t → HeightsAt X i t
  heights_kept i t h x = record {
    rest = drop (size t) (drop i X);
    bytes = sym (take-append-drop (size t) (drop i X))
        ∙ ap (◌++ drop (size t) (drop i X)) (bytes_kept i (size t) h ∙ ap (take (size t)) x.bytes
        ∙ take_at (heights t) x.rest (size t) (heights_length t));
  }

  module _ (higher : ℕ) (up : top ≤ higher) where
    beside_kept : (b at : ℕ) (t : Term) → at + 4 * size t ≤ top → HeightsBeside W b at t → HeightsBeside X b at t
    beside_kept b at t h x = record {
      low = x.low;
      from = x.from;
      within = x.within;
      heights = heights_kept (heights_place b at) t (omega (arith, x.low, x.from, x.within)) x.heights;
    }

    pub target_kept : (n b at : ℕ) (t : Term) → Target W top n b at t → Target X higher n b at t
    target_kept n b at t x = record {
      part = part_kept at t x.below x.part;
      below = omega (arith, x.below);
      normal = x.normal;
      ground = x.ground;
      few = x.few;
      closed = x.closed;
      short = x.short;
      heights = beside_kept b at t x.below x.heights;
    }

    module _ (P : List ℕ) where
      goal_kept : (at : ℕ) (g : Goal) → at + goal_bytes ≤ top → GoalAt P W top at g → GoalAt P X higher at g
      goal_kept at (match p t) h x = record {
        kind = argument_kept at h ∙ x.kind;
        part = subst (λ (i : ℕ). Part P (4 * i) p) (sym (byte_kept at (omega arith))) x.part;
        target = subst₂ (λ (b i : ℕ). Target X higher (size p) b i t) (sym (origin_kept at h)) (sym (target_at_kept at h))
            (target_kept (size p) (origin_at W at) (target_at W at) t x.target);
        suits = x.suits;
      }
      goal_kept at (build f t e) h x = record {
        kind = λ i. x.kind (sym (argument_kept at h) ∙ i);
        part = subst (λ (i : ℕ). Part P (4 * i) f) (sym (byte_kept at (omega arith))) x.part;
        target = subst₂ (λ (b i : ℕ). Target X higher (suc (size f)) b i t) (sym (origin_kept at h)) (sym (target_at_kept at h))
            (target_kept (suc (size f)) (origin_at W at) (target_at W at) t x.target);
        argument = subst (λ (i : ℕ). Target X higher (suc (size f)) i i e) (sym (argument_kept at h))
            (target_kept (suc (size f)) (argument_at W at) (argument_at W at) e x.argument);
        suits = x.suits;
      }

      pub chain_kept : (K : Goal → Type 0) (at : ℕ) (gs : List Goal) → Chain K P W top at gs → Chain K P X higher at gs
      chain_kept K at [] x = x
      chain_kept K at (g ∷ gs) x =
          let n = x.0 in
          let e = next_kept at n.room in (
            record {
              kind = n.kind;
              low = n.low;
              room = omega (arith, n.room);
              even = n.even;
              falls = omega (arith, n.falls, e);
              goal = goal_kept at g n.room n.goal;
            },
            subst (λ (i : ℕ). Chain K P X higher i gs) (sym e) (chain_kept K (next_at W at) gs x.1),
          )

    entry_kept : (e : Entry) (o : Option Term) → EntryHeld W top e o → EntryHeld X higher e o
    entry_kept Open none x = x
    entry_kept Open (some v) x = x
    entry_kept (Assigned s) none x = x
    entry_kept (Assigned s) (some v) x = record {
      part = part_kept (4 * s.first) v (omega (arith, x.below, x.count)) x.part;
      count = x.count;
      below = omega (arith, x.below);
      most = x.most;
      value = x.value;
    }

    pub holds_kept : (a : List Entry) (l : Line) → Holds W top a l → Holds X higher a l
    holds_kept [] [] x = x
    holds_kept [] (o ∷ l) x = x
    holds_kept (e ∷ a) [] x = x
    holds_kept (e ∷ a) (o ∷ l) x = (entry_kept e o x.0, holds_kept a l x.1)

-- a state stays where the bytes below its top do
pub state_kept :
    (k : ℕ) (P W X : List ℕ) (s : Agenda) (a : List Entry) (gs hs : List Goal) (l : Line) → Kept W X s.top
    → State k P W s a gs hs l → State k P X s a gs hs l
state_kept n P W X s a gs hs l k x = record {
  easy = chain_kept W X s.top k s.top (omega arith) P _ s.easy gs x.easy;
  deferred = chain_kept W X s.top k s.top (omega arith) P _ s.deferred hs x.deferred;
  entries = holds_kept W X s.top k s.top (omega arith) a l x.entries;
  line = x.line;
  assigns = x.assigns;
  room = x.room;
}

-- a part that was stored
pub part_stored : (t : Term) (l : List ℕ) (at : ℕ) → at + 4 * size t ≤ length l → Part (sets l at (encode t)) at t
part_stored t l at h =
    part (sets l at (encode t)) at t (drop (at + length (encode t)) l)
    (ap (drop at)
    (sets-eq (encode t) l at (omega (arith, encode_length t)) ∙ append_assoc (take at l) (encode t) (drop (at + length (encode t)) l))
    ∙ drop_at (take at l) (encode t ++ drop (at + length (encode t)) l) at (length-take-le at l (omega arith)))

-- storing at or above top keeps what is below
pub kept_sets : (vs W X : List ℕ) (at top : ℕ) → X ≡ sets W at vs → top ≤ at → top ≤ length W → Kept W X top
kept_sets vs W X at top e h r = record {
  same = ap (take top) e ∙ take_sets vs W top at h;
  from = r;
  to = omega (arith, ap length e, length-sets W at vs);
}

pub kept_then : (W X Y : List ℕ) (top higher : ℕ) → top ≤ higher → Kept W X top → Kept X Y higher → Kept W Y top
kept_then W X Y top higher h x y = record {
  same = sym (take-take top higher Y h) ∙ ap (take top) y.same ∙ take-take top higher X h ∙ x.same;
  from = x.from;
  to = omega (arith, y.to);
}

pub length_stored : (vs W X : List ℕ) (at : ℕ) → X ≡ sets W at vs → length X ≡ length W
length_stored vs W X at e = ap length e ∙ length-sets W at vs

-- a goal that was stored
module _ (W X : List ℕ) (at : ℕ) (r : StoredGoal) (e : X ≡ sets W at (stored_bytes r)) (room : at + goal_bytes ≤ length W) where
  byte : (i j : ℕ) → i < goal_bytes → j ≡ at + i → get_or X j 0 ≡ get_or (stored_bytes r) i 0
  byte i j h q = ap₂ (λ (l : List ℕ) (n : ℕ). get_or l n 0) e q ∙ get_or_stored (stored_bytes r) W at i (omega arith) (omega arith)

  pub goal_stored : r.part % 4 ≡ 0 → r.origin % 4 ≡ 0 → r.origin ≤ r.target → r.target % 4 ≡ 0 → r.next % 4 ≡ 0 → r.argument % 4 ≡ 0
      → StoredAt X at r
  goal_stored a b from c d f = record {
    part = omega (arith, byte 0 at (omega arith) (omega arith));
    origin = origin;
    target = omega (arith, origin, byte 1 (at + 1) (omega arith) (omega arith));
    next = omega (arith, byte 4 (at + 4) (omega arith) (omega arith), byte 5 (at + 4 + 1) (omega arith) (omega arith));
    argument = omega (arith, byte 6 (at + 6) (omega arith) (omega arith), byte 7 (at + 6 + 1) (omega arith) (omega arith));
  }
    where
      origin : r.origin ≡ origin_at X at
      origin = omega (arith, byte 2 (at + 2) (omega arith) (omega arith), byte 3 (at + 2 + 1) (omega arith) (omega arith))

-- and the list that it begins
module _ (K : Goal → Type 0) (P X : List ℕ) (top at : ℕ) (r : StoredGoal) (x : StoredAt X at r) (low : 0 < at)
    (room : at + goal_bytes ≤ top)
    (even : at % 4 ≡ 0) (falls : r.next < at) where
  pub chain_match :
      (p t : Term) (gs : List Goal) → r.argument ≡ 0 → K (match p t) → Part P r.part p
      → Target X top (size p) r.origin r.target t → Listable variables (OccursIn P) (match p t)
      → Chain K P X top r.next gs → Chain K P X top at (match p t ∷ gs)
  chain_match p t gs k q y z s c = (
    record {
      kind = q;
      low = low;
      room = room;
      even = even;
      falls = omega (arith, x.next);
      goal = record {
        kind = sym x.argument ∙ k;
        part = subst (λ (i : ℕ). Part P i p) x.part y;
        target = subst₂ (λ (b i : ℕ). Target X top (size p) b i t) x.origin x.target z;
        suits = s;
      };
    },
    subst (λ (i : ℕ). Chain K P X top i gs) x.next c,
  )

  pub chain_build :
      (f t e : Term) (gs : List Goal) → K (build f t e) → Part P r.part f → Target X top (suc (size f)) r.origin r.target t
      → Target X top (suc (size f)) r.argument r.argument e → Listable variables (OccursIn P) (build f t e)
      → Chain K P X top r.next gs → Chain K P X top at (build f t e ∷ gs)
  chain_build f t e gs q y z w s c = (
    record {
      kind = q;
      low = low;
      room = room;
      even = even;
      falls = omega (arith, x.next);
      goal = record {
        kind = λ i. omega (arith, i, x.argument, w.heights.low);
        part = subst (λ (i : ℕ). Part P i f) x.part y;
        target = subst₂ (λ (b i : ℕ). Target X top (suc (size f)) b i t) x.origin x.target z;
        argument = subst (λ (i : ℕ). Target X top (suc (size f)) i i e) x.argument w;
        suits = s;
      };
    },
    subst (λ (i : ℕ). Chain K P X top i gs) x.next c,
  )
