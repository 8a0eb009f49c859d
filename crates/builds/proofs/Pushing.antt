-- The abstraction over a body, written at the top as the target of a part: its record and its body, its heights in front of them and the
-- goal behind them are stored one after another, which keeps what is below the top. Assumes nothing.
use mathlib.Core.Path.{◌≡◌, refl, sym, ap, ◌∙◌, subst}
use mathlib.Core.List.{List, [], ◌∷◌}
use Prim.Native.Nat.{ℕ, ◌+◌, ◌*◌, ◌%◌, ◌<◌, ◌≤◌}
use native.Mathlib.Omega.{arith}
use lib.ListN.{length}
use lib.Seq.{sets}
use Rattle.terms.specs.Figures.{variables, table_bytes}
use Rattle.terms.specs.Term.{Term, lam, size}
use Rattle.terms.specs.Table.{record_bytes, encode}
use Rattle.terms.specs.Listing.{Line}
use Rattle.terms.specs.Refusal.{OccursIn}
use Rattle.terms.proofs.Table.{encode_length}
use Rattle.matching.specs.Goals.{Goal, Goal.match, Listable}
use Rattle.records.specs.Parts.{Part}
use Rattle.records.proofs.Parts.{at_start, part_one}
use Rattle.copying.proofs.Stores as Stores
use Rattle.assignments.specs.declared.Entry.{Entry}
use Rattle.agenda.specs.declared.Agenda.{Agenda}
use Rattle.agenda.specs.declared.StoredGoal.{StoredGoal}
use Rattle.agenda.specs.Stored.{stored_bytes, StoredFits, stored_match}
use Rattle.agenda.specs.State.{goal_bytes, record_weight, weight, relinking, next_at, target_start}
use Rattle.agenda.specs.State.{WrittenTarget, Easy, Deferred, Chain, State, Bounds}
use Rattle.agenda.specs.Moves.{progress}
use Rattle.agenda.proofs.Frame.{Kept, target_kept, chain_kept, holds_kept, kept_sets, kept_then, length_stored, goal_stored, chain_match}
use Rattle.agenda.proofs.Targets.{NewTarget, written_target}
use Rattle.builds.specs.Builds.{Pushes, Suitable, StoredPushed, after_stored, target_end}

module _ (W : List ℕ) (s : Agenda) (r : StoredGoal) (b : List ℕ) (x : Pushes W s r b) where
  -- the body of the table b
  pushed_body : (t : Term) → b ≡ encode t → x.body ≡ t
  pushed_body t e = part_one b 0 x.body t (at_start b x.body x.table) (at_start b t e)

  size_body : length b ≡ 4 * size x.body
  size_body = ap length x.table ∙ encode_length x.body

  -- the goal's fields fit
  pub abstraction_room : target_start s + 4 * size (lam x.body) ≤ length W
  abstraction_room = omega (arith, size_body, x.room, x.whole)

  -- the record and the body are the table of the abstraction
  module _ (W₁ Y : List ℕ) (e : W₁ ≡ sets W (target_start s) (record_bytes 1 0 [])) (f : Y ≡ sets W₁ (target_start s + 4) b) where
    pub abstraction_written : Y ≡ sets W (target_start s) (encode (lam x.body))
    abstraction_written =
        Stores.written_then (record_bytes 1 0 []) b W W₁ Y (target_start s) (target_start s + 4) e f refl
        ∙ ap (λ (l : List ℕ). sets W (target_start s) (record_bytes 1 0 l)) x.table

    pub abstraction_target : WrittenTarget Y (target_start s) (target_end s b)
    abstraction_target =
        written_target W Y Y s.top (lam x.body) abstraction_written abstraction_room x.few x.closed (target_end s b)
        (omega (arith, size_body))

  -- and then the heights, and the goal
  pub pushed_stored :
      (Z X : List ℕ) (i : StoredGoal) → NewTarget W Z s.top (lam x.body)
      → i ≡ stored_match r.part (target_start s) (target_start s) s.easy → X ≡ sets Z (target_end s b) (stored_bytes i)
      → StoredPushed W s r b X (after_stored s r (target_end s b))
  pushed_stored Z X i n e q =
      let length_Z : length Z ≡ table_bytes = n.same_length ∙ x.whole in
      let goal_kept : Kept Z X (target_end s b) =
      kept_sets (stored_bytes i) Z X (target_end s b) (target_end s b) q (omega arith) (omega (arith, x.room)) in
      record {
        kept = (kept_then W Z X s.top (target_end s b) (omega arith) n.kept goal_kept).same;
        same_length = length_stored (stored_bytes i) Z X (target_end s b) q ∙ n.same_length;
        target = λ t k w c.
            let v = subst (λ (u : Term). NewTarget W Z s.top (lam u)) (pushed_body t w) n in
            target_kept Z X (target_end s b) goal_kept (target_end s b + goal_bytes) (omega arith) k (target_start s) (target_start s)
            (lam t)
            (record {
              part = v.part;
              below = omega (arith, ap length w, encode_length t);
              normal = c.normal;
              ground = c.ground;
              few = c.few;
              closed = c.closed;
              short = c.short;
              heights = v.heights;
            });
        goal = goal_stored Z X (target_end s b) (stored_match r.part (target_start s) (target_start s) s.easy)
            (q ∙ ap (λ (j : StoredGoal). sets Z (target_end s b) (stored_bytes j)) e) (omega (arith, x.room)) x.part_even
            (omega (arith, x.even)) (omega arith) (omega (arith, x.even)) x.easy_even refl;
        agenda = refl;
      }

-- the agenda after it
module _ (P W : List ℕ) (s : Agenda) (r : StoredGoal) (b X : List ℕ) (bounds : Bounds P W s) (x : Pushes W s r b) (s' : Agenda)
    (p : StoredPushed W s r b X s') (next : r.next ≡ next_at W s.deferred) where
  abbrev last : Agenda
  last = after_stored s r (target_end s b)

  kept : Kept W X s.top
  kept = record {
    same = p.kept;
    from = omega (arith, bounds.top, bounds.whole);
    to = omega (arith, bounds.top, bounds.whole, p.same_length);
  }

  end_even : target_end s b % 4 ≡ 0
  end_even = omega (arith, bounds.even, size_body W s r b x)

  pub pushed_falls : progress last < progress s
  pushed_falls = omega (arith, x.room)

  pub pushed_bounds : r.next < s.deferred → Bounds P X last
  pushed_bounds falls = record {
    whole = p.same_length ∙ bounds.whole;
    short = bounds.short;
    top = x.room;
    start = omega arith;
    even = omega (arith, end_even);
    easy_room = omega arith;
    easy_even = end_even;
    deferred_room = omega (arith, falls, bounds.deferred_room);
    deferred_even = omega (arith, next);
  }

  -- the weight of the goal that is dropped covers what was written
  pub pushed_state :
      (a : List Entry) (g : Goal) (gs hs : List Goal) (l : Line) (f t : Term) → State relinking P W s a gs (g ∷ hs) l
      → b ≡ encode t → Part P r.part f → Suitable (size f) (lam t) → Listable variables (OccursIn P) (match f (lam t))
      → target_end s b + 2 * goal_bytes + record_weight * size f + relinking ≤ s.top + weight g
      → State 0 P X last a (match f (lam t) ∷ gs) hs l
  pushed_state a g gs hs l f t z w y c suits covers = record {
    easy = chain_match Easy P X last.top (target_end s b) (stored_match r.part (target_start s) (target_start s) s.easy) p.goal
        (omega arith) (omega arith) end_even (omega (arith, bounds.easy_room)) f (lam t) gs refl tt y (p.target t (size f) w c) suits
        (chain_kept W X s.top kept last.top (omega arith) P Easy s.easy gs z.easy);
    deferred = chain_kept W X s.top kept last.top (omega arith) P Deferred r.next hs
        (subst (λ (i : ℕ). Chain Deferred P W s.top i hs) (sym next) z.deferred.1);
    entries = holds_kept W X s.top kept last.top (omega arith) a l z.entries;
    line = z.line;
    assigns = z.assigns;
    room = omega (arith, z.room, covers);
  }
