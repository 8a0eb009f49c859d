-- Skeletons of parts of the pattern, the goals that they refuse and those that they decide. An assignment that extends the line gives each
-- assigned variable its value in the work area, so that the swept part fits the skeleton: it is the skeleton where that has no hole, and a
-- goal whose target doesn't fit has no assignment. Assumes nothing.
use mathlib.Core.Path.{◌≡◌, refl, sym, ap, ◌∙◌, subst, subst₂}
use mathlib.Core.Bool.{Bool, true, false}
use mathlib.Core.List.{List}
use Prim.Native.Nat.{ℕ, suc, ◌-◌, ◌*◌, ◌<◌, ◌≤◌}
use native.Mathlib.Omega.{arith}
use lib.ListN.{length, get_or, take, drop}
use lib.Seq.{sets, length-sets, length-take-le}
use Rattle.std.specs.declared.option.Option.{Option}
use Rattle.std.specs.declared.option.Option.TheVariants.{Some}
use Rattle.terms.specs.Figures.{variables, pattern_records, table_bytes}
use Rattle.terms.specs.Term.{Term, con, var, size, Below}
use Rattle.terms.specs.Sweep.{sweep, fill}
use Rattle.terms.specs.Table.{encode}
use Rattle.terms.specs.Assignment.{value_or}
use Rattle.terms.specs.Listing.{Line}
use Rattle.terms.proofs.Table.{encode_length, encode_one}
use Rattle.terms.proofs.Locals.{closed_more}
use Rattle.matching.specs.Lists.{Values, Extends}
use Rattle.matching.specs.Goals.{Goal, Goal.match, Goal.build, Meets}
use Rattle.matching.specs.Skeletons.{Fits}
use Rattle.matching.proofs.Lines.{extends_entry}
use Rattle.matching.proofs.Partial.{total_of}
use Rattle.matching.proofs.Skeletons.{fits_exact}
use Rattle.matching.proofs.Cuts.{fits_abstraction}
use Rattle.records.specs.Parts.{slice, Part, Ends, Tree}
use Rattle.records.specs.Tests.{Says, Tells, Asks, Walked}
use Rattle.records.specs.declared.Ask.TheVariants.{Bound}
use Rattle.records.proofs.Parts.{part_bytes, whole, at_start, kind_at}
use Rattle.records.proofs.Slices.{part_slice, slice_length}
use Rattle.assignments.specs.declared.Entry.{Entry}
use Rattle.assignments.specs.Entries.{Given}
use Rattle.sweeping.specs.Swept.{swept_bytes}
use Rattle.copying.proofs.Stores.{stored}
use Rattle.assignments.specs.Held.{Holds}
use Rattle.skeletons.specs.Skeleton.{GivenValues, SkeletonInput, IsSkeleton, WritesSkeleton, SkeletonComparable, MayBe, SkeletonApplicable}
use Rattle.skeletons.specs.Skeleton.{MayBuild}
use Rattle.skeletons.specs.Contracted.{Exact}
use Rattle.skeletons.proofs.Comparison.{skeleton_comparable_at, may_be_at}
use Rattle.skeletons.proofs.Applying.{may_build_at}
use Rattle.agenda.specs.declared.Agenda.{Agenda}
use Rattle.agenda.specs.declared.Decision.{Decision}
use Rattle.agenda.specs.declared.StoredGoal.{StoredGoal}
use Rattle.agenda.specs.Stored.{StoredAt, StoredFits}
use Rattle.agenda.specs.State.{origin_at, target_at, heights_place, HeightsBeside, Target, GoalAt, Sat, Bounds, Ready, relinking}
use Rattle.agenda.specs.Moves.{Decided}
use Rattle.deciding.specs.Refuting.{SkeletonSource, Prefix, PartSkeleton, Judges, SkeletonRefuses, Possible}
use Rattle.deciding.proofs.Decisions.{held_given, part_of, GoalOpened, deferred_opened, from_deferred, put, SweptForm}

-- the values of the variables that are assigned
module _ (P W : List ℕ) (s : Agenda) (a : List Entry) (l : Line) (bounds : Bounds P W s) (h : Holds W s.top a l) (t : Term) where
  pub extended_values : (φ : ℕ → Term) → Extends φ l → GivenValues W a φ t
  extended_values φ g i n o q =
      let v = held_given P W s a l bounds h i n q in
      subst (Given W a i) (sym (extends_entry φ l i v.0 v.1 g)) v.2

  pub line_values_lem : GivenValues W a (total_of l) t
  line_values_lem i n o q = let v = held_given P W s a l bounds h i n q in subst (Given W a i) (sym (ap (value_or (con 0)) v.1)) v.2

-- the skeleton of a part
module _ (l W : List ℕ) (a : List Entry) (x : SkeletonSource l W a) where
  pub hole_sketch : (out after : List ℕ) → length out ≡ swept_bytes → after ≡ sets out 0 (encode (var 0)) → PartSkeleton l W a after 4
  hole_sketch out after h e = record {
    table = record {
      tree = var 0;
      bytes = stored out after (encode (var 0)) 4 e refl (omega arith);
      least = omega arith;
      within = omega (arith, h, ap length e, length-sets out 0 (encode (var 0)));
      most = omega arith;
    };
    closed = tt;
    is_skeleton = λ t p φ v g. tt;
  }

  module _ (w : Option ℕ) (k : Walked l 0 (Asks Bound pattern_records) w) (end : ℕ) (e : w ≡ Some end) where
    walked_upto : Ends l 0 end × ((t : Term) → Part l 0 t → Asks Bound pattern_records t)
    unfolding Walked
    walked_upto = subst (Walked l 0 (Asks Bound pattern_records)) e k

    pub part_ends : Ends l 0 end
    part_ends = walked_upto.0

    abbrev table : List ℕ
    table = take (end - 0) (drop 0 l)

    table_of : (t : Term) → Part l 0 t → table ≡ encode t
    table_of t p = part_bytes l 0 (end - 0) t p (omega (arith, part_ends.exact t p))

    pub skeleton_input : SkeletonInput table W a
    skeleton_input =
        let p = x.part in
        let b = table_of x.tree p in
        record {
          tree = x.tree;
          bytes = b;
          least = omega (arith, ap length b, encode_length x.tree, p.some);
          most = omega (arith, ap length b, encode_length x.tree, p.within, x.short);
          depth = pattern_records;
          shallow = omega (arith, p.within, x.short);
          closed = walked_upto.1 x.tree p;
          below = x.below;
          φ = x.φ;
          gives = x.gives;
        }

    pub part_sketch : (out after : List ℕ) (n : ℕ) → WritesSkeleton table W a out n after → length out ≡ swept_bytes
        → PartSkeleton l W a after (n * 4)
    part_sketch out after n o h =
        let b = table_of x.tree x.part in
        let v = o.written x.tree b in
        record {
          table = record {
            tree = v.skeleton;
            bytes = stored out after (encode v.skeleton) (n * 4) v.bytes (omega (arith, v.sized, encode_length v.skeleton))
                (omega (arith, o.few));
            least = omega (arith, o.some);
            within = omega (arith, h, o.few, ap length v.bytes, length-sets out 0 (encode v.skeleton));
            most = omega (arith, o.few);
          };
          closed = v.closed pattern_records (walked_upto.1 x.tree x.part);
          is_skeleton = λ t p. subst (λ (u : Term). IsSkeleton W a u v.skeleton) (encode_one x.tree t (sym b
              ∙ table_of t p)) v.is_skeleton;
        }

-- a part of a pattern, handed on as a slice
module _ (P : List ℕ) (i : ℕ) (W : List ℕ) (a : List Entry) where
  pub source_at : (t : Term) → Part P i t → length P ≤ 4 * pattern_records → Below variables t → (φ : ℕ → Term) → GivenValues W a φ t
      → SkeletonSource (slice P i) W a
  source_at t p m b φ g = record {
    tree = t;
    part = part_slice P i t p;
    short = omega (arith, slice_length P i);
    below = b;
    φ = φ;
    gives = g;
  }

  pub skeleton_at : (c : List ℕ) (n : ℕ) (k : PartSkeleton (slice P i) W a c n) (t : Term) → Part P i t → IsSkeleton W a t k.table.tree
  skeleton_at c n k t p = k.is_skeleton t (part_slice P i t p)

-- what stands in the first n bytes of c
module _ (c : List ℕ) (n : ℕ) (k : Prefix c n) where
  pub skeleton_part : Part (take (n - 0) (drop 0 c)) 0 k.tree
  skeleton_part = at_start (take (n - 0) (drop 0 c)) k.tree k.bytes

  pub skeleton_tree : Tree (take (n - 0) (drop 0 c))
  skeleton_tree = record { tree = k.tree; bytes = k.bytes; least = omega (arith, skeleton_part.some, skeleton_part.within) }

  skeleton_length : length (take (n - 0) (drop 0 c)) ≤ swept_bytes
  skeleton_length = omega (arith, length-take-le (n - 0) c (omega (arith, k.within)), k.most)

  pub skeleton_comparable : (X : List ℕ) (b at : ℕ) (t : Term) → Part X at t → HeightsBeside X b at t → length X ≤ table_bytes
      → SkeletonComparable (take (n - 0) (drop 0 c)) (slice X at) (slice X (heights_place b at))
  skeleton_comparable X b at t p h m =
      skeleton_comparable_at (take (n - 0) (drop 0 c)) X at X (heights_place b at)
      (whole (take (n - 0) (drop 0 c)) 0 k.tree skeleton_part) t p h.heights (omega (arith, skeleton_length)) (omega (arith, m))

-- whether a goal is possible
module _ (c W : List ℕ) (r : StoredGoal) where
  pub possible : Possible c W r true
  unfolding Possible
  possible = tt

  refused : SkeletonRefuses c W r → Possible c W r false
  unfolding Possible
  refused x = x

  pub judged_target_within : Judges c W r → r.target ≤ length W
  judged_target_within x = omega (arith, x.target.term.least, slice_length W r.target)

  pub judged_target : (i : ℕ) → i ≡ heights_place r.origin r.target → Judges c W r
      → SkeletonComparable c (slice W r.target) (slice W i)
  judged_target i e x = subst (λ (n : ℕ). SkeletonComparable c (slice W r.target) (slice W n)) (sym e) x.target

  pub possible_match : r.argument ≡ 0 → (b : Bool) → MayBe c (slice W r.target) b → Possible c W r b
  possible_match z true m = possible
  possible_match z false m = refused (record { matches = λ _. may_be_at c W r.target false refl m; builds = λ d. absurd (d z) })

  module _ (d : ¬ (r.argument ≡ 0)) where
    pub possible_other : ¬ (get_or c 0 0 ≡ 4) → ¬ (get_or c 0 0 ≡ 1) → Possible c W r false
    possible_other h o = refused (record {
      matches = λ z. absurd (d z);
      builds = λ _ x e t b p _ _ f. absurd (let k = kind_at c 0 x p in o (k ∙ fits_abstraction x b f (λ q. h (k ∙ q))));
    })

    pub judged_argument_within : Judges c W r → r.argument ≤ length W
    judged_argument_within x = let p = (x.both d).part in omega (arith, p.some, p.within, slice_length W r.argument)

    pub judged_both : (i : ℕ) → i ≡ heights_place r.origin r.target → Judges c W r
        → SkeletonApplicable c (slice W r.argument) (slice W r.target) (slice W i)
    judged_both i e x =
        subst (λ (n : ℕ). SkeletonApplicable c (slice W r.argument) (slice W r.target) (slice W n)) (sym e) (x.both d)

    pub possible_build : (b : Bool) → MayBuild c (slice W r.argument) (slice W r.target) b → Possible c W r b
    possible_build true m = possible
    possible_build false m = refused (record {
      matches = λ z. absurd (d z);
      builds = λ _. may_build_at c W r.argument r.target false refl m;
    })

-- the first deferred goal
module _ (P W : List ℕ) (s : Agenda) (a : List Entry) (ready : Ready relinking P W s a) (deferred : 0 < s.deferred) (r : StoredGoal)
    (y : StoredAt W s.deferred r) where
  pub part_source : SkeletonSource (slice P r.part) W a
  part_source = from_deferred P W s a ready deferred r y (SkeletonSource (slice P r.part) W a) (λ gs hs l g x.
      let v = put P W s a ready deferred r y g x.deferred.0.goal in
      source_at P r.part W a (part_of g) v.part ready.bounds.short v.below (total_of l)
      (line_values_lem P W s a l ready.bounds x.entries (part_of g)))

  target_stands : (n : ℕ) (t : Term) → Target W s.top n (origin_at W s.deferred) (target_at W s.deferred) t
      → Target W s.top n r.origin r.target t
  target_stands n t = subst₂ (λ (b i : ℕ). Target W s.top n b i t) (sym y.origin) (sym y.target)

  module _ (c : List ℕ) (n : ℕ) (k : PartSkeleton (slice P r.part) W a c n) where
    pub judges : StoredFits r → Judges (take (n - 0) (drop 0 c)) W r
    judges fits = from_deferred P W s a ready deferred r y (Judges (take (n - 0) (drop 0 c)) W r)
        (λ gs hs l g x. go g x.deferred.0.goal)
      where
        compared : (m : ℕ) (t : Term) → Target W s.top m r.origin r.target t
            → SkeletonComparable (take (n - 0) (drop 0 c)) (slice W r.target) (slice W (heights_place r.origin r.target))
        compared m t v =
            skeleton_comparable c n k.table W r.origin r.target t v.part v.heights (omega (arith, ready.bounds.whole))

        go : (g : Goal) → GoalAt P W s.top s.deferred g → Judges (take (n - 0) (drop 0 c)) W r
        go (match p t) x =
            let v = target_stands (size p) t x.target in
            record {
              low = v.heights.low;
              fits = fits;
              target = compared (size p) t v;
              both = λ d. absurd (d (y.argument ∙ x.kind));
            }
        go (build f t e) x =
            let v = target_stands (suc (size f)) t x.target in
            let q = compared (suc (size f)) t v in
            record {
              low = v.heights.low;
              fits = fits;
              target = q;
              both = λ _. record {
                skeleton = k.table.tree;
                argument = e;
                bytes = k.table.bytes;
                part = part_slice W r.argument e (subst (λ (i : ℕ). Part W i e) (sym y.argument) x.argument.part);
                least = (skeleton_tree c n k.table).least;
                few = omega (arith, (skeleton_part c n k.table).within, skeleton_length c n k.table);
                argument_few = omega (arith, x.argument.short);
                depth = pattern_records;
                shallow = omega arith;
                closed = k.closed;
                argument_closed = closed_more (pattern_records - suc (size f)) pattern_records e (omega arith) x.argument.closed;
                target = q.term;
                most = q.term_most;
                heights = q.heights;
              };
            }

    fits_part :
        (gs hs : List Goal) (l : Line) (g : Goal) → GoalOpened P W s a ready deferred r y gs l g hs
        → (φ : ℕ → Term) → Values φ → Extends φ l → Fits k.table.tree (sweep (fill φ (part_of g)))
    fits_part gs hs l g x φ v e =
        skeleton_at P r.part W a c n k (part_of g) (put P W s a ready deferred r y g x.deferred.0.goal).part φ v
        (extended_values P W s a l ready.bounds x.entries (part_of g) φ e)

    unmet : SkeletonRefuses (take (n - 0) (drop 0 c)) W r → (gs hs : List Goal) (l : Line) (g : Goal)
        → GoalOpened P W s a ready deferred r y gs l g hs
        → (φ : ℕ → Term) → Fits k.table.tree (sweep (fill φ (part_of g))) → ¬ Meets g φ
    unmet q gs hs l (match p t) x φ f e =
        let z = x.deferred.0.goal in
        q.matches (y.argument ∙ z.kind) k.table.tree t (skeleton_part c n k.table)
        (subst (λ (i : ℕ). Part W i t) (sym y.target) z.target.part) (subst (Fits k.table.tree) e f)
    unmet q gs hs l (build p t e) x φ f o =
        let z = x.deferred.0.goal in
        q.builds (λ d. z.kind (sym y.argument ∙ d)) k.table.tree e t o.0 (skeleton_part c n k.table)
        (subst (λ (i : ℕ). Part W i e) (sym y.argument) z.argument.part)
        (subst (λ (i : ℕ). Part W i t) (sym y.target) z.target.part)
        (subst (Fits k.table.tree) o.1 f) o.2

    pub decided_refused : (b : Bool) → Possible (take (n - 0) (drop 0 c)) W r b → b ≡ false → Decided relinking P W s a W Decision.Failed
    unfolding Possible Decided
    decided_refused b p e =
        let q : Possible (take (n - 0) (drop 0 c)) W r false = subst (Possible (take (n - 0) (drop 0 c)) W r) e p in
        record {
          none = λ gs hs l z φ v. deferred_opened P W s a ready deferred r y gs l (λ us. ¬ Sat gs us l φ)
              (λ g us x o. unmet q gs us l g x φ (fits_part gs us l g x φ v o.2) o.1.0) hs z;
          kept = refl;
        }

    pub exact_form : (b : Bool) → b ≡ true → Tells (take (n - 0) (drop 0 c)) Exact b
        → SweptForm P W s a ready deferred r y (take (n - 0) (drop 0 c))
    exact_form b true_b tells =
        let e = subst (λ (i : Bool). Says i (Exact k.table.tree)) true_b (tells k.table.tree k.table.bytes) in
        record {
          tree = k.table.tree;
          bytes = k.table.bytes;
          most = skeleton_length c n k.table;
          is = λ gs hs l g x φ v o. sym (fits_exact k.table.tree (sweep (fill φ (part_of g))) e (fits_part gs hs l g x φ v o));
        }
