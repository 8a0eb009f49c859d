-- The argument that is found at a part of the target: written at the top with its heights it is the argument's target, and what the head
-- builds from. The part uses none of the binders above it, so that it is its own argument moved in below them. Assumes nothing.
--   MovedOut j b n t         the first n bytes of b are the table of the j-th part of t, moved out of the binders above it
--   ArgumentStanding f b t   how the argument's target stands above the target t of the application of f and b
--   Ending                   what its end is
use mathlib.Core.Path.{◌≡◌, refl, sym, ap, ◌∙◌, subst}
use mathlib.Core.Bool.{Bool, true, false}
use mathlib.Core.List.{List, ◌∷◌}
use Prim.Native.Nat.{ℕ, suc, ◌+◌, ◌-◌, ◌*◌, ◌%◌, ◌<◌, ◌≤◌}
use native.Mathlib.Omega.{arith}
use lib.Dec.{T}
use lib.ListN.{length, get_or, take, drop, length-take}
use lib.Seq.{sets}
use Rattle.std.specs.declared.option.Option.{Option}
use Rattle.std.specs.declared.option.Option.TheVariants.{Some, None}
use Rattle.terms.specs.Figures.{variables, pattern_records, value_records, table_bytes}
use Rattle.terms.specs.Term.{Term, app, size, shift, unshift, uses}
use Rattle.terms.specs.Table.{encode}
use Rattle.terms.specs.Listing.{Line}
use Rattle.terms.specs.Refusal.{OccursIn}
use Rattle.terms.proofs.Table.{encode_length}
use Rattle.terms.proofs.Locals.{closed_more}
use Rattle.matching.specs.Goals.{Goal, Goal.match, Goal.build}
use Rattle.matching.specs.Occurrences.{part_at, Copy, FirstCopy}
use Rattle.matching.specs.Skeletons.{Fits}
use Rattle.matching.proofs.Occurrences.{each_part, first_lowered, first_movable, first_not_again, first_from}
use Rattle.matching.proofs.Cuts.{build_local}
use Rattle.matching.proofs.Alternatives.{alternative_argument, listable_argument}
use Rattle.matching.proofs.Targets.{part_closed, part_normal, part_ground, part_size}
use Rattle.records.specs.Parts.{slice, Part, Whole, Ends}
use Rattle.records.specs.Tests.{Walked}
use Rattle.records.proofs.Slices.{whole_slice, slice_walked}
use Rattle.records.proofs.Parts.{part_one, application_parts, whole}
use Rattle.substitution.specs.Writers.{Wrote}
use Rattle.copying.proofs.Stores as Stores
use Rattle.assignments.specs.declared.Entry.{Entry}
use Rattle.skeletons.specs.Skeleton.{SkeletonComparable, MayBe}
use Rattle.skeletons.proofs.Comparison.{may_be_at}
use Rattle.shifting.specs.Lowering.{Lowers, Lowered, Movable}
use Rattle.shifting.proofs.Lowering.{lowers_at, lowered_wrote_at}
use Rattle.abstractions.specs.Occurrences.{DepthOf, Looks, Earlier}
use Rattle.abstractions.proofs.Occurrences.{part_at_lem, looks_at, earlier_yes_at, earlier_no_at}
use Rattle.agenda.specs.declared.Agenda.{Agenda}
use Rattle.agenda.specs.declared.StoredGoal.{StoredGoal}
use Rattle.agenda.specs.declared.Ways.{Ways}
use Rattle.agenda.specs.Stored.{stored_bytes, StoredAt, StoredFits}
use Rattle.agenda.specs.State.{goal_bytes, target_bytes, height_bytes, target_start, WrittenTarget, Target, State, Easy, Deferred, Chain}
use Rattle.agenda.specs.State.{relinking}
use Rattle.agenda.specs.Moves.{Move, Moved, Branched}
use Rattle.arguments.specs.Ways.{Way, Fitting}
use Rattle.arguments.specs.Applications.{ApplicationDeferred, WaysCounted, argument_of, ArgumentPlace, Argument, Placed, ArgumentRoom}
use Rattle.arguments.specs.Applications.{head_goal, argument_goal, ArgumentPushed}
use Rattle.agenda.specs.Locals.{ArgumentComparable, Misses}
use Rattle.agenda.specs.Heads.{Agree}
use Rattle.agenda.proofs.Agreement.{unlike_at}
use Rattle.agenda.proofs.Lacking.{all_marks_at}
use Rattle.agenda.proofs.Missing.{argument_comparable_at, misses_at}
use Rattle.agenda.proofs.Frame.{Kept, part_kept, target_kept, chain_kept, holds_kept, kept_sets, kept_then, length_stored}
use Rattle.agenda.proofs.Frame.{goal_stored, chain_match, chain_build}
use Rattle.agenda.proofs.Targets.{NewTarget, written_target}
use Rattle.deciding.proofs.Refutations.{skeleton_part, skeleton_comparable}
use Rattle.arguments.proofs.Applications.{argument_from, stored_as, branch_next, branch_failed, ApplicationSite, MatchState}
use Rattle.arguments.proofs.Applications.{application_site, application_opened}
use Rattle.arguments.proofs.Applications.{from_application, stored_bounds, application_argument_whole, argument_ends, way_failed}
use Rattle.arguments.proofs.Applications.{fits_build, fits_match}

-- how large and how deep a part is
part_most : (t : Term) (j : ℕ) → j < size t → (part_at 0 t j).0 + size (part_at 0 t j).1 ≤ size t
part_most t j h =
    each_part (λ d x. d + size x ≤ size t) (λ d f a p. (omega arith, omega arith)) (λ d b p. omega arith) 0 t j h (omega arith)

record MovedOut (j : ℕ) (after : List ℕ) (n : ℕ) (t : Term) : Type 0 where
  copy : Copy (part_at 0 t j) (argument_of t j)
  bytes : take (n - 0) (drop 0 after) ≡ encode (argument_of t j)
  sized : n ≡ 4 * size (argument_of t j)

-- the part moved out of the binders above it
module _ (W : List ℕ) (top at j : ℕ) where
  module _ (x : ArgumentPlace W top at j) (d : ℕ) (k : DepthOf W at j d) where
    number_within : (t : Term) → Part W at t → j < size t
    number_within t p = subst (λ (u : Term). j < size u) (part_one W at x.tree t x.part p) x.within

    pub lowers : (room : ℕ) → room ≡ target_bytes → Lowers (slice W (at + 4 * j)) 0 d room 0
    lowers room r =
        let t = x.tree in
        let m = number_within t x.part in
        let n = part_most t j m in
        let q = part_at_lem W at 0 t j x.part m in
        lowers_at W (at + 4 * j) 0 d 0 room (part_at 0 t j).1 q (omega (arith, n, x.few)) (omega (arith, n, x.few))
        (omega (arith, n, x.few, k t x.part m))

    module _ (out after : List ℕ) (w : Option ℕ) (y : Lowered (slice W (at + 4 * j)) 0 d out 0 after w) where
      pub stuck : w ≡ None → Placed W top at j W None
      unfolding Placed Walked
      stuck c =
          let n : Walked W (at + 4 * j) (Movable d 0) None = slice_walked W (at + 4 * j) (Movable d 0) None
          (subst (Walked (slice W (at + 4 * j)) 0 (Movable d 0)) c y.walked) in (
            refl,
            λ t u p f.
                let m = number_within t p in
                n (part_at 0 t j).1 (part_at_lem W at 0 t j p m)
                (subst (λ (i : ℕ). (part_at 0 t j).1 ≡ shift i 0 (unshift i 0 (part_at 0 t j).1)) (sym (k t p m)) (first_movable t j u f)),
          )

      module _ (n : ℕ) (c : w ≡ Some n) where
        walked_upto : Ends W (at + 4 * j) (at + 4 * j + n) × ((t : Term) → Part W (at + 4 * j) t → Movable d 0 t)
        unfolding Walked
        walked_upto = slice_walked W (at + 4 * j) (Movable d 0) (Some n)
            (subst (Walked (slice W (at + 4 * j)) 0 (Movable d 0)) c y.walked)

        leaves_upto : Wrote (unshift d) W (at + 4 * j) 0 out 0 after (at + 4 * j + n) (0 + n)
        leaves_upto = lowered_wrote_at W (at + 4 * j) 0 d 0 out after w y n c

        pub moved_end : n ≤ target_bytes
        moved_end =
            let t = x.tree in
            let m = number_within t x.part in
            omega (arith, walked_upto.0.exact (part_at 0 t j).1 (part_at_lem W at 0 t j x.part m), part_most t j m, x.few)

        module _ (o : length out ≡ target_bytes) where
          moved_out : MovedOut j after n x.tree
          moved_out =
              let t = x.tree in
              let u = (part_at 0 t j).1 in
              let m = number_within t x.part in
              let v = part_at_lem W at 0 t j x.part m in
              let i : d ≡ (part_at 0 t j).0 = k t x.part m in
              let z : 0 + n ≡ 0 + 4 * size (unshift d 0 u) = leaves_upto.exact u v in
              record {
                copy = subst (λ (b : ℕ). u ≡ shift b 0 (unshift b 0 u)) i (walked_upto.1 u v);
                bytes = Stores.stored out after (encode (unshift d 0 u)) n (leaves_upto.bytes u v)
                    (omega (arith, encode_length (unshift d 0 u))) (omega (arith, moved_end))
                    ∙ ap (λ (b : ℕ). encode (unshift b 0 u)) i;
                sized = omega (arith, ap (λ (b : ℕ). size (unshift b 0 u)) i);
              }

          few : size (argument_of x.tree j) ≤ value_records
          few = omega (arith, moved_out.sized, moved_end)

          fits : top + height_bytes + 4 * size (argument_of x.tree j) ≤ length W
          fits = omega (arith, moved_out.sized, moved_end, x.room)

          module _ (Y : List ℕ) (q : Y ≡ sets W (top + height_bytes) (take (n - 0) (drop 0 after))) where
            written : Y ≡ sets W (top + height_bytes) (encode (argument_of x.tree j))
            written = q ∙ ap (sets W (top + height_bytes)) moved_out.bytes

            pub argument_target : WrittenTarget Y (top + height_bytes) (top + height_bytes + n)
            argument_target =
                written_target W Y Y top (argument_of x.tree j) written fits few
                (part_closed x.tree j (argument_of x.tree j) x.within moved_out.copy pattern_records x.closed)
                (top + height_bytes + n) (omega (arith, moved_out.sized))

            -- and then its heights were kept
            pub placed :
                (X : List ℕ)
                → ((t : Term) → Y ≡ sets W (top + height_bytes) (encode t) → top + height_bytes + 4 * size t ≤ length W
                → size t ≤ value_records → NewTarget W X top t)
                → Placed W top at j X (Some (top + height_bytes + n))
            unfolding Placed
            placed X f t p =
                let z = f (argument_of x.tree j) written fits few in
                subst (λ (u : Term). Argument W top u j X (top + height_bytes + n)) (part_one W at x.tree t x.part p) (record {
                  within = x.within;
                  copy = moved_out.copy;
                  part = z.part;
                  heights = z.heights;
                  end = omega (arith, moved_out.sized);
                  same_below = z.kept.same;
                  same_length = z.same_length;
                })

pub placed_no : (W : List ℕ) (top at j : ℕ) (X : List ℕ) (w : Option ℕ) → Placed W top at j X w → w ≡ None
    → (take top X ≡ take top W) × ((t e : Term) → Part W at t → ¬ FirstCopy t j e)
unfolding Placed
placed_no W top at j X w p c = subst (Placed W top at j X) c p

placed_at : (W : List ℕ) (top at j : ℕ) (X : List ℕ) (w : Option ℕ) (r : ℕ) → Placed W top at j X w → w ≡ Some r → (t : Term) → Part W at t
    → Argument W top t j X r
unfolding Placed
placed_at W top at j X w r p c = subst (Placed W top at j X) c p

-- the way that tries the j-th part
module _ (P W : List ℕ) (s : Agenda) (a : List Entry) (x : ApplicationDeferred P W s a) (r : StoredGoal) (y : StoredAt W s.deferred r)
    (j : ℕ) where
  module _ (w : Ways) (c : WaysCounted P W s a w) (h : j + 2 < w.count) where
    numbered : (gs hs : List Goal) (l : Line) (f b t : Term) → MatchState P W s a gs l f b t hs → j < size t
    numbered gs hs l f b t z = omega (arith, c.ways gs (match (app f b) t ∷ hs) l z)

    pub places : ArgumentPlace W s.top r.target j
    places = from_application P W s a x (ArgumentPlace W s.top r.target j) (λ gs hs l f b t z.
        let v = (application_site P W s a r gs hs l f b t y z).target in
        record {
          tree = t;
          part = v.part;
          few = omega (arith, v.short);
          closed = closed_more (pattern_records - size (app f b)) pattern_records t (omega arith) v.closed;
          within = numbered gs hs l f b t z;
          room = omega (arith, (stored_bounds P W s a x r y).room, x.ready.bounds.whole);
          most = omega (arith, x.ready.bounds.whole);
        })

    pub depth : DepthOf W r.target j (get_or w.depths j 0)
    depth t p k = from_application P W s a x (get_or w.depths j 0 ≡ (part_at 0 t j).0) (λ gs hs l f b u z.
        let q = (application_site P W s a r gs hs l f b u y z).target.part in
        let e = part_one W r.target u t q p in
        subst (λ (v : Term). get_or w.depths j 0 ≡ (part_at 0 v j).0) e
        (c.depths_are gs (match (app f b) u ∷ hs) l z j (numbered gs hs l f b u z)))

    pub few_records : j < value_records
    few_records = omega (arith, places.within, places.few)

    part_whole : Whole W (r.target + 4 * j)
    part_whole = from_application P W s a x (Whole W (r.target + 4 * j)) (λ gs hs l f b t z.
        whole W (r.target + 4 * j) (part_at 0 t j).1
        (part_at_lem W r.target 0 t j (application_site P W s a r gs hs l f b t y z).target.part (numbered gs hs l f b t z)))

    pub target_part_within : r.target + 4 * j ≤ length W
    target_part_within = omega (arith, part_whole.least)

    pub part_whole_slice : Whole (slice W (r.target + 4 * j)) 0
    part_whole_slice = whole_slice W (r.target + 4 * j) part_whole

    -- the argument has a rigid head, and the part has another one
    pub unlike : (e : Bool) → Agree (slice P w.argument) (slice W (r.target + 4 * j)) e → e ≡ false → w.rigid ≡ true
        → Branched P W s a (Way (suc (suc j))) W None
    unlike e q n k =
        let m = unlike_at P w.argument W (r.target + 4 * j) e n q in
        branch_failed P W s a (Way (suc (suc j))) W (way_failed P W s a x r y (suc (suc j)) W refl (λ f b t gs hs l φ v u o.
        let i = argument_from P r.part w.argument f b (argument_ends P W s a x r y w c) v.part in
        let d = o.1.0.1 in
        m b (part_at 0 t j).1 i (part_at_lem W r.target 0 t j v.target.part d.within) (sym (c.rigid_argument b i) ∙ k) φ
        (part_at 0 t j).0 o.1.0.0 d.copy o.1.0.2))

  pub no_argument : (X : List ℕ) (w : Option ℕ) → Placed W s.top r.target j X w → w ≡ None
      → Branched P W s a (Way (suc (suc j))) X None
  no_argument X w p c =
      let n = placed_no W s.top r.target j X w p c in
      branch_failed P W s a (Way (suc (suc j))) X (way_failed P W s a x r y (suc (suc j)) X n.0 (λ f b t gs hs l φ v u o.
      n.1 t o.1.0.0 v.target.part o.1.0.1))

  module _ (X : List ℕ) (end : ℕ) (walk : Option ℕ) (placed : Placed W s.top r.target j X walk) (upto : walk ≡ Some end) where
    pub record ArgumentStanding (f b t : Term) : Type 0 where
      pub found : Argument W s.top t j X end
      pub few : size (argument_of t j) ≤ size t
      pub kept : Kept W X s.top
      pub target : Part X r.target t

    standing : (f b t : Term) → ApplicationSite P W s r f b t → ArgumentStanding f b t
    standing f b t v =
        let o = placed_at W s.top r.target j X walk end placed upto t v.target.part in
        let e = argument_of t j in
        let m : size e ≤ size t = part_size t j e o.within o.copy in
        let n : s.top ≤ length W = omega (arith, x.ready.bounds.whole, x.ready.bounds.top) in
        let k : Kept W X s.top = record { same = o.same_below; from = n; to = omega (arith, o.same_length) } in
        record {
          found = o;
          few = m;
          kept = k;
          target = part_kept W X s.top k r.target t v.target.below v.target.part;
        }

    pub record Ending : Type 0 where
      pub more : target_start s + 4 ≤ end
      pub most : end ≤ target_start s + 616
      pub even : end % 4 ≡ 0
      pub whole : length X ≡ table_bytes
      pub same : take s.top X ≡ take s.top W

    pub ending : Ending
    ending = from_application P W s a x Ending (λ gs hs l f b t z.
        let v = application_site P W s a r gs hs l f b t y z in
        let o = standing f b t v in
        let c = application_parts P r.part f b v.part in
        record {
          more = omega (arith, o.found.end, o.found.part.some);
          most = omega (arith, o.found.end, o.few, v.target.short, c.0.some, c.1.some);
          even = omega (arith, o.found.end, x.ready.bounds.even);
          whole = o.found.same_length ∙ x.ready.bounds.whole;
          same = o.kept.same;
        })

    target_whole : Whole X r.target
    target_whole = from_application P W s a x (Whole X r.target) (λ gs hs l f b t z.
        whole X r.target t (standing f b t (application_site P W s a r gs hs l f b t y z)).target)

    found_whole : Whole X (target_start s)
    found_whole = from_application P W s a x (Whole X (target_start s)) (λ gs hs l f b t z.
        whole X (target_start s) (argument_of t j) (standing f b t (application_site P W s a r gs hs l f b t y z)).found.part)

    pub pushed_target_within : r.target ≤ length X
    pushed_target_within = omega (arith, target_whole.least)

    pub found_within : target_start s ≤ length X
    found_within = omega (arith, found_whole.least)

    pub looks : Looks (slice X r.target) (slice X (target_start s)) 0
    looks = looks_at X X r.target (target_start s) 0 target_whole found_whole (omega (arith, ending.whole))

    pub comparable : ArgumentComparable (slice P (r.part + 4)) (slice X r.target) (slice X (target_start s))
    comparable = from_application P W s a x (ArgumentComparable (slice P (r.part + 4)) (slice X r.target) (slice X (target_start s)))
        (λ gs hs l f b t z.
        let v = application_site P W s a r gs hs l f b t y z in
        let o = standing f b t v in
        let n = pattern_records - size (app f b) in
        argument_comparable_at P (r.part + 4) X r.target X (target_start s) (stored_bounds P W s a x r y).head x.ready.bounds.short
        (all_marks_at X r.target n t o.target (omega arith) v.target.closed (omega (arith, v.target.short)))
        (all_marks_at X (target_start s) n (argument_of t j) o.found.part (omega arith)
        (part_closed t j (argument_of t j) o.found.within o.found.copy n v.target.closed)
        (omega (arith, v.target.short, o.few))))

    -- an earlier part gives the same argument
    pub again : (b : Bool) → Earlier (slice X r.target) j (slice X (target_start s)) b → b ≡ true
        → Branched P W s a (Way (suc (suc j))) X None
    again k e c =
        branch_failed P W s a (Way (suc (suc j))) X (way_failed P W s a x r y (suc (suc j)) X ending.same (λ f b t gs hs l φ v u o.
        let n = standing f b t v in
        let m = earlier_yes_at X X r.target (target_start s) j k e t (argument_of t j) n.target n.found.part c in
        first_not_again t m.0 j o.1.0.0 m.1 m.3 o.1.0.1))

    -- the argument's target and its heights against its skeleton
    pub found_comparable :
        (w : Ways) → WaysCounted P W s a w
        → SkeletonComparable (take (w.skeleton.length - 0) (drop 0 w.skeleton.bytes)) (slice X (target_start s)) (slice X s.top)
    found_comparable w c = from_application P W s a x (Comparable s.top) (λ gs hs l f b t z.
        let o = (standing f b t (application_site P W s a r gs hs l f b t y z)).found in
        subst Comparable (omega arith)
        (skeleton_comparable w.skeleton.bytes w.skeleton.length c.skeleton_table X (target_start s) (target_start s)
        (argument_of t j)
        o.part o.heights (omega (arith, ending.whole))))
      where
        Comparable : ℕ → Type 0
        Comparable i =
            SkeletonComparable (take (w.skeleton.length - 0) (drop 0 w.skeleton.bytes)) (slice X (target_start s)) (slice X i)

    -- no assignment sweeps the argument to what doesn't fit its skeleton
    pub unfitting :
        (w : Ways) (c : WaysCounted P W s a w) (b : Bool)
        → MayBe (take (w.skeleton.length - 0) (drop 0 w.skeleton.bytes)) (slice X (target_start s)) b → b ≡ false
        → Branched P W s a (Way (suc (suc j))) X None
    unfitting w c b e i =
        let k = c.skeleton_table in
        let q = may_be_at (take (w.skeleton.length - 0) (drop 0 w.skeleton.bytes)) X (target_start s) b i e in
        branch_failed P W s a (Way (suc (suc j))) X (record {
          none = λ gs hs l z φ v. application_opened P W s a x gs l (λ us. Fitting k.tree l us → ¬ Way (suc (suc j)) gs us l φ)
              (λ f b t us o m p.
              let n = standing f b t (application_site P W s a r gs us l f b t y o) in
              let u : p.1.0.0 ≡ argument_of t j = first_lowered t j p.1.0.0 p.1.0.1 in
              q k.tree (argument_of t j) (skeleton_part w.skeleton.bytes w.skeleton.length k) n.found.part
              (subst (Fits k.tree) (p.1.0.2 ∙ u) (m φ v p.2))) hs z
              (c.skeleton_fits gs hs l z);
          kept = ending.same;
        })

    -- the target has a local that nothing brings in
    pub lacking : (c : Bool) → Misses (slice P (r.part + 4)) (slice X r.target) (slice X (target_start s)) c → c ≡ true
        → Branched P W s a (Way (suc (suc j))) X None
    lacking c e i =
        let q = misses_at P (r.part + 4) X r.target X (target_start s) c i e in
        branch_failed P W s a (Way (suc (suc j))) X (way_failed P W s a x r y (suc (suc j)) X ending.same (λ f b t gs hs l φ v u o.
        let n = standing f b t v in
        let k = application_parts P r.part f b v.part in
        let m = q.1 f t (argument_of t j) k.0 n.target n.found.part in
        let w : o.1.0.0 ≡ argument_of t j = first_lowered t j o.1.0.0 o.1.0.1 in
        subst T (sym (build_local φ u f t o.1.0.0 q.0 o.1.0.3 m.0 m.1) ∙ ap (uses q.0) w ∙ m.2) tt))

    module _ (h : ℕ) (eh : Ends P (r.part + 4) h) (earlier : Earlier (slice X r.target) j (slice X (target_start s)) false)
        (Y Z : List ℕ)
        (first : Y ≡ sets X end (stored_bytes (head_goal s r)))
        (second : Z ≡ sets Y (end + goal_bytes) (stored_bytes (argument_goal s h)))
      where
        first_found : (f b t : Term) → ApplicationSite P W s r f b t → FirstCopy t j (argument_of t j)
        first_found f b t v =
            let n = standing f b t v in
            first_from t j (argument_of t j) n.found.within n.found.copy
            (λ i l.
            earlier_no_at X X r.target (target_start s) j false earlier t (argument_of t j) n.target n.found.part refl i l
            (omega (arith, n.found.within)))

        length_Y : length Y ≡ table_bytes
        length_Y = length_stored (stored_bytes (head_goal s r)) X Y end first ∙ ending.whole

        length_Z : length Z ≡ table_bytes
        length_Z = length_stored (stored_bytes (argument_goal s h)) Y Z (end + goal_bytes) second ∙ length_Y

        kept_X : Kept X Y end
        kept_X = kept_sets (stored_bytes (head_goal s r)) X Y end end first (omega arith)
            (omega (arith, ending.whole, ending.most, (stored_bounds P W s a x r y).room))

        kept_Y : Kept Y Z (end + goal_bytes)
        kept_Y = kept_sets (stored_bytes (argument_goal s h)) Y Z (end + goal_bytes) (end + goal_bytes) second (omega arith)
            (omega (arith, length_Y, ending.most, (stored_bounds P W s a x r y).room))

        kept_XZ : Kept X Z end
        kept_XZ = kept_then X Y Z end (end + goal_bytes) (omega arith) kept_X kept_Y

        abbrev last : Agenda
        last = record { top = end + 2 * goal_bytes; easy = end + goal_bytes; deferred = end }

        argument_state :
            (gs hs : List Goal) (l : Line) (f b t : Term) → ApplicationSite P W s r f b t → MatchState P W s a gs l f b t hs
            → State 0 P Z last a (match b (argument_of t j) ∷ gs) (build f t (argument_of t j) ∷ hs) l
        argument_state gs hs l f b t v z =
            let e = argument_of t j in
            let g = v.target in
            let o = standing f b t v in
            let n = stored_bounds P W s a x r y in
            let bounds = x.ready.bounds in
            let c = application_parts P r.part f b v.part in
            let more = ending.more in
            let most = ending.most in
            let ends : end ≡ target_start s + 4 * size e = o.found.end in
            let kept_WY : Kept W Y s.top = kept_then W X Y s.top end (omega arith) o.kept kept_X in
            let kept_WZ : Kept W Z s.top = kept_then W X Z s.top end (omega arith) o.kept kept_XZ in
            let suits = listable_argument variables (OccursIn P) f b t j e (first_found f b t v) v.suits in
            let old : Target W s.top (suc (size f)) r.origin r.target t = record {
              part = g.part;
              below = g.below;
              normal = g.normal;
              ground = g.ground;
              few = omega (arith, g.few);
              closed = closed_more (pattern_records - size (app f b)) (pattern_records - suc (size f)) t (omega arith) g.closed;
              short = omega (arith, g.short, c.1.some);
              heights = g.heights;
            } in
            let new : (m : ℕ) → m ≤ size (app f b) → Target X end m (target_start s) (target_start s) e = λ m i. record {
              part = o.found.part;
              below = omega arith;
              normal = part_normal t j e o.found.within o.found.copy g.normal;
              ground = part_ground t j e o.found.within o.found.copy g.ground;
              few = omega (arith, g.few);
              closed = closed_more (pattern_records - size (app f b)) (pattern_records - m) e (omega arith)
                  (part_closed t j e o.found.within o.found.copy (pattern_records - size (app f b)) g.closed);
              short = omega (arith, g.short, o.few);
              heights = o.found.heights;
            } in
            let one : StoredAt Y end (head_goal s r) =
            goal_stored X Y end (head_goal s r) first (omega (arith, ending.whole, n.room)) (omega (arith, v.part_even)) v.origin_even
            g.heights.from v.target_even v.next_even (omega (arith, bounds.even)) in
            let two : StoredAt Z (end + goal_bytes) (argument_goal s h) =
            goal_stored Y Z (end + goal_bytes) (argument_goal s h) second (omega (arith, length_Y, n.room))
            (omega (arith, v.part_even, eh.exact f c.0)) (omega (arith, bounds.even)) (omega arith) (omega (arith, bounds.even))
            bounds.easy_even (omega arith) in
            let rest : Chain Deferred P W s.top r.next hs =
            subst (λ (i : ℕ). Chain Deferred P W s.top i hs) (sym y.next) z.deferred.1 in
            let built : Chain Deferred P Y (end + goal_bytes) end (build f t e ∷ hs) =
            chain_build Deferred P Y (end + goal_bytes) end (head_goal s r) one (omega arith) (omega arith) ending.even
            (omega (arith, n.next, bounds.deferred_room)) f t e hs tt c.0
            (target_kept W Y s.top kept_WY (end + goal_bytes) (omega arith) (suc (size f)) r.origin r.target t old)
            (target_kept X Y end kept_X (end + goal_bytes) (omega arith) (suc (size f)) (target_start s) (target_start s) e
            (new (suc (size f)) (omega (arith, c.1.some))))
            suits.1
            (chain_kept W Y s.top kept_WY (end + goal_bytes) (omega arith) P Deferred r.next hs rest) in
            record {
              easy = chain_match Easy P Z (end + 2 * goal_bytes) (end + goal_bytes) (argument_goal s h) two (omega arith) (omega arith)
                  (omega (arith, ending.even)) (omega (arith, bounds.easy_room))
                  b e gs refl tt (argument_from P r.part h f b eh v.part)
                  (target_kept X Z end kept_XZ (end + 2 * goal_bytes) (omega arith) (size b) (target_start s) (target_start s) e
                  (new (size b) (omega arith)))
                  suits.0
                  (chain_kept W Z s.top kept_WZ (end + 2 * goal_bytes) (omega arith) P Easy s.easy gs z.easy);
              deferred = chain_kept Y Z (end + goal_bytes) kept_Y (end + 2 * goal_bytes) (omega arith) P Deferred end
                  (build f t e ∷ hs) built;
              entries = holds_kept W Z s.top kept_WZ (end + 2 * goal_bytes) (omega arith) a l z.entries;
              line = z.line;
              assigns = z.assigns;
              room = omega (arith, z.room);
            }

        argument_move : Move relinking P W s a (Way (suc (suc j))) Z last a
        argument_move = record {
          go = λ gs hs l z. application_opened P W s a x gs l (λ us. Moved P Z last a (Way (suc (suc j)) gs us l)) (λ f b t us o.
              let v = application_site P W s a r gs us l f b t y o in
              record {
                gs = match b (argument_of t j) ∷ gs;
                hs = build f t (argument_of t j) ∷ us;
                line = l;
                state = argument_state gs us l f b t v o;
                same = λ φ _. (
                  λ p.
                      let m = (alternative_argument φ f b us t j (argument_of t j) (first_found f b t v)).0 p.1 in
                      ((m.0, p.0), m.1, p.2),
                  λ p.
                      let m = (alternative_argument φ f b us t j (argument_of t j) (first_found f b t v)).1 (p.0.0, p.1) in
                      (p.0.1, m, p.2),
                );
              }) hs z;
          kept = from_application P W s a x (take s.top Z ≡ take s.top W) (λ gs hs l f b t z.
              (kept_then W X Z s.top end (omega (arith, ending.more))
              (standing f b t (application_site P W s a r gs hs l f b t y z)).kept kept_XZ).same);
          higher = omega (arith, ending.more);
          falls = omega (arith, x.ready.bounds.top, (stored_bounds P W s a x r y).room, ending.more, ending.most);
          bounds = let n = stored_bounds P W s a x r y in let bounds = x.ready.bounds in record {
            whole = length_Z;
            short = bounds.short;
            top = omega (arith, n.room, ending.most);
            start = omega arith;
            even = omega (arith, ending.even);
            easy_room = omega arith;
            easy_even = omega (arith, ending.even);
            deferred_room = omega arith;
            deferred_even = ending.even;
          };
        }

    -- room for the two goals, and the search goes on from there
    pub argument_room : StoredFits r → (h : ℕ) → Ends P (r.part + 4) h → ArgumentRoom X s r h end
    argument_room fits h eh =
        let n = stored_bounds P W s a x r y in
        let bounds = x.ready.bounds in
        record {
          room = omega (arith, n.room, ending.most, ending.whole);
          most = omega (arith, ending.whole);
          build_fits = fits_build _ (r.part + 4) r.origin r.target r.next (target_start s) refl
              (omega (arith, n.part_low, bounds.short)) fits.origin fits.from fits.near fits.next
              (omega (arith, bounds.top));
          match_fits = fits_match _ h (target_start s) (target_start s) s.easy refl
              (omega (arith, (application_argument_whole P W s a x r y h eh).least, bounds.short)) (omega (arith, bounds.top))
              (omega arith) (omega arith) (omega (arith, bounds.easy_room, bounds.top));
        }

    pub argument_found : (h : ℕ) (e : Bool) (Z : List ℕ) (s' : Agenda) → Ends P (r.part + 4) h
        → Earlier (slice X r.target) j (slice X (target_start s)) e → e ≡ false → ArgumentPushed X s r h end Z s'
        → Branched P W s a (Way (suc (suc j))) Z (Some s')
    argument_found h e Z s' eh b c d =
        subst (λ (q : Agenda). Branched P W s a (Way (suc (suc j))) Z (Some q)) (sym d.agenda)
        (branch_next P W s a (Way (suc (suc j))) Z (record { top = end + 2 * goal_bytes; easy = end + goal_bytes; deferred = end })
        (argument_move h eh (subst (Earlier (slice X r.target) j (slice X (target_start s))) c b) _ Z refl d.stored))
