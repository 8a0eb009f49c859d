-- A skeleton applied to a term: an abstraction that fits the skeleton comes, with the term put in, to what fits the applied skeleton. By
-- the law of fitting for applications, as every term fits itself. Assumes nothing.
use mathlib.Core.Path.{◌≡◌, sym, ap, subst}
use mathlib.Core.Bool.{Bool, true, false}
use mathlib.Core.List.{List}
use Prim.Native.Nat.{ℕ, ◌-◌, ◌*◌, ◌≤◌}
use native.Mathlib.Omega.{arith}
use lib.ListN.{length, take, drop}
use lib.Seq.{length-sets}
use Rattle.terms.specs.Term.{Term, lam, substitute}
use Rattle.terms.specs.Table.{encode}
use Rattle.terms.proofs.Table.{encode_length}
use Rattle.terms.proofs.Substitute.{size_pos}
use Rattle.matching.specs.Skeletons.{Fits}
use Rattle.matching.proofs.Skeletons.{fits_refl, closed_apply}
use Rattle.records.specs.Parts.{slice, Part, Whole, Ends}
use Rattle.records.proofs.Parts.{part_one, part_bytes, whole, at_start}
use Rattle.records.proofs.Slices.{part_slice}
use Rattle.sweeping.specs.Swept.{swept_bytes, SweptParts}
use Rattle.copying.proofs.Stores.{stored}
use Rattle.sweeping.proofs.Contraction.{table_length}
use Rattle.skeletons.specs.Skeleton.{SkeletonComparable, MayBe, SkeletonApplicable, MayBuild}
use Rattle.skeletons.specs.Contracted.{ApplicationSkeleton, Writes, WritesApplication}

module _ (c e t h : List ℕ) (x : SkeletonApplicable c e t h) where
  pub applied_argument_whole : Whole e 0
  applied_argument_whole = whole e 0 x.argument x.part

  module _ (end : ℕ) (m : Ends e 0 end) where
    abbrev table : List ℕ
    table = take (end - 0) (drop 0 e)

    argument_bytes : table ≡ encode x.argument
    argument_bytes = part_bytes e 0 (end - 0) x.argument x.part (omega (arith, m.exact x.argument x.part))

    pub skeleton_applied : SweptParts c table
    skeleton_applied =
        let n = table_length c x.skeleton x.bytes in
        let k = table_length table x.argument argument_bytes in
        record {
          head = x.skeleton;
          argument = x.argument;
          head_bytes = x.bytes;
          argument_bytes = argument_bytes;
          head_least = x.least;
          argument_least = omega (arith, k, size_pos x.argument);
          head_most = omega (arith, n, x.few);
          argument_most = omega (arith, k, x.argument_few);
          depth = x.depth;
          shallow = x.shallow;
          closed = closed_apply x.depth x.skeleton x.argument x.closed x.argument_closed;
        }

    module _ (out after : List ℕ) (n : ℕ) (w : WritesApplication c table out n after) (l : length out ≡ swept_bytes) where
      built : Writes (ApplicationSkeleton x.skeleton x.argument) out n after
      built = w.written x.skeleton x.argument x.bytes argument_bytes

      built_bytes : take (n * 4 - 0) (drop 0 after) ≡ encode built.skeleton
      built_bytes =
          stored out after (encode built.skeleton) (n * 4) built.bytes (omega (arith, built.sized, encode_length built.skeleton))
          (omega (arith, l, w.few))

      pub built_within : n * 4 ≤ length after
      built_within = omega (arith, l, w.few, ap length built.bytes, length-sets out 0 (encode built.skeleton))

      built_part : Part (take (n * 4 - 0) (drop 0 after)) 0 built.skeleton
      built_part = at_start (take (n * 4 - 0) (drop 0 after)) built.skeleton built_bytes

      pub built_comparable : SkeletonComparable (take (n * 4 - 0) (drop 0 after)) t h
      built_comparable = record {
        skeleton = whole (take (n * 4 - 0) (drop 0 after)) 0 built.skeleton built_part;
        term = x.target;
        skeleton_most = omega (arith, w.few, built.sized, table_length (take (n * 4 - 0) (drop 0 after)) built.skeleton built_bytes);
        term_most = x.most;
        heights = x.heights;
      }

      pub built_answer : (r : Bool) → MayBe (take (n * 4 - 0) (drop 0 after)) t r → MayBuild c e t r
      unfolding MayBe MayBuild
      built_answer true q = tt
      built_answer false q = λ y u z b i j k f g.
          let p : x.skeleton ≡ y = part_one c 0 x.skeleton y (at_start c x.skeleton x.bytes) i in
          let o : x.argument ≡ u = part_one e 0 x.argument u x.part j in
          let v = built.holds.fits (lam b) u (subst (λ (d : Term). Fits d (lam b)) (sym p) f)
          (subst (Fits x.argument) o (fits_refl x.argument)) in
          q built.skeleton z built_part k (subst (Fits built.skeleton) g v)

-- parts of a table, handed on as slices
pub may_build_at : (c s : List ℕ) (e t : ℕ) (r : Bool) → r ≡ false → MayBuild c (slice s e) (slice s t) r → (x y z b : Term) → Part c 0 x
    → Part s e y → Part s t z → Fits x (lam b) → ¬ (substitute 0 y b ≡ z)
unfolding MayBuild
may_build_at c s e t r i q x y z b p j k =
    let m : MayBuild c (slice s e) (slice s t) false = subst (MayBuild c (slice s e) (slice s t)) i q in
    m x y z b p (part_slice s e y j) (part_slice s t z k)
