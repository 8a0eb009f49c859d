-- Targets and the heights of their parts: those of a target's parts stand where its own do, and a target that was just written stands with
-- its heights in front of it once they are kept. Assumes nothing.
--   NewTarget W Z top t  the term t stands in Z from byte `top + height_bytes` on, with its heights in front; what is below `top` is W's
use mathlib.Core.Path.{◌≡◌, sym, ap, ◌∙◌, subst}
use mathlib.Core.List.{List, ◌++◌}
use Prim.Native.Nat.{ℕ, ◌+◌, ◌-◌, ◌*◌, ◌/◌, ◌≤◌}
use native.Mathlib.Omega.{arith}
use lib.ListN.{length, take, drop, length-append}
use lib.Seq.{sets, sets-eq, drop_at, drop-drop, length-take-le}
use Rattle.terms.specs.Figures.{pattern_records, value_records}
use Rattle.terms.specs.Term.{Term, app, lam, size, Closed}
use Rattle.terms.specs.Table.{encode}
use Rattle.terms.proofs.Table.{encode_length}
use Rattle.records.specs.Parts.{Part}
use Rattle.records.proofs.Parts.{part, part_one, part_bytes}
use Rattle.heights.specs.Heights.{heights, HeightsAt, HeightSource}
use Rattle.heights.proofs.Heights.{closed_height, heights_length, heights_head, heights_argument, heights_body, heights_stored}
use Rattle.copying.proofs.Stores.{stored}
use Rattle.agenda.specs.State.{height_bytes, heights_place, HeightsBeside, WrittenTarget}
use Rattle.agenda.proofs.Frame.{Kept, part_stored, kept_sets, kept_then, length_stored}

-- the heights of a target's parts stand where its own do
module _ (W : List ℕ) (b at : ℕ) (t : Term) (x : HeightsBeside W b at t) where
  part_beside : (n : ℕ) (u : Term) → n + size u ≤ size t → HeightsAt W (heights_place b at + n) u → HeightsBeside W b (at + 4 * n) u
  part_beside n u h y = record {
    low = x.low;
    from = omega (arith, x.from);
    within = omega (arith, x.within);
    heights = subst (λ (i : ℕ). HeightsAt W i u) (omega (arith, x.from)) y;
  }

  pub beside_head : (f a : Term) → t ≡ app f a → HeightsBeside W b (at + 4) f
  beside_head f a e =
      part_beside 1 f (omega (arith, ap size e)) (heights_head W (heights_place b at) t x.heights f a e)

  pub beside_argument : (f a : Term) → t ≡ app f a → HeightsBeside W b (at + 4 + 4 * size f) a
  beside_argument f a e =
      subst (λ (i : ℕ). HeightsBeside W b i a) (omega arith)
      (part_beside (1 + size f) a (omega (arith, ap size e))
      (subst (λ (i : ℕ). HeightsAt W i a) (omega arith) (heights_argument W (heights_place b at) t x.heights f a e)))

  pub beside_body : (c : Term) → t ≡ lam c → HeightsBeside W b (at + 4) c
  beside_body c e = part_beside 1 c (omega (arith, ap size e)) (heights_body W (heights_place b at) t x.heights c e)

-- the heights of a finished target are written into an array of their own, and copied in front of it
module _ (W : List ℕ) (at end : ℕ) (x : WrittenTarget W at end) where
  pub target_source : HeightSource (take (end - at) (drop at W))
  target_source =
      let bytes = part_bytes W at (end - at) x.tree x.part (omega (arith, x.end_is)) in
      record {
        tree = x.tree;
        table = bytes;
        few = x.few;
        low = omega (arith, closed_height pattern_records x.tree x.closed, x.few);
        least = omega (arith, ap length bytes, encode_length x.tree, x.part.some);
      }

  module _ (A B : List ℕ) (n : ℕ) (l : length A ≡ value_records) (m : n ≡ (end - at) / 4)
      (f : (t : Term) → take (end - at) (drop at W) ≡ encode t → B ≡ sets A 0 (heights t)) where
    bytes_of : (t : Term) → Part W at t → take (end - at) (drop at W) ≡ encode t
    bytes_of t y = part_bytes W at (end - at) t y (omega (arith, x.end_is, ap size (part_one W at x.tree t x.part y)))

    pub heights_copied : (X : List ℕ) → X ≡ sets W (at - height_bytes) (take (n - 0) (drop 0 B)) → (t : Term) → Part W at t
        → X ≡ sets W (at - height_bytes) (heights t)
    heights_copied X e t y =
        let same = ap size (part_one W at x.tree t x.part y) in
        e ∙ ap (sets W (at - height_bytes)) (stored A B (heights t) n (f t (bytes_of t y))
        (omega (arith, m, x.end_is, same, heights_length t)) (omega (arith, m, x.end_is, x.few, l)))

-- what is stored before a term leaves it there
part_behind : (vs Y Z : List ℕ) (o at : ℕ) (t : Term) → Z ≡ sets Y o vs → o + length vs ≤ at → o + length vs ≤ length Y → Part Y at t
    → Part Z at t
part_behind vs Y Z o at t e h r x = part Z at t x.rest (cut Z ∙ ap (drop k) behind ∙ sym (cut Y) ∙ x.bytes)
  where
    m : ℕ
    m = o + length vs

    k : ℕ
    k = at - (o + length vs)

    cut : (l : List ℕ) → drop at l ≡ drop k (drop m l)
    cut l =
        let n : at ≡ m + k = omega arith in
        ap (λ (i : ℕ). drop i l) n ∙ sym (drop-drop k m l)

    behind : drop m Z ≡ drop m Y
    behind =
        ap (drop m) (e ∙ sets-eq vs Y o r)
        ∙ drop_at (take o Y ++ vs) (drop (o + length vs) Y) m
        (length-append (take o Y) vs ∙ ap (◌+ length vs) (length-take-le o Y (omega arith)))

pub record NewTarget (W Z : List ℕ) (top : ℕ) (t : Term) : Type 0 where
  pub kept : Kept W Z top
  pub part : Part Z (top + height_bytes) t
  pub heights : HeightsBeside Z (top + height_bytes) (top + height_bytes) t
  pub same_length : length Z ≡ length W

-- a target was written, and then its heights
module _ (W Y Z : List ℕ) (top : ℕ) (t : Term) (e : Y ≡ sets W (top + height_bytes) (encode t))
    (room : top + height_bytes + 4 * size t ≤ length W) (few : size t ≤ value_records) where
  written : length Y ≡ length W
  written = length_stored (encode t) W Y (top + height_bytes) e

  stands : Part Y (top + height_bytes) t
  stands = subst (λ (l : List ℕ). Part l (top + height_bytes) t) (sym e) (part_stored t W (top + height_bytes) room)

  pub written_target : Closed pattern_records t → (end : ℕ) → end ≡ top + height_bytes + 4 * size t
      → WrittenTarget Y (top + height_bytes) end
  written_target c end n = record { tree = t; part = stands; end_is = n; few = few; closed = c; room = omega arith }

  pub new_target : ((u : Term) → Part Y (top + height_bytes) u → Z ≡ sets Y (top + height_bytes - height_bytes) (heights u))
      → NewTarget W Z top t
  new_target f =
      let g = f t stands in
      record {
        kept = kept_then W Y Z top top (omega arith) (kept_sets (encode t) W Y (top + height_bytes) top e (omega arith) (omega arith))
            (kept_sets (heights t) Y Z (top + height_bytes - height_bytes) top g (omega arith) (omega (arith, written)));
        part = part_behind (heights t) Y Z (top + height_bytes - height_bytes) (top + height_bytes) t g
            (omega (arith, heights_length t, few))
            (omega (arith, heights_length t, few, written)) stands;
        heights = record {
          low = omega arith;
          from = omega arith;
          within = omega (arith, few);
          heights = subst (λ (i : ℕ). HeightsAt Z i t) (omega arith)
              (heights_stored Y Z (top + height_bytes - height_bytes) t g (omega (arith, few, written)));
        };
        same_length = length_stored (heights t) Y Z (top + height_bytes - height_bytes) g ∙ written;
      }
