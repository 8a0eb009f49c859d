-- A recipe stored: the part of the directory that has the counts is written, and then a counter. The tables are those of a shelf again, and
-- no other recipe has changed. Assumes nothing.
use mathlib.Core.Path.{◌≡◌, refl, sym, ap, ap₂, ◌∙◌}
use mathlib.Core.List.{List, [], ◌++◌}
use Prim.Native.Nat.{ℕ, ◌+◌, ◌*◌, ◌/◌, ◌<◌}
use native.Mathlib.Omega.{arith}
use lib.ListN.{length, drop, set, get_or, length-set, take-append-drop}
use lib.Seq.{sets, set-append_left, length-sets, take-set-lt, get_or-set_other}
use Rattle.terms.specs.Figures.{words, buoys}
use Rattle.copying.proofs.Stores.{take_sets}
use Rattle.slots.specs.Slots.{cut, joined, replaced, Replaceable}
use Rattle.slots.proofs.Counts.{total_set}
use Rattle.slots.proofs.Replacing.{cut_replaced}
use Rattle.counters.specs.Counters.{counter_bytes, raised, count_at}
use Rattle.counters.proofs.Bytes.{count_stored}
use Rattle.storage.specs.Storage.{counts_of, counter_number, counter_at, count_of, held, Stored}
use Rattle.storage.specs.Steps.{Shelf, Storable}
use Rattle.storage.proofs.Tables.{counts_length, shelf_bounds}

-- no bytes have room in any buoy's place
pub none_storable : (k b : ℕ) (d t : List ℕ) → k < counter_number → b < buoys → Shelf d t → Storable k b [] d t
none_storable k b d t g h s =
    let n : b < length (counts_of d) = omega (arith, counts_length d s.directory) in
    record {
      counter = g;
      within = h;
      shelf = s;
      records = 0;
      whole = refl;
      most = omega arith;
      room = omega (arith, total_set (counts_of d) b 0 n, s.directory.fits);
    }

module _ (k b : ℕ) (r d t : List ℕ) (h : Storable k b r d t) where
  within_counts : b < length (counts_of d)
  within_counts = omega (arith, counts_length d h.shelf.directory, h.within)

  pub replaceable : Replaceable (counts_of d) t b r
  replaceable = record {
    bounds = shelf_bounds d t h.shelf;
    within = within_counts;
    records = h.records;
    whole = h.whole;
    most = h.most;
    room = omega (arith, h.room, h.shelf.table);
  }

  -- the part written is the directory written
  count_written : set (counts_of d) b (length r / 4) ++ drop buoys d ≡ set d b (length r / 4)
  count_written =
      sym (set-append_left (counts_of d) (drop buoys d) b (length r / 4) within_counts)
      ∙ ap (λ (l : List ℕ). set l b (length r / 4)) (take-append-drop buoys d)

  -- x is the part that was lent, d' the directory at the end
  pub stored : (x d' t' : List ℕ) → x ≡ set (counts_of d) b (length r / 4) → t' ≡ replaced (counts_of d) t b r
      → d' ≡ sets (x ++ drop buoys d) (counter_at k) (counter_bytes (raised (count_at (x ++ drop buoys d) (counter_at k))))
      → Stored k b r d t d' t'
  stored x d' t' e f g =
      let p : x ++ drop buoys d ≡ set d b (length r / 4) = ap (λ (l : List ℕ). l ++ drop buoys d) e ∙ count_written in
      record {
        directory = g ∙ ap (λ (l : List ℕ). sets l (counter_at k) (counter_bytes (raised (count_at l (counter_at k))))) p;
        table = f;
      }

  -- what is known of the tables then
  module _ (d' t' : List ℕ) (s : Stored k b r d t d' t') where
    counts_stored : counts_of d' ≡ set (counts_of d) b (length r / 4)
    counts_stored =
        ap counts_of s.directory
        ∙ take_sets (counter_bytes (raised (count_at (set d b (length r / 4)) (counter_at k)))) (set d b (length r / 4)) buoys
        (counter_at k)
        (omega arith)
        ∙ take-set-lt buoys d b (length r / 4) h.within

    length_stored : length d' ≡ length d
    length_stored =
        ap length s.directory
        ∙ length-sets (set d b (length r / 4)) (counter_at k) (counter_bytes (raised (count_at (set d b (length r / 4)) (counter_at k))))
        ∙ length-set d b (length r / 4)

    -- the counter's bytes lie behind the counts
    byte_behind : (i : ℕ) → get_or (set d b (length r / 4)) (counter_at k + i) 0 ≡ get_or d (counter_at k + i) 0
    byte_behind i = get_or-set_other d b (counter_at k + i) (length r / 4) 0 (λ e. omega (arith, h.within))

    count_behind : count_at (set d b (length r / 4)) (counter_at k) ≡ count_at d (counter_at k)
    count_behind =
        let i : counter_at k ≡ counter_at k + 0 = omega arith in
        let j : counter_at k + 2 + 1 ≡ counter_at k + 3 = omega arith in
        let a : get_or (set d b (length r / 4)) (counter_at k) 0 ≡ get_or d (counter_at k) 0 = rw i (byte_behind 0) in
        let c : get_or (set d b (length r / 4)) (counter_at k + 2 + 1) 0 ≡ get_or d (counter_at k + 2 + 1) 0 = rw j (byte_behind 3) in
        ap₂ (λ (x y : ℕ). x * words + y) (ap₂ (λ (x y : ℕ). x * 256 + y) a (byte_behind 1))
        (ap₂ (λ (x y : ℕ). x * 256 + y) (byte_behind 2) c)

    pub count_raised : count_of k d' ≡ raised (count_of k d)
    count_raised =
        ap (λ (l : List ℕ). count_at l (counter_at k)) s.directory
        ∙ count_stored (set d b (length r / 4)) (counter_at k) (raised (count_at (set d b (length r / 4)) (counter_at k)))
        (omega (arith, length-set d b (length r / 4), h.shelf.directory.size, h.counter))
        ∙ ap raised count_behind

    pub shelf_stored : Shelf d' t'
    shelf_stored =
        let n : length r / 4 ≡ h.records = omega (arith, h.whole) in
        record {
          directory = record {
            size = length_stored ∙ h.shelf.directory.size;
            fits = rw (counts_stored, n) h.room;
          };
          table = ap length s.table ∙ length-sets t 0 (joined (set (cut (counts_of d) t) b r)) ∙ h.shelf.table;
        }

    -- the recipe is the buoy's, and all others are as they were
    pub held_stored : held d' t' ≡ set (held d t) b r
    held_stored = ap₂ cut counts_stored s.table ∙ cut_replaced (counts_of d) t b r replaceable
