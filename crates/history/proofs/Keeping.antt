-- A shelf keeps its history: the two tables hold, for each buoy, the last recipe put and not taken out, and the counter has the number of
-- changes. So does a new shelf for no calls, and each call keeps it so. Assumes nothing.
--   Keeps cs d t   the directory d and the record table t keep the history cs
use mathlib.Core.Path.{◌≡◌, refl, sym, ap, ap₂, subst, ◌∙◌}
use mathlib.Core.Bool.{cond}
use mathlib.Core.List.{List, [], ◌∷◌}
use mathlib.Core.Logic.{◌⊎◌, inl}
use Prim.Native.Nat.{ℕ, ◌+◌, ◌*◌, ◌/◌, ◌<◌, min}
use native.Mathlib.Omega.{arith}
use lib.Dec.{eqb}
use lib.ListN.{length, get_or, set, length-replicate, get_or-replicate}
use lib.Seq.{get_or-set_same, get_or-set_other}
use Rattle.terms.specs.Figures.{buoys, ceiling}
use Rattle.terms.specs.Refusal.{Passed, recipe_rows}
use Rattle.terms.proofs.Tests.{by_eqb}
use Rattle.slots.specs.Slots.{total}
use Rattle.slots.proofs.Counts.{total_zeros}
use Rattle.slots.proofs.Strings.{length_cut}
use Rattle.counters.specs.Counters.{raised}
use Rattle.storage.specs.Storage.{directory_bytes, counts_of, count_of, held, recipe_of, Stored}
use Rattle.storage.specs.Steps.{Shelf, Storable}
use Rattle.storage.proofs.Tables.{counts_length, count_at_lem, recipe_length}
use Rattle.storage.proofs.Storing.{count_raised, shelf_stored, held_stored}
use Rattle.shelf.specs.Operations.{changes}
use Rattle.history.specs.Law.{Call, after, latest, New}

pub record Keeps (cs : List Call) (d t : List ℕ) : Type 0 where
  pub shelf : Shelf d t
  pub recipes : (k : ℕ) → k < buoys → recipe_of k d t ≡ latest k cs
  pub valid : (k : ℕ) → (latest k cs ≡ []) ⊎ Passed (recipe_rows (latest k cs))
  pub count : count_of changes d ≡ min (after cs).changes ceiling

pub no_bytes : (l : List ℕ) → length l ≡ 0 → l ≡ []
no_bytes [] e = refl
no_bytes (x ∷ l) e = absurd (omega arith)

-- what is read off the counts
module _ (cs : List Call) (d t : List ℕ) (i : Keeps cs d t) where
  latest_length : (k : ℕ) → k < buoys → length (latest k cs) ≡ 4 * get_or (counts_of d) k 0
  latest_length k h = ap length (sym (i.recipes k h)) ∙ recipe_length d t i.shelf k

  pub latest_count : (k : ℕ) → k < buoys → get_or (counts_of d) k 0 ≡ length (latest k cs) / 4
  latest_count k h = omega (arith, latest_length k h)

  pub latest_whole : (k : ℕ) → k < buoys → length (latest k cs) ≡ 4 * (length (latest k cs) / 4)
  latest_whole k h = omega (arith, latest_length k h)

  pub latest_none : (k : ℕ) → k < buoys → get_or (counts_of d) k 0 ≡ 0 → latest k cs ≡ []
  latest_none k h e = no_bytes (latest k cs) (omega (arith, latest_length k h))

  pub none_latest : (k : ℕ) → k < buoys → latest k cs ≡ [] → get_or (counts_of d) k 0 ≡ 0
  none_latest k h e = omega (arith, latest_length k h, ap length e)

-- a change: c is the call, r the bytes that buoy b has then
module _ (cs : List Call) (d t : List ℕ) (i : Keeps cs d t) (b : ℕ) (r d' t' : List ℕ) (ready : Storable changes b r d t)
    (s : Stored changes b r d t d' t') where
  held_length : b < length (held d t)
  held_length = omega (arith, length_cut (counts_of d) t, counts_length d i.shelf.directory, ready.within)

  held_at : (k : ℕ) → k < buoys → recipe_of k d' t' ≡ cond (eqb b k) r (latest k cs)
  held_at k g =
      ap (λ (m : List (List ℕ)). get_or m k []) (held_stored changes b r d t ready d' t' s)
      ∙ by_eqb (λ x. get_or (set (held d t) b r) k [] ≡ cond x r (latest k cs)) b k
      (λ q. ap (λ (j : ℕ). get_or (set (held d t) b r) j []) (sym q) ∙ get_or-set_same (held d t) b r [] held_length)
      (λ q. get_or-set_other (held d t) b k r [] (λ z. q (sym z)) ∙ i.recipes k g)

  pub change_keeps :
      (c : Call) → (r ≡ []) ⊎ Passed (recipe_rows r) → ((k : ℕ) → latest k (c ∷ cs) ≡ cond (eqb b k) r (latest k cs))
      → (after (c ∷ cs)).changes ≡ (after cs).changes + 1 → Keeps (c ∷ cs) d' t'
  change_keeps c v l n = record {
    shelf = shelf_stored changes b r d t ready d' t' s;
    recipes = λ k g. held_at k g ∙ sym (l k);
    valid = λ k. subst (λ (x : List ℕ). (x ≡ []) ⊎ Passed (recipe_rows x)) (sym (l k)) (valid_at k);
    count = count_raised changes b r d t ready d' t' s
        ∙ more (count_of changes d) (after cs).changes (after (c ∷ cs)).changes i.count n;
  }
    where
      valid_at : (k : ℕ) → (cond (eqb b k) r (latest k cs) ≡ []) ⊎ Passed (recipe_rows (cond (eqb b k) r (latest k cs)))
      valid_at k =
          by_eqb (λ x. (cond x r (latest k cs) ≡ []) ⊎ Passed (recipe_rows (cond x r (latest k cs)))) b k (λ q. v) (λ q. i.valid k)

      more : (a m m' : ℕ) → a ≡ min m ceiling → m' ≡ m + 1 → raised a ≡ min m' ceiling
      more a m m' p q = omega arith

-- a call that leaves the shelf as it was
pub same_keeps :
    (cs : List Call) (d t d' t' : List ℕ) → Keeps cs d t → (c : Call) → d' ≡ d → t' ≡ t → ((k : ℕ) → latest k (c ∷ cs) ≡ latest k cs)
    → (after (c ∷ cs)).changes ≡ (after cs).changes → Keeps (c ∷ cs) d' t'
same_keeps cs d t d' t' i c p q l n =
    subst (λ (x : List ℕ). Keeps (c ∷ cs) x t') (sym p)
    (subst (λ (x : List ℕ). Keeps (c ∷ cs) d x) (sym q) (record {
      shelf = i.shelf;
      recipes = λ k g. i.recipes k g ∙ sym (l k);
      valid = λ k. subst (λ (x : List ℕ). (x ≡ []) ⊎ Passed (recipe_rows x)) (sym (l k)) (i.valid k);
      count = i.count ∙ ap (λ (m : ℕ). min m ceiling) (sym n);
    }))

-- a new shelf
pub new_keeps : (d t : List ℕ) → New d t → Keeps [] d t
new_keeps d t n = record { shelf = shelf; recipes = none; valid = λ k. inl refl; count = zero_count }
  where
    zeros : total (counts_of d) ≡ 0
    zeros = ap (λ (x : List ℕ). total (counts_of x)) n.directory ∙ total_zeros directory_bytes buoys

    shelf : Shelf d t
    shelf = record {
      directory = record {
        size = ap length n.directory ∙ length-replicate {A = ℕ} directory_bytes 0;
        fits = omega (arith, zeros);
      };
      table = n.table;
    }

    zero_at : (k : ℕ) → k < directory_bytes → get_or d k 0 ≡ 0
    zero_at k h = ap (λ (x : List ℕ). get_or x k 0) n.directory ∙ get_or-replicate {A = ℕ} directory_bytes k 0 0 h

    none : (k : ℕ) → k < buoys → recipe_of k d t ≡ []
    none k h = no_bytes (recipe_of k d t) (recipe_length d t shelf k ∙ omega (arith, count_at_lem d k h, zero_at k (omega arith)))

    zero_count : count_of changes d ≡ min 0 ceiling
    zero_count =
        ap₂ (λ (x y : ℕ). x * 65536 + y)
        (ap₂ (λ (x y : ℕ). x * 256 + y) (zero_at 200 (omega arith)) (zero_at 201 (omega arith)))
        (ap₂ (λ (x y : ℕ). x * 256 + y) (zero_at 202 (omega arith)) (zero_at 203 (omega arith)))
