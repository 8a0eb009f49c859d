-- The law of the shelf: each call of a run is answered as the calls before it say. By induction on the calls, as the tables keep the
-- history. And what a buoy has is a recipe that the operations take. Assumes nothing.
use mathlib.Core.Path.{◌≡◌, refl, sym, ap, ◌∙◌}
use mathlib.Core.List.{List, [], ◌∷◌}
use mathlib.Core.Logic.{◌⊎◌, inl, inr}
use Prim.Native.Nat.{ℕ, ◌*◌, ◌/◌, ◌%◌, ◌≤◌, ◌<◌}
use native.Mathlib.Decide.{ℕ_discrete}
use native.Mathlib.Omega.{arith}
use lib.ListN.{length, set}
use Rattle.std.specs.declared.result.Result.TheVariants.{Ok, Err}
use Rattle.terms.specs.Figures.{buoys, recipe_records, shelf_records}
use Rattle.terms.specs.Refusal.{Refused, Passed, BadLength, recipe_rows}
use Rattle.terms.proofs.Refusal.{passed_first}
use Rattle.refusals.specs.Judged.{number}
use Rattle.refusals.specs.Lent.{overwritten}
use Rattle.slots.specs.Slots.{total}
use Rattle.storage.specs.Storage.{counts_of, recipe_of, directory_rows, room_rows}
use Rattle.storage.specs.Steps.{Storable}
use Rattle.storage.proofs.Storing.{none_storable}
use Rattle.shelf.specs.Operations.{changes, put_rows, Put, TakenOut, ReadOut, Counted}
use Rattle.history.specs.Law.{Call, put, take_out, read, count, latest, Right, Step, Run, Law}
use Rattle.history.proofs.Keeping.{Keeps, latest_whole, change_keeps, same_keeps, new_keeps}
use Rattle.history.proofs.Causes.{directory_right, put_passed, put_refused, take_out_passed, take_out_refused, read_passed, read_refused}

-- a recipe has whole records, at most 96
recipe_whole : (r : List ℕ) → ¬ BadLength recipe_records r → length r % 4 ≡ 0
recipe_whole r h = go (ℕ_discrete (length r % 4) 0)
  where
    go : Dec (length r % 4 ≡ 0) → length r % 4 ≡ 0
    go (yes e) = e
    go (no e) = absurd (h (inr (inr e)))

recipe_most : (r : List ℕ) → ¬ BadLength recipe_records r → length r ≤ 4 * recipe_records
recipe_most r h = few (length r) (λ x. h (inr (inl x)))
  where
    few : (n : ℕ) → ¬ (4 * recipe_records < n) → n ≤ 4 * recipe_records
    few n m = omega arith

-- one call: it is answered right, and the tables keep the longer history
module _ (cs : List Call) (d t d' t' : List ℕ) (i : Keeps cs d t) where
  put_storable : (b : ℕ) (r : List ℕ) → Passed (put_rows b r d t) → Storable changes b r d t
  put_storable b r p =
      let bytes = p.1.1.1.0 in
      let w = recipe_whole r bytes in
      let m = recipe_most r bytes in
      record {
        counter = omega arith;
        within = omega (arith, p.0);
        shelf = i.shelf;
        records = length r / 4;
        whole = omega arith;
        most = omega arith;
        room = few (total (set (counts_of d) b (length r / 4))) p.1.1.1.1.1.1.1.0;
      }
    where
      few : (n : ℕ) → ¬ (shelf_records < n) → n ≤ shelf_records
      few n h = omega arith

  step : (c : Call) → Step c d t d' t' → Right cs c × Keeps (c ∷ cs) d' t'
  unfolding Step Right Put TakenOut ReadOut Counted
  step (put b r (Ok tt)) s = (
    put_passed cs d t i b r s.0,
    change_keeps cs d t i b r d' t' (put_storable b r s.0) s.1 (put b r (Ok tt))
        (inr (passed_first (recipe_rows r) (room_rows b r d) s.0.1.1.1)) (λ k. refl) refl,
  )
  step (put b r (Err c)) s = (
    put_refused cs d t i b r (number c) s.0,
    same_keeps cs d t d' t' i (put b r (Err c)) s.1 s.2 (λ k. refl) refl,
  )
  step (take_out b (Ok tt)) s = (
    take_out_passed cs d t i b s.0,
    change_keeps cs d t i b [] d' t' (none_storable changes b d t (omega arith) (omega (arith, s.0.0)) i.shelf) s.1
        (take_out b (Ok tt)) (inl refl) (λ k. refl) refl,
  )
  step (take_out b (Err c)) s = (
    take_out_refused cs d t i b (number c) s.0,
    same_keeps cs d t d' t' i (take_out b (Err c)) s.1 s.2 (λ k. refl) refl,
  )
  step (read b o (Ok n) o') s =
      let h : b < buoys = omega (arith, s.0.0.0) in
      let e : recipe_of b d t ≡ latest b cs = i.recipes b h in
      let m : length (latest b cs) ≡ 4 * n =
      latest_whole cs d t i b h ∙ ap (λ (l : List ℕ). 4 * (length l / 4)) (sym e) ∙ ap (λ (k : ℕ). 4 * k) (sym s.0.1) in
      let w : o' ≡ overwritten (latest b cs) o = s.0.2 ∙ ap (λ (l : List ℕ). overwritten l o) e in (
        (read_passed cs d t i b o s.0.0, m, w),
        same_keeps cs d t d' t' i (read b o (Ok n) o') s.1 s.2 (λ k. refl) refl,
      )
  step (read b o (Err c) o') s = (
    (read_refused cs d t i b o (number c) s.0.0, s.0.1),
    same_keeps cs d t d' t' i (read b o (Err c) o') s.1 s.2 (λ k. refl) refl,
  )
  step (count (Ok n)) s =
      (s.0.1 ∙ i.count, same_keeps cs d t d' t' i (count (Ok n)) s.1 s.2 (λ k. refl) refl)
  step (count (Err c)) s =
      (none s.0, same_keeps cs d t d' t' i (count (Err c)) s.1 s.2 (λ k. refl) refl)
    where
      none : Refused (directory_rows d) (number c) → ⊥
      none (inl p) = directory_right cs d t i p.0
      none (inr p) = p.1

pub run_keeps : (cs : List Call) (d t : List ℕ) → Run cs d t → Keeps cs d t
unfolding Run
run_keeps [] d t n = new_keeps d t n
run_keeps (c ∷ cs) d' t' r = (step cs r.0 r.1 d' t' (run_keeps cs r.0 r.1 r.2) c r.3).1

pub law : Law
unfolding Run
law c cs d' t' r = (step cs r.0 r.1 d' t' (run_keeps cs r.0 r.1 r.2) c r.3).0

-- what a buoy has is a recipe that the operations take
pub kept_recipe : (b : ℕ) (cs : List Call) (d t : List ℕ) → Run cs d t → (latest b cs ≡ []) ⊎ Passed (recipe_rows (latest b cs))
kept_recipe b cs d t r = (run_keeps cs d t r).valid b
