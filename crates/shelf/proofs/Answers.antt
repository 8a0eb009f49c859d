-- What the operations answer and leave, from the verdict on what they are lent and from what `storage` does. Assumes nothing.
use mathlib.Core.Path.{◌≡◌, refl, ap, ◌∙◌}
use mathlib.Core.List.{List, [], ◌++◌}
use mathlib.Core.Logic.{inl}
use Prim.Native.Nat.{ℕ, ◌+◌, ◌*◌, ◌/◌, ◌≤◌, ◌<◌}
use native.Mathlib.Omega.{arith}
use lib.ListN.{length, drop}
use lib.Seq.{sets, sets-eq}
use Rattle.std.specs.declared.result.Result.TheVariants.{Ok, Err}
use Rattle.terms.specs.Figures.{table_bytes, ceiling}
use Rattle.terms.specs.Term.{size}
use Rattle.terms.specs.Refusal.{Passed}
use Rattle.terms.proofs.Refusal.{refused_first, refused_later, passed_both}
use Rattle.terms.proofs.Table.{encode_length}
use Rattle.refusals.specs.declared.Refusal.{Refusal}
use Rattle.refusals.specs.Judged.{number, Judged, table_row}
use Rattle.refusals.specs.Lent.{overwritten}
use Rattle.refusals.proofs.Judging.{known, passed, refused, judged_stop, judged_both}
use Rattle.storage.specs.Storage.{counter_number, count_of, recipe_of, directory_rows, Stored}
use Rattle.storage.specs.Steps.{Directory, Storable}
use Rattle.storage.proofs.Storing.{none_storable}
use Rattle.shelf.specs.Operations.{changes, put_rows, take_out_rows, read_table_rows, short_rows, Put, TakenOut, ReadOut, Counted}
use Rattle.shelf.specs.Steps.{Puttable, Kept}

module _ (b : ℕ) (r d t : List ℕ) where
  pub put_refused : (c : Refusal) → Judged (put_rows b r d t) (Puttable b r d t) (Err c) → Put b r d t (Err c) d t
  unfolding Put
  put_refused c x = (refused _ _ c x, refl, refl)

  module _ (x : Judged (put_rows b r d t) (Puttable b r d t) (Ok tt)) where
    pub put_storable : (i : ℕ) → i < counter_number → Storable i b r d t
    put_storable i h =
        let k = known _ _ x in
        let n : length r ≡ 4 * size k.recipe.tree = ap length k.recipe.table.0 ∙ encode_length k.recipe.tree in
        let q : length r / 4 ≡ size k.recipe.tree = omega arith in
        record {
          counter = h;
          within = k.within;
          shelf = k.shelf;
          records = size k.recipe.tree;
          whole = n;
          most = omega (arith, k.recipe.most);
          room = rw q at k.room;
        }

    pub put_done : (d' t' : List ℕ) → Stored changes b r d t d' t' → Put b r d t (Ok tt) d' t'
    unfolding Put
    put_done d' t' s = (passed _ _ x, s)

module _ (b : ℕ) (d t : List ℕ) where
  pub take_out_refused : (c : Refusal) → Judged (take_out_rows b d t) (Kept b d t) (Err c) → TakenOut b d t (Err c) d t
  unfolding TakenOut
  take_out_refused c x = (refused _ _ c x, refl, refl)

  module _ (x : Judged (take_out_rows b d t) (Kept b d t) (Ok tt)) where
    pub take_out_storable : (i : ℕ) → i < counter_number → Storable i b [] d t
    take_out_storable i h = let k = known _ _ x in none_storable i b d t h k.within k.shelf

    pub take_out_done : (d' t' : List ℕ) → Stored changes b [] d t d' t' → TakenOut b d t (Ok tt) d' t'
    unfolding TakenOut
    take_out_done d' t' s = (passed _ _ x, s)

-- a read: the shelf is judged, and then the output table
module _ (b : ℕ) (d t o : List ℕ) where
  abbrev Known : Type 0
  Known = Kept b d t × (length o ≤ table_bytes)

  refused_by : (c : Refusal) → Judged (read_table_rows b d t o) Known (Err c) → ReadOut b d t o (Err c) o
  unfolding ReadOut
  refused_by c x = (refused_first (read_table_rows b d t o) (short_rows b d t o) (number c) (refused _ Known c x), refl)

  pub read_refused : (c : Refusal) → Judged (take_out_rows b d t) (Kept b d t) (Err c) → ReadOut b d t o (Err c) o
  read_refused c x = refused_by c (judged_stop _ _ _ Known c x)

  module _ (jk : Judged (take_out_rows b d t) (Kept b d t) (Ok tt)) where
    pub read_bad : (c : Refusal) → Judged (table_row 4 o) (length o ≤ table_bytes) (Err c) → ReadOut b d t o (Err c) o
    read_bad c x = refused_by c (judged_both _ _ _ _ (Err c) jk x)

    module _ (jo : Judged (table_row 4 o) (length o ≤ table_bytes) (Ok tt)) (r : List ℕ) (h : r ≡ recipe_of b d t) where
      lent : Passed (read_table_rows b d t o)
      lent = passed _ Known (judged_both _ _ _ _ (Ok tt) jk jo)

      pub read_short : length o < length r → ReadOut b d t o (Err Refusal.Output) o
      unfolding ReadOut
      read_short s = (refused_later (read_table_rows b d t o) (short_rows b d t o) 13 lent (inl (rw h at s, refl)), refl)

      pub read_done : length r ≤ length o → (o' : List ℕ) → o' ≡ sets o 0 r → ReadOut b d t o (Ok (length r / 4)) o'
      unfolding ReadOut
      read_done s o' q =
          let z : 0 + length r ≡ length r = omega arith in (
            passed_both (read_table_rows b d t o) (short_rows b d t o) lent ((λ y. omega (arith, ap length h)), tt),
            ap (λ (l : List ℕ). length l / 4) h,
            q ∙ sets-eq r o 0 (omega arith) ∙ ap (λ (n : ℕ). r ++ drop n o) z ∙ ap (λ (l : List ℕ). overwritten l o) h,
          )

module _ (d : List ℕ) where
  pub count_refused : (c : Refusal) → Judged (directory_rows d) (Directory d) (Err c) → Counted d (Err c)
  unfolding Counted
  count_refused c x = refused _ _ c x

  pub count_done : Judged (directory_rows d) (Directory d) (Ok tt) → (n : ℕ) → n ≡ count_of changes d → n ≤ ceiling → Counted d (Ok n)
  unfolding Counted
  count_done x n q m = (passed _ _ x, q, m)
