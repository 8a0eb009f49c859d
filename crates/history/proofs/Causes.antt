-- The rows of refusal of each operation, on the tables that keep a history, and the causes that the history gives: the same number, or
-- none. The rows 8 of the shelf's own tables never hold there. Assumes nothing.
use mathlib.Core.Path.{◌≡◌}
use mathlib.Core.List.{List, [], ◌∷◌, ◌++◌}
use mathlib.Core.Logic.{◌⊎◌, inl, inr, ⊎_elim}
use Prim.Native.Nat.{ℕ, ◌+◌, ◌*◌, ◌/◌, ◌≤◌, ◌<◌}
use native.Mathlib.Omega.{arith}
use lib.ListN.{length, get_or, set}
use Rattle.terms.specs.Figures.{buoys, shelf_records}
use Rattle.terms.specs.Refusal.{Row, Refused, Passed, recipe_rows}
use Rattle.slots.specs.Slots.{total}
use Rattle.storage.specs.Storage.{counts_of, BadDirectory, record_table_rows, room_rows}
use Rattle.storage.proofs.Tables.{counts_length}
use Rattle.shelf.specs.Operations.{put_rows, take_out_rows, read_rows}
use Rattle.history.specs.Law.{Call, latest, others, put_causes, take_out_causes, read_causes}
use Rattle.history.proofs.Records.{total_others}
use Rattle.history.proofs.Keeping.{Keeps, latest_count, latest_none, none_latest}

-- rows with one that doesn't hold, and rows whose last has another cause that holds exactly if it does
refused_skip : (P : Type 0) (k m : ℕ) (rows : List Row) → ¬ P → Refused ((k, P) ∷ rows) m → Refused rows m
refused_skip P k m rows n (inl p) = absurd (n p.0)
refused_skip P k m rows n (inr p) = p.1

refused_last : (rows : List Row) (P Q : Type 0) (k m : ℕ) → (P → Q) → (Q → P) → Refused (rows ++ ((k, P) ∷ [])) m
    → Refused (rows ++ ((k, Q) ∷ [])) m
refused_last [] P Q k m f g (inl p) = inl (f p.0, p.1)
refused_last [] P Q k m f g (inr p) = absurd p.1
refused_last (r ∷ rows) P Q k m f g (inl p) = inl p
refused_last (r ∷ rows) P Q k m f g (inr p) = inr (p.0, refused_last rows P Q k m f g p.1)

passed_last : (rows : List Row) (P Q : Type 0) (k : ℕ) → (Q → P) → Passed (rows ++ ((k, P) ∷ [])) → Passed (rows ++ ((k, Q) ∷ []))
passed_last [] P Q k g p = (λ q. p.0 (g q), tt)
passed_last (r ∷ rows) P Q k g p = (p.0, passed_last rows P Q k g p.1)

module _ (cs : List Call) (d t : List ℕ) (i : Keeps cs d t) where
  pub directory_right : ¬ BadDirectory d
  directory_right = ⊎_elim (λ x. x i.shelf.directory.size) (λ x. omega (arith, i.shelf.directory.fits))

  table_right : ¬ ¬ (length t ≡ 4 * shelf_records)
  table_right n = n i.shelf.table

  records_same : (b : ℕ) (r : List ℕ) → b < buoys → total (set (counts_of d) b (length r / 4)) ≡ others b cs buoys + length r / 4
  records_same b r h =
      let n = counts_length d i.shelf.directory in
      total_others cs (counts_of d) b (length r / 4) (omega arith) (λ k g. latest_count cs d t i k (omega arith)) buoys (omega arith)

  abbrev Exceeds : ℕ → List ℕ → Type 0
  Exceeds b r = shelf_records < total (set (counts_of d) b (length r / 4))

  abbrev OthersExceed : ℕ → List ℕ → Type 0
  OthersExceed b r = shelf_records < others b cs buoys + length r / 4

  pub put_passed : (b : ℕ) (r : List ℕ) → Passed (put_rows b r d t) → Passed (put_causes cs b r)
  put_passed b r p =
      passed_last ((18, buoys ≤ b) ∷ recipe_rows r) (Exceeds b r) (OthersExceed b r) 19
      (λ q. rw (records_same b r (omega (arith, p.0))) q) (p.0, p.1.1.1)

  pub put_refused : (b : ℕ) (r : List ℕ) (k : ℕ) → Refused (put_rows b r d t) k → Refused (put_causes cs b r) k
  put_refused b r k (inl p) = inl p
  put_refused b r k (inr p) =
      let h : b < buoys = omega (arith, p.0) in
      refused_last ((18, buoys ≤ b) ∷ recipe_rows r) (Exceeds b r) (OthersExceed b r) 19 k (λ q. rw (records_same b r h) at q)
      (λ q. rw (records_same b r h) q)
      (inr (
        p.0,
        refused_skip (¬ (length t ≡ 4 * shelf_records)) 8 k (recipe_rows r ++ room_rows b r d) table_right
            (refused_skip (BadDirectory d) 8 k (record_table_rows t ++ (recipe_rows r ++ room_rows b r d)) directory_right p.1),
      ))

  kept_some : (b : ℕ) → ¬ (buoys ≤ b) → ¬ (get_or (counts_of d) b 0 ≡ 0) → ¬ ((buoys ≤ b) ⊎ (latest b cs ≡ []))
  kept_some b n m = ⊎_elim n (λ e. m (none_latest cs d t i b (omega arith) e))

  pub take_out_passed : (b : ℕ) → Passed (take_out_rows b d t) → Passed (take_out_causes cs b)
  take_out_passed b p = (kept_some b p.0 p.1.1.0, tt)

  pub take_out_refused : (b k : ℕ) → Refused (take_out_rows b d t) k → Refused (take_out_causes cs b) k
  take_out_refused b k (inl p) = inl (inl p.0, p.1)
  take_out_refused b k (inr (n, inl p)) = absurd (directory_right p.0)
  take_out_refused b k (inr (n, inr (g, inl p))) = inl (inr (latest_none cs d t i b (omega arith) p.0), p.1)
  take_out_refused b k (inr (n, inr (g, inr (m, inl p)))) = absurd (table_right p.0)
  take_out_refused b k (inr (n, inr (g, inr (m, inr p)))) = absurd p.1

  pub read_passed : (b : ℕ) (o : List ℕ) → Passed (read_rows b d t o) → Passed (read_causes cs b o)
  read_passed b o p =
      let h : b < buoys = omega (arith, p.0) in
      (kept_some b p.0 p.1.1.0, (p.1.1.1.1.0, (λ q. p.1.1.1.1.1.0 (rw (i.recipes b h) q), tt)))

  pub read_refused : (b : ℕ) (o : List ℕ) (k : ℕ) → Refused (read_rows b d t o) k → Refused (read_causes cs b o) k
  read_refused b o k (inl p) = inl (inl p.0, p.1)
  read_refused b o k (inr (n, inl p)) = absurd (directory_right p.0)
  read_refused b o k (inr (n, inr (g, inl p))) = inl (inr (latest_none cs d t i b (omega arith) p.0), p.1)
  read_refused b o k (inr (n, inr (g, inr (m, inl p)))) = absurd (table_right p.0)
  read_refused b o k (inr (n, inr (g, inr (m, inr (w, inl p))))) = inr (kept_some b n m, inl p)
  read_refused b o k (inr (n, inr (g, inr (m, inr (w, inr (v, inl p)))))) =
      inr (kept_some b n m, inr (v, inl (rw (i.recipes b (omega arith)) at p.0, p.1)))
  read_refused b o k (inr (n, inr (g, inr (m, inr (w, inr (v, inr p)))))) = absurd p.1
