-- Nothing is left free: two answers that meet what an operation of the shelf promises on the same lent tables are equal, and so are two
-- contents of each table that it writes. At most one row of refusal is given, and none where all pass. Assumes nothing.
use mathlib.Core.Path.{◌≡◌, refl, sym, ap, ◌∙◌}
use mathlib.Core.List.{List, []}
use Prim.Native.Nat.{ℕ}
use Rattle.std.specs.Prelude.{⊤}
use Rattle.std.specs.declared.result.Result.{Result}
use Rattle.std.specs.declared.result.Result.TheVariants.{Ok, Err}
use Rattle.refusals.specs.declared.Refusal.{Refusal}
use Rattle.terms.proofs.Refusal.{refused_passed}
use Rattle.refusals.specs.Judged.{number}
use Rattle.refusals.proofs.Numbers.{refusal_one}
use Rattle.storage.specs.Storage.{directory_rows, Stored}
use Rattle.shelf.specs.Operations.{changes, put_rows, take_out_rows, read_rows, Put, TakenOut, ReadOut, Counted}

-- what is stored is one content of each table
stored_one : (b : ℕ) (r d t m n x y : List ℕ) → Stored changes b r d t m x → Stored changes b r d t n y → (m ≡ n) × (x ≡ y)
stored_one b r d t m n x y f g = (f.directory ∙ sym g.directory, f.table ∙ sym g.table)

pub put_one : (b : ℕ) (r d t : List ℕ) (a c : Result ⊤ Refusal) (m n x y : List ℕ) → Put b r d t a m x → Put b r d t c n y
    → (a ≡ c) × (m ≡ n) × (x ≡ y)
unfolding Put
put_one b r d t (Ok u) (Ok w) m n x y f g = let e = stored_one b r d t m n x y f.1 g.1 in (refl, e.0, e.1)
put_one b r d t (Ok u) (Err c) m n x y f g = absurd (refused_passed (put_rows b r d t) (number c) g.0 f.0)
put_one b r d t (Err c) (Ok u) m n x y f g = absurd (refused_passed (put_rows b r d t) (number c) f.0 g.0)
put_one b r d t (Err c) (Err e) m n x y f g =
    (ap Err (refusal_one (put_rows b r d t) c e f.0 g.0), f.1 ∙ sym g.1, f.2 ∙ sym g.2)

pub taken_out_one : (b : ℕ) (d t : List ℕ) (a c : Result ⊤ Refusal) (m n x y : List ℕ) → TakenOut b d t a m x → TakenOut b d t c n y
    → (a ≡ c) × (m ≡ n) × (x ≡ y)
unfolding TakenOut
taken_out_one b d t (Ok u) (Ok w) m n x y f g =
    let e = stored_one b [] d t m n x y f.1 g.1 in (refl, e.0, e.1)
taken_out_one b d t (Ok u) (Err c) m n x y f g =
    absurd (refused_passed (take_out_rows b d t) (number c) g.0 f.0)
taken_out_one b d t (Err c) (Ok u) m n x y f g =
    absurd (refused_passed (take_out_rows b d t) (number c) f.0 g.0)
taken_out_one b d t (Err c) (Err e) m n x y f g =
    (ap Err (refusal_one (take_out_rows b d t) c e f.0 g.0), f.1 ∙ sym g.1, f.2 ∙ sym g.2)

pub read_out_one : (b : ℕ) (d t o : List ℕ) (a c : Result ℕ Refusal) (m n : List ℕ) → ReadOut b d t o a m → ReadOut b d t o c n
    → (a ≡ c) × (m ≡ n)
unfolding ReadOut
read_out_one b d t o (Ok j) (Ok k) m n f g =
    (ap Ok (f.1 ∙ sym g.1), f.2 ∙ sym g.2)
read_out_one b d t o (Ok j) (Err c) m n f g =
    absurd (refused_passed (read_rows b d t o) (number c) g.0 f.0)
read_out_one b d t o (Err c) (Ok k) m n f g =
    absurd (refused_passed (read_rows b d t o) (number c) f.0 g.0)
read_out_one b d t o (Err c) (Err e) m n f g =
    (ap Err (refusal_one (read_rows b d t o) c e f.0 g.0), f.1 ∙ sym g.1)

pub counted_one : (d : List ℕ) (a c : Result ℕ Refusal) → Counted d a → Counted d c → a ≡ c
unfolding Counted
counted_one d (Ok j) (Ok k) f g = ap Ok (f.1 ∙ sym g.1)
counted_one d (Ok j) (Err c) f g = absurd (refused_passed (directory_rows d) (number c) g f.0)
counted_one d (Err c) (Ok k) f g = absurd (refused_passed (directory_rows d) (number c) f g.0)
counted_one d (Err c) (Err e) f g = ap Err (refusal_one (directory_rows d) c e f g)
