-- What putting a table in the place of a part of another one needs, and what it leaves.
--   splice r at end f                the table r, with the table f in the place of its bytes from `at` to `end`
--   replaced r k t u                 the table r, with the term u in the place of its part t, which begins at record k
--   SpliceRoom r at end f w          these bytes lie in r, and the splice has room in w
--   SpliceWritten r at end f w n v   the table v is w with the n bytes of the splice at its start
use Rattle.std.specs.Prelude.{◌≡◌, List, ◌++◌, ℕ, ◌+◌, ◌-◌, ◌*◌, ◌≤◌, length, take, drop}
use Rattle.std.proofs.lemmas.List.Edits.{sets}
use Rattle.terms.specs.Term.{Term, size}
use Rattle.terms.specs.Table.{encode}

abbrev pub splice : List ℕ → ℕ → ℕ → List ℕ → List ℕ
splice r at end f = take at r ++ (f ++ drop end r)

-- document 02: "in the part's place"
abbrev pub replaced : List ℕ → ℕ → Term → Term → List ℕ
replaced r k t u = splice r (4 * k) (4 * k + 4 * size t) (encode u)

pub record SpliceRoom (r : List ℕ) (at end : ℕ) (f w : List ℕ) : Type 0 where
  pub from : at ≤ end
  pub within : end ≤ length r
  pub enough : at + length f + (length r - end) ≤ length w

pub record SpliceWritten (r : List ℕ) (at end : ℕ) (f w : List ℕ) (n : ℕ) (v : List ℕ) : Type 0 where
  pub bytes : v ≡ sets w 0 (splice r at end f)
  pub count : n ≡ length (splice r at end f)
