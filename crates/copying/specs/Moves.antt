-- Bytes moved within a table.
--   moved t from n to     the table t with the n bytes that stand from byte `from` on written from byte `to` on
--   Movable t from n to   both places lie within the table
use Rattle.std.specs.Prelude.{List, ℕ, ◌+◌, ◌≤◌, length, take, drop}
use Rattle.std.proofs.lemmas.List.Edits.{sets}

abbrev pub moved : List ℕ → ℕ → ℕ → ℕ → List ℕ
moved t from n to = sets t to (take n (drop from t))

pub record Movable (t : List ℕ) (from n to : ℕ) : Type 0 where
  pub source : from + n ≤ length t
  pub target : to + n ≤ length t
