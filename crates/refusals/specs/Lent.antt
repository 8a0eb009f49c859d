-- What an operation leaves in a table that it was lent. Document 01, section "Operations".
--   cleared w         "it is all zero on return, unless its own length was wrong"
--   overwritten b o   the table o with the bytes b at its start; "Bytes behind it stay."
use Rattle.std.specs.Prelude.{cond, List, ◌++◌, ℕ, eqb, length, drop, replicate}
use Rattle.terms.specs.Figures.{table_bytes}

abbrev pub cleared : List ℕ → List ℕ
cleared w = cond (eqb (length w) table_bytes) (replicate table_bytes 0) w

abbrev pub overwritten : List ℕ → List ℕ → List ℕ
overwritten b o = b ++ drop (length b) o
