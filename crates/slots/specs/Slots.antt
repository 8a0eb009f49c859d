-- Byte strings kept by key, in the order of the keys and without gaps: each has whole records, and a count for each key says how many.
--   total ns              how many records strings of so many records have together
--   cut ns t              the strings that the table t holds, where they have so many records
--   joined m              the bytes of the strings m, one after the other
--   replaced ns t key s   the table t with the string s in the place of the key's: it begins with all strings, and is as it was behind them
--   Bounds ns t           the strings of these counts lie within the table
--   Replaceable ..        the string s, of whole records, has room in the place of the key's
use Rattle.std.specs.Prelude.{◌≡◌, List, [], ◌∷◌, ◌++◌, ℕ, ◌+◌, ◌*◌, ◌≤◌, ◌<◌, length, take, drop, set}
use Rattle.std.proofs.lemmas.List.Edits.{sets}
use Rattle.terms.specs.Figures.{table_bytes}

abbrev pub total : List ℕ → ℕ
total [] = 0
total (n ∷ ns) = n + total ns

abbrev pub cut : List ℕ → List ℕ → List (List ℕ)
cut [] t = []
cut (n ∷ ns) t = take (4 * n) t ∷ cut ns (drop (4 * n) t)

abbrev pub joined : List (List ℕ) → List ℕ
joined [] = []
joined (s ∷ m) = s ++ joined m

abbrev pub replaced : List ℕ → List ℕ → ℕ → List ℕ → List ℕ
replaced ns t key s = sets t 0 (joined (set (cut ns t) key s))

pub record Bounds (ns t : List ℕ) : Type 0 where
  pub keys : length ns ≤ table_bytes
  pub fits : 4 * total ns ≤ length t

pub record Replaceable (ns t : List ℕ) (key : ℕ) (s : List ℕ) : Type 0 where
  pub bounds : Bounds ns t
  pub within : key < length ns
  pub records : ℕ
  pub whole : length s ≡ 4 * records
  pub most : records < 256
  pub room : 4 * total (set ns key records) ≤ length t
