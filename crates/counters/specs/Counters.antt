-- Counters of 32 bits, high byte first.
--   counter_bytes n  the four bytes of the number n
--   count_at l at    the number that stands in l from byte `at` on
--   raised n         one more: "staying at 4,294,967,295 once there"
use Rattle.std.specs.Prelude.{List, [], ℕ, ◌+◌, ◌*◌, ◌/◌, ◌%◌, min}
use Rattle.terms.specs.Figures.{words, ceiling}
use Rattle.terms.specs.Layout.{word, word_at}

abbrev pub counter_bytes : ℕ → List ℕ
counter_bytes n = word (n / words) (word (n % words) [])

abbrev pub count_at : List ℕ → ℕ → ℕ
count_at l at = word_at l at * words + word_at l (at + 2)

abbrev pub raised : ℕ → ℕ
raised n = min (n + 1) ceiling
