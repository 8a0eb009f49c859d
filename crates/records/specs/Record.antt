-- One record of a table, as the code reads it.
--   kind_of b           the kind that a byte is
--   parts k            how many parts follow a record of kind k
--   read_parts r        the same of a byte that was read as a kind
--   number_at l at      the number of the record that stands in l from byte `at` on
--   record_at l at     that record, if its four bytes are one
--   innermost_at l at  that record is the innermost local
use Rattle.std.specs.Prelude.{Bool, cond, ◌&&◌, List, ℕ, zero, suc, ◌+◌, ◌*◌, leb, eqb, get_or}
use Rattle.std.proofs.Math.Option.{Option}
use Rattle.terms.specs.Table.{record_of, local_kind, variable_kind}
use Rattle.terms.specs.Layout.{word_at}
use Rattle.std.specs.declared.option.Option.{Option as Answered}
use Rattle.std.specs.declared.option.Option.TheVariants.{Some, None}
use Rattle.records.specs.declared.Kind.{Kind}

-- "Five kinds", 0 to 4
abbrev pub kind_of : ℕ → Answered Kind
kind_of b = cond (leb b variable_kind) (Some (record { code = b })) None

-- "0 application, followed by its head and then its argument", "1 abstraction, followed by its body"
abbrev pub parts : ℕ → ℕ
parts zero = 2
parts (suc zero) = 1
parts (suc (suc k)) = 0

abbrev pub read_parts : Answered Kind → ℕ
read_parts (Some k) = parts k.code
read_parts None = 0

-- three bytes behind the kind, high byte first
abbrev pub number_at : List ℕ → ℕ → ℕ
number_at l at = get_or l (at + 1) 0 * 65536 + word_at l (at + 2)

abbrev pub record_at : List ℕ → ℕ → Option (ℕ × ℕ)
record_at l at = record_of (get_or l at 0) (get_or l (at + 1) 0) (get_or l (at + 2) 0) (get_or l (at + 2 + 1) 0)

-- "local, number = abstractions between it and its binder (0 is innermost)"
abbrev pub innermost_at : List ℕ → ℕ → Bool
innermost_at l at = eqb (get_or l at 0) local_kind && eqb (number_at l at) 0
