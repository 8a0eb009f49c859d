-- Records and tables, as document 01's section "Records and terms" and document 02's "Constants with 24 bits" have them. Record and table
-- are the documents' words.
--   application_kind, abstraction_kind, local_kind, constant_kind, variable_kind   the numbers of the five kinds
--   record_bytes k n rest    the four bytes of a record of kind k and number n, and then rest
--   second_byte_allowed k z  a record of kind k may have the second byte z
--   record_of k z h l        the kind and the number of the record with these four bytes, if they are one
--   kind_and_number k n rest   a record as its kind and its number, and then rest
--   allowed v r              a record's rule, where v variables are allowed
--   good_records_by read v l   the table l is whole records, each allowed as `read` reads it
--   good_records v l        the same as `record_of` reads it
--   preorder w t             the records of t in turn, each written by w
--   encode t                 the table of the term t
--   IsTable l t              l is the table of the term t
use Rattle.std.specs.Prelude.{◌≡◌, Bool, true, false, not, cond, ◌&&◌, ◌||◌, List, [], ◌∷◌, ◌++◌, ℕ, ◌+◌, ◌*◌, ◌/◌, ◌%◌, ltb, leb, eqb}
use Rattle.std.proofs.Math.Option.{Option, none, some}
use Rattle.terms.specs.Term.{Term, app, lam, loc, con, var, Closed}

-- "Five kinds, each a named constant of the kind": "0 application", "1 abstraction", "2 local", "3 constant", "4 variable"
abbrev pub application_kind : ℕ
application_kind = 0

abbrev pub abstraction_kind : ℕ
abstraction_kind = 1

abbrev pub local_kind : ℕ
local_kind = 2

abbrev pub constant_kind : ℕ
constant_kind = 3

abbrev pub variable_kind : ℕ
variable_kind = 4

-- "A term is a table of 4-byte records, no header": a kind, and behind it a number, high byte first. One writing serves all kinds: what
-- isn't a constant has a number below 65,536, and so a zero byte behind its kind.
abbrev pub record_bytes : ℕ → ℕ → List ℕ → List ℕ
record_bytes k n rest = k ∷ (n / 65536) ∷ (n / 256 % 256) ∷ (n % 256) ∷ rest

-- "For kind 3 only, the second byte of a record becomes the top eight bits of the number. In all other kinds it must still be zero."
abbrev pub second_byte_allowed : ℕ → ℕ → Bool
second_byte_allowed k z = eqb k constant_kind || eqb z 0

abbrev pub record_of : ℕ → ℕ → ℕ → ℕ → Option (ℕ × ℕ)
record_of k z h l = cond (second_byte_allowed k z) (some (k, z * 65536 + (h * 256 + l))) none

-- records are compared "by kind and then number"
abbrev pub kind_and_number : ℕ → ℕ → List ℕ → List ℕ
kind_and_number k n rest = k ∷ n ∷ rest

-- the rule that cause 2 breaks: "kind above 4, second byte not 0, number not 0 in kind 0 or 1, variable above 7";
-- with no variables it is the rule that cause 5 breaks: "as in 2, or kind 4". "Numbers 2, 5 and 11 lose that cause for constants."
abbrev pub allowed : ℕ → Option (ℕ × ℕ) → Bool
allowed v none = false
allowed v (some r) =
    leb r.0 variable_kind && ((ltb abstraction_kind r.0 || eqb r.1 0) && (not (eqb r.0 variable_kind) || ltb r.1 v))

abbrev pub good_records_by : (ℕ → ℕ → ℕ → ℕ → Option (ℕ × ℕ)) → ℕ → List ℕ → Bool
good_records_by read v [] = true
good_records_by read v (k ∷ []) = false
good_records_by read v (k ∷ z ∷ []) = false
good_records_by read v (k ∷ z ∷ h ∷ []) = false
good_records_by read v (k ∷ z ∷ h ∷ l ∷ rest) = allowed v (read k z h l) && good_records_by read v rest

abbrev pub good_records : ℕ → List ℕ → Bool
good_records v l = good_records_by record_of v l

-- "0 application, followed by its head and then its argument; number zero", "1 abstraction, followed by its body; number zero",
-- "2 local", "3 constant", "4 variable"
abbrev pub preorder : (ℕ → ℕ → List ℕ → List ℕ) → Term → List ℕ
preorder w (app f a) = w application_kind 0 (preorder w f ++ preorder w a)
preorder w (lam b) = w abstraction_kind 0 (preorder w b)
preorder w (loc n) = w local_kind n []
preorder w (con n) = w constant_kind n []
preorder w (var n) = w variable_kind n []

abbrev pub encode : Term → List ℕ
encode t = preorder record_bytes t

-- "A term uses its whole table as one tree and every local has its binder."
abbrev pub IsTable : List ℕ → Term → Type 0
IsTable l t = (l ≡ encode t) × Closed 0 t
