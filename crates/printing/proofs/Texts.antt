-- Texts put one behind another. What two calls put is one text with the one's predicate and then the other's, since runs of stores join.
-- Assumes nothing.
use mathlib.Core.Path.{◌≡◌, refl, sym, ap₂, subst}
use mathlib.Core.List.{List, [], ◌∷◌, ◌++◌}
use Prim.Native.Nat.{ℕ, ◌+◌, ◌/◌, ◌%◌}
use native.Mathlib.Numerals.{add-one}
use native.Mathlib.Omega.{arith}
use lib.ListN.{length, take, length-append}
use lib.Seq.{sets}
use Rattle.io.specs.Digits.{hex_digit_ascii, last_digits, IsDigitCount}
use Rattle.copying.proofs.Stores.{written_then}
use Rattle.printing.specs.Text.{Text, Is, ◌⨾◌, Decimal, hex, record_text, records_text, Puts}

pub puts : (P : Text) (out : List ℕ) (at r : ℕ) (after s : List ℕ) → P s → r ≡ at + length s → after ≡ sets out at s → Puts P out at r after
puts P out at r after s x e b = record { text = s; is = x; end = e; bytes = b }

pub puts_then : (P Q : Text) (out p q : List ℕ) (at m r : ℕ) → Puts P out at m p → Puts Q p m r q → Puts (P ⨾ Q) out at r q
puts_then P Q out p q at m r x y = record {
  text = x.text ++ y.text;
  is = record { first = x.text; second = y.text; before = x.is; behind = y.is; whole = refl };
  end = omega (arith, x.end, y.end, length-append x.text y.text);
  bytes = written_then x.text y.text out p q at m x.bytes y.bytes x.end;
}

-- two given texts are one
pub is_then : (s t out p q : List ℕ) (at m r : ℕ) → Puts (Is s) out at m p → Puts (Is t) p m r q → Puts (Is (s ++ t)) out at r q
is_then s t out p q at m r x y =
    puts (Is (s ++ t)) out at r q (x.text ++ y.text) (ap₂ (λ (v w : List ℕ). v ++ w) x.is y.is)
    (omega (arith, x.end, y.end, length-append x.text y.text))
    (written_then x.text y.text out p q at m x.bytes y.bytes x.end)

-- a word, and a number whose digits stand in a table of their own
pub word_put : (w out q : List ℕ) → q ≡ sets out 0 w → Puts (Is w) out 0 (length w) q
word_put w out q b = puts (Is w) out 0 (length w) q w refl (omega arith) b

-- one record more
pub records_more : (l out p q : List ℕ) (k at m r : ℕ) → Puts (Is (records_text l k)) out at m p → Puts (Is (record_text l k)) p m r q
    → Puts (Is (records_text l (k + 1))) out at r q
records_more l out p q k at m r x y =
    subst (λ (j : ℕ). Puts (Is (records_text l j)) out at r q) (sym (add-one k))
    (is_then (records_text l k) (record_text l k) out p q at m r x y)
