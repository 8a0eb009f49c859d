-- One record of a table: its four bytes, its kind and its number, and that an allowed record is the bytes of its kind and number. By the
-- four bytes, which only this file and the functions of one record look at. Assumes nothing.
use mathlib.Core.Path.{◌≡◌, refl, sym, ap, ap₂, ◌∙◌, subst}
use mathlib.Core.Bool.{Bool, true, false, cond, ◌&&◌, ◌||◌}
use mathlib.Core.Option.{Option, some, none}
use mathlib.Core.List.{List, [], ◌∷◌, ◌++◌}
use Prim.Native.Nat.{ℕ, zero, suc, ◌+◌, ◌*◌, ◌/◌, ◌%◌, ◌≤◌, ◌<◌}
use native.Mathlib.Omega.{arith}
use lib.Dec.{T, eqb, leb, ltb}
use lib.ListN.{length, get_or, drop, length-drop}
use lib.Seq.{get_or-drop, drop-drop}
use borrow.Author.Tests.{eqb-true, leb-true, leb-false, ne_eqb, le-leb, lt-leb, lt-ltb, le-ltb}
use Rattle.terms.specs.Figures.{numbers}
use Rattle.terms.specs.Table.{record_bytes, second_byte_allowed, allowed, good_records}
use Rattle.terms.specs.OldForm.{Bytes}
use Rattle.terms.proofs.Tests.{and_true, and_split}
use Rattle.terms.proofs.Table.{number_is}
use Rattle.records.specs.declared.Kind.{Kind}
use Rattle.std.specs.declared.option.Option.{Option as Answered}
use Rattle.std.specs.declared.option.Option.TheVariants.{Some, None}
use Rattle.records.specs.Record.{kind_of, parts, read_parts, number_at, record_at}

-- the first four bytes
four : (l : List ℕ) → 4 ≤ length l → l ≡ get_or l 0 0 ∷ get_or l 1 0 ∷ get_or l 2 0 ∷ get_or l 3 0 ∷ drop 4 l
four [] h = absurd (omega arith)
four (a ∷ []) h = absurd (omega arith)
four (a ∷ b ∷ []) h = absurd (omega arith)
four (a ∷ b ∷ c ∷ []) h = absurd (omega arith)
four (a ∷ b ∷ c ∷ d ∷ l) h = refl

module _ (l : List ℕ) (at : ℕ) where
  byte : (i j : ℕ) → at + i ≡ j → get_or (drop at l) i 0 ≡ get_or l j 0
  byte i j e = get_or-drop at l i 0 ∙ ap (λ (k : ℕ). get_or l k 0) e

  -- the four bytes at `at`
  pub record_drop : at + 4 ≤ length l
      → drop at l ≡ get_or l at 0 ∷ get_or l (at + 1) 0 ∷ get_or l (at + 2) 0 ∷ get_or l (at + 2 + 1) 0 ∷ drop (at + 4) l
  record_drop h =
      four (drop at l) (omega (arith, length-drop at l))
      ∙ (λ i. byte 0 at (omega arith) i ∷ byte 1 (at + 1) (omega arith) i ∷ byte 2 (at + 2) (omega arith) i
      ∷ byte 3 (at + 2 + 1) (omega arith) i
      ∷ drop-drop 4 at l i)

  -- what is read where a record stands
  module _ (k n : ℕ) (rest : List ℕ) (e : drop at l ≡ record_bytes k n rest) where
    pub kind_read : get_or l at 0 ≡ k
    kind_read = sym (byte 0 at (omega arith)) ∙ ap (λ (x : List ℕ). get_or x 0 0) e

    pub number_read : number_at l at ≡ n
    number_read =
        sym
        (λ i. byte 1 (at + 1) (omega arith) i * 65536
        + (byte 2 (at + 2) (omega arith) i * 256 + byte 3 (at + 2 + 1) (omega arith) i))
        ∙ ap (λ (x : List ℕ). get_or x 1 0 * 65536 + (get_or x 2 0 * 256 + get_or x 3 0)) e ∙ number_is n

    pub rest_read : drop (at + 4) l ≡ rest
    rest_read = sym (drop-drop 4 at l) ∙ ap (drop 4) e

  -- good records are an allowed one and good ones
  pub good_step : (v : ℕ) → at + 4 ≤ length l
      → good_records v (drop at l) ≡ (allowed v (record_at l at) && good_records v (drop (at + 4) l))
  good_step v h = ap (good_records v) (record_drop h)

pub good_split : (l : List ℕ) (at v : ℕ) → at + 4 ≤ length l → good_records v (drop at l) ≡ true
    → (allowed v (record_at l at) ≡ true) × (good_records v (drop (at + 4) l) ≡ true)
good_split l at v h g = and_split (allowed v (record_at l at)) (good_records v (drop (at + 4) l)) (sym (good_step l at v h) ∙ g)

-- what an allowed record is
pub record Allowed (v : ℕ) (l : List ℕ) (at : ℕ) : Type 0 where
  pub is : drop at l ≡ record_bytes (get_or l at 0) (number_at l at) (drop (at + 4) l)
  pub known : get_or l at 0 ≤ 4
  pub none : get_or l at 0 ≤ 1 → number_at l at ≡ 0

or_first : (a b : Bool) → a ≡ false → a || b ≡ true → b ≡ true
or_first true b e h = absurd (subst T e tt)
or_first false b e h = h

allowed_some : (v k n : ℕ) (read : Bool) → allowed v (cond read (some (k, n)) none) ≡ true → (k ≤ 4) × (k ≤ 1 → n ≡ 0)
allowed_some v k n true h =
    let p = and_split (leb k 4) _ h in
    let q = and_split (ltb 1 k || eqb n 0) _ p.1 in
    (leb-true k 4 p.0, λ i. eqb-true n 0 (or_first (ltb 1 k) _ (le-ltb 1 k i) q.0))
allowed_some v k n false h = absurd (subst T (sym h) tt)

pub allowed_is : (v : ℕ) (l : List ℕ) (at : ℕ) → at + 4 ≤ length l → Bytes l → allowed v (record_at l at) ≡ true → Allowed v l at
allowed_is v l at h b a =
    let s = allowed_some v (get_or l at 0) (number_at l at) (second_byte_allowed (get_or l at 0) (get_or l (at + 1) 0)) a in
    let x = b (at + 2) in
    let y = b (at + 2 + 1) in
    let o : get_or l (at + 1) 0 ≡ number_at l at / 65536 = omega arith in
    let p : get_or l (at + 2) 0 ≡ number_at l at / 256 % 256 = omega arith in
    let q : get_or l (at + 2 + 1) 0 ≡ number_at l at % 256 = omega arith in
    record {
      is = record_drop l at h ∙ (λ i. get_or l at 0 ∷ o i ∷ p i ∷ q i ∷ drop (at + 4) l);
      known = s.0;
      none = s.1;
    }

-- of a table of bytes: the numbers behind a record are bytes, and the record's number fits
module _ (k n : ℕ) (rest : List ℕ) (b : Bytes (record_bytes k n rest)) where
  pub rest_bytes : Bytes rest
  rest_bytes i = b (suc (suc (suc (suc i))))

  pub number_fits : n < numbers
  number_fits = let h : n / 65536 < 256 = b 1 in omega arith

-- a kind with no parts
pub parts_none : (k : ℕ) → ¬ (k ≡ 0) → ¬ (k ≡ 1) → 0 ≡ parts k
parts_none zero n m = absurd (n refl)
parts_none (suc zero) n m = absurd (m refl)
parts_none (suc (suc k)) n m = refl

-- a byte that is no kind has no parts either
pub read_parts_lem : (b : ℕ) → read_parts (kind_of b) ≡ parts b
read_parts_lem b = go (leb b 4) refl
  where
    go : (t : Bool) → leb b 4 ≡ t → read_parts (cond t (Some (record { code = b })) None) ≡ parts b
    go true e = refl
    go false e = let h = leb-false b 4 e in parts_none b (λ p. omega arith) (λ p. omega arith)

-- the rule of a record, by its kind
module _ (v : ℕ) (l : List ℕ) (at : ℕ) where
  -- the record, where its second byte may be so and where it may not
  abbrev read : Bool → Option (ℕ × ℕ)
  read second = cond second (some (get_or l at 0, number_at l at)) none
