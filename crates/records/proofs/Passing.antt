-- A pass over the records of a part counts the parts that are missing: as many terms stand, one behind another, where it has come to.
-- Each record takes one term from the front of that row and puts its parts there instead, and back. Assumes nothing.
use mathlib.Core.Path.{◌≡◌, refl, sym, ap, ap₂, ◌∙◌, subst}
use mathlib.Core.Bool.{Bool, true}
use mathlib.Core.List.{List, [], ◌∷◌, ◌++◌, append_assoc, append-nil}
use Prim.Native.Nat.{ℕ, zero, suc, ◌+◌, ◌-◌, ◌*◌, ◌≤◌, ◌<◌}
use native.Mathlib.Nat.{add-zero}
use native.Mathlib.Omega.{arith}
use lib.Dec.{eqb}
use lib.ListN.{length, get_or, drop, length-append, length-drop, get_or-append}
use lib.Seq.{get_or-drop, drop-drop, drop_at}
use Rattle.terms.specs.Term.{Term, app, lam, loc, con, var}
use Rattle.terms.specs.Table.{record_bytes, encode, good_records}
use Rattle.terms.specs.OldForm.{Bytes}
use Rattle.terms.proofs.Table.{kind, number_of, encode_length}
use Rattle.records.specs.Record.{parts, number_at}
use Rattle.std.specs.Bool.{then_some}
use borrow.Author.Tests.{ne_eqb}
use Rattle.records.specs.Parts.{Part, Whole, Ends, EndFound, Reached, Ended}
use Rattle.records.proofs.Record.{good_split, allowed_is, kind_read, rest_read}
use Rattle.records.proofs.Parts.{children, children_length, tables, tables_append, encode_first, part, whole}

-- m terms stand in l from `at` on, one behind another, and then rest
pub record TermRow (l : List ℕ) (at m : ℕ) (rest : List ℕ) : Type 0 where
  pub terms : List Term
  pub count : length terms ≡ m
  pub bytes : drop at l ≡ tables terms ++ rest

-- a pass from `from` has come to `at`, and m parts are missing there
pub record Passing (l : List ℕ) (from at m : ℕ) : Type 0 where
  pub within : at ≤ length l
  pub few : 4 * m + from ≤ at + 4
  pub more : from + 4 ≤ at + 4 * m
  pub to : (rest : List ℕ) → TermRow l from 1 rest → TermRow l at m rest
  pub back : (v : ℕ) → good_records v (drop from l) ≡ true → (rest : List ℕ) → TermRow l at m rest → TermRow l from 1 rest
  pub good : (v : ℕ) → good_records v (drop from l) ≡ true → good_records v (drop at l) ≡ true

-- a record takes a term from the front of a row and puts its parts there
open_row : (l : List ℕ) (at m : ℕ) (rest : List ℕ) → 0 < m → TermRow l at m rest → TermRow l (at + 4) (m - 1 + parts (get_or l at 0)) rest
open_row l at m rest h x = go x.terms x.count x.bytes
  where
    go : (ts : List Term) → length ts ≡ m → drop at l ≡ tables ts ++ rest → TermRow l (at + 4) (m - 1 + parts (get_or l at 0)) rest
    go [] c e = absurd (omega arith)
    go (t ∷ ts) c e =
        let b : List ℕ = tables (children t) ++ (tables ts ++ rest) in
        let d : drop at l ≡ record_bytes (kind t) (number_of t) b =
        e ∙ append_assoc (encode t) (tables ts) rest ∙ ap (◌++ (tables ts ++ rest)) (encode_first t) in
        let k : get_or l at 0 ≡ kind t = kind_read l at (kind t) (number_of t) b d in
        let p : length (children t) ≡ parts (get_or l at 0) = children_length t ∙ ap parts (sym k) in
        record {
          terms = children t ++ ts;
          count = omega (arith, length-append (children t) ts);
          bytes = rest_read l at (kind t) (number_of t) b d ∙ sym (append_assoc (tables (children t)) (tables ts) rest)
              ∙ ap (◌++ rest) (sym (tables_append (children t) ts));
        }

-- the row that a record of kind k and number n makes of a row of its parts
made : (k n m : ℕ) (ts : List Term) → k ≤ 4 → (k ≤ 1 → n ≡ 0) → length ts ≡ m + parts k
    → (us : List Term) × (length us ≡ suc m) × (record_bytes k n (tables ts) ≡ tables us)
made zero n m [] h z c = absurd (omega arith)
made zero n m (f ∷ []) h z c = absurd (omega arith)
made zero n m (f ∷ a ∷ ts) h z c =
    (app f a ∷ ts, omega arith, ap₂ (record_bytes 0) (z (omega arith)) (sym (append_assoc (encode f) (encode a) (tables ts))))
made (suc zero) n m [] h z c = absurd (omega arith)
made (suc zero) n m (b ∷ ts) h z c = (lam b ∷ ts, omega arith, ap (λ (i : ℕ). record_bytes 1 i (encode b ++ tables ts)) (z (omega arith)))
made (suc (suc zero)) n m ts h z c = (loc n ∷ ts, omega arith, refl)
made (suc (suc (suc zero))) n m ts h z c = (con n ∷ ts, omega arith, refl)
made (suc (suc (suc (suc zero)))) n m ts h z c = (var n ∷ ts, omega arith, refl)
made (suc (suc (suc (suc (suc k))))) n m ts h z c = absurd (omega arith)

close_row : (v : ℕ) (l : List ℕ) (at m : ℕ) (rest : List ℕ) → 0 < m → at + 4 ≤ length l → Bytes l
    → good_records v (drop at l) ≡ true → TermRow l (at + 4) (m - 1 + parts (get_or l at 0)) rest → TermRow l at m rest
close_row v l at m rest h w b g x =
    let a = allowed_is v l at w b (good_split l at v w g).0 in
    let u = made (get_or l at 0) (number_at l at) (m - 1) x.terms a.known a.none x.count in
    record {
      terms = u.0;
      count = omega (arith, u.1);
      bytes = a.is ∙ ap (record_bytes (get_or l at 0) (number_at l at)) x.bytes ∙ ap (◌++ rest) u.2;
    }

passing_step : (l : List ℕ) (from at m : ℕ) → Passing l from at m → 0 < m → at + 4 ≤ length l → Bytes l → (n : ℕ)
    → n ≡ parts (get_or l at 0) → n ≤ 2 → Passing l from (at + 4) (m - 1 + n)
passing_step l from at m x h w b n e u = rw e (record {
  within = w;
  few = omega (arith, x.few);
  more = omega (arith, x.more);
  to = λ rest y. open_row l at m rest h (x.to rest y);
  back = λ v g rest y. x.back v g rest (close_row v l at m rest h w b (x.good v g) y);
  good = λ v g. (good_split l at v w (x.good v g)).1;
})

-- a record x that is the first chunk of what is left
module _ (l : List ℕ) (from at m : ℕ) (rest x rest' : List ℕ) (p : Passing l from at m × (rest ≡ drop at l)) (e : rest ≡ x ++ rest')
    (h : length x ≡ 4) where
  chunk_is : drop at l ≡ x ++ rest'
  chunk_is = sym p.1 ∙ e

  pub chunk_within : at + 4 ≤ length l
  chunk_within = omega (arith, p.0.within, ap length chunk_is, length-append x rest', length-drop at l)

  pub passing_chunk : (n : ℕ) → ¬ (m ≡ 0) → Bytes l → n ≡ parts (get_or x 0 0) → n ≤ 2
      → Passing l from (at + 4) (m - 1 + n) × (rest' ≡ drop (at + 4) l)
  passing_chunk n z b f u =
      let k : get_or x 0 0 ≡ get_or l at 0 =
      sym (get_or-append x rest' 0 0 (omega arith)) ∙ ap (λ (y : List ℕ). get_or y 0 0) (sym chunk_is) ∙ get_or-drop at l 0 0
      ∙ ap (λ (i : ℕ). get_or l i 0) (add-zero at) in (
        passing_step l from at m p.0 (omega arith) chunk_within b n (f ∙ ap parts k) u,
        sym (drop_at x rest' 4 h) ∙ ap (drop 4) (sym chunk_is) ∙ drop-drop 4 at l,
      )

-- one term is a row, and a row of none is the rest
terms_one : (l : List ℕ) (at : ℕ) (t : Term) (x : Part l at t) → TermRow l at 1 x.rest
terms_one l at t x = record { terms = t ∷ []; count = refl; bytes = x.bytes ∙ ap (◌++ x.rest) (sym (append-nil (encode t))) }

only : (l : List ℕ) (at : ℕ) (rest : List ℕ) → TermRow l at 1 rest → Whole l at
only l at rest x = go x.terms x.count x.bytes
  where
    go : (ts : List Term) → length ts ≡ 1 → drop at l ≡ tables ts ++ rest → Whole l at
    go [] c e = absurd (omega arith)
    go (t ∷ []) c e = whole l at t (part l at t rest (e ∙ ap (◌++ rest) (append-nil (encode t))))
    go (t ∷ u ∷ ts) c e = absurd (omega arith)

none : (l : List ℕ) (at : ℕ) (rest : List ℕ) → TermRow l at 0 rest → drop at l ≡ rest
none l at rest x = go x.terms x.count x.bytes
  where
    go : (ts : List Term) → length ts ≡ 0 → drop at l ≡ tables ts ++ rest → drop at l ≡ rest
    go [] c e = e
    go (t ∷ ts) c e = absurd (omega arith)

passing_found : (l : List ℕ) (from at : ℕ) → from ≤ length l → Passing l from at 0 → EndFound l from at
passing_found l from at h x = (
  record {
    more = omega (arith, x.more);
    within = x.within;
    exact = λ t y.
        let e : drop at l ≡ y.rest = none l at y.rest (x.to y.rest (terms_one l from t y)) in
        omega (
          arith,
          x.within,
          x.more,
          ap length e,
          ap length y.bytes,
          length-append (encode t) y.rest,
          encode_length t,
          length-drop at l,
          length-drop from l,
        );
  },
  λ v g. only l from (drop at l) (x.back v g (drop at l) (record { terms = []; count = refl; bytes = refl })),
)

-- the pass ends where no part is missing, or where what is left is too short for a record
pub reached : (l : List ℕ) (from at m : ℕ) → from ≤ length l → Passing l from at m → (0 < m → length l - at < 4) → Reached l from m at
unfolding Reached
reached l from at zero h x s = passing_found l from at h x
reached l from at (suc m) h x s = λ t y. go (x.to y.rest (terms_one l from t y))
  where
    go : {rest : List ℕ} → TermRow l at (suc m) rest → ⊥
    go {rest} r = end r.terms r.count r.bytes
      where
        end : (ts : List Term) → length ts ≡ suc m → drop at l ≡ tables ts ++ rest → ⊥
        end [] c e = omega arith
        end (t ∷ ts) c e =
            let p = part l at t (tables ts ++ rest) (e ∙ append_assoc (encode t) (tables ts) rest) in
            omega (arith, p.some, p.within, s (omega arith))

-- what a pass says to those who asked for it
pub reached_ends : (l : List ℕ) (at m r : ℕ) → Whole l at → Reached l at m r → Ends l at r
unfolding Reached
reached_ends l at zero r x y = y.0
reached_ends l at (suc m) r x y = absurd (y x.tree x.part)

pub ended : (l : List ℕ) (m r : ℕ) → Reached l 0 m r → Ended l (then_some (eqb m 0) r)
unfolding Reached Ended
ended l zero r y = y
ended l (suc m) r y = subst (λ (b : Bool). Ended l (then_some b r)) (sym (ne_eqb (suc m) 0 (λ p. omega arith))) y
