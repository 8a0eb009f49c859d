-- At most one number is given, none where no cause holds, and rows one after the other are judged one after the other; a table is filled in
-- one way only. By induction on the rows, and since a term is known from its bytes. Assumes nothing.
use mathlib.Core.Path.{◌≡◌, sym, ap, ◌∙◌}
use mathlib.Core.List.{List, [], ◌∷◌, ◌++◌}
use mathlib.Core.Logic.{inl, inr}
use Prim.Native.Nat.{ℕ}
use Rattle.terms.specs.Term.{Term}
use Rattle.terms.specs.Sweep.{fill}
use Rattle.terms.specs.Layout.{Stored}
use Rattle.terms.specs.Refusal.{Row, Refused, Passed, Filled}
use Rattle.terms.proofs.Sweep.{fill_same}
use Rattle.terms.proofs.Table.{encode_one}

pub refused_once : (rows : List Row) (k m : ℕ) → Refused rows k → Refused rows m → k ≡ m
refused_once (r ∷ rows) k m (inl p) (inl q) = p.1 ∙ sym q.1
refused_once (r ∷ rows) k m (inl p) (inr q) = absurd (q.0 p.0)
refused_once (r ∷ rows) k m (inr p) (inl q) = absurd (p.0 q.0)
refused_once (r ∷ rows) k m (inr p) (inr q) = refused_once rows k m p.1 q.1
refused_once [] k m x'' _ = elim x'' [ ]

pub refused_passed : (rows : List Row) (k : ℕ) → Refused rows k → Passed rows → ⊥
refused_passed (r ∷ rows) k (inl p) h = h.0 p.0
refused_passed (r ∷ rows) k (inr p) h = refused_passed rows k p.1 h.1
refused_passed [] k x'' h = elim x'' [ ]

pub refused_first : (rows more : List Row) (k : ℕ) → Refused rows k → Refused (rows ++ more) k
refused_first (r ∷ rows) more k (inl p) = inl p
refused_first (r ∷ rows) more k (inr p) = inr (p.0, refused_first rows more k p.1)
refused_first [] more k x' = elim x' [ ]

pub refused_later : (rows more : List Row) (k : ℕ) → Passed rows → Refused more k → Refused (rows ++ more) k
refused_later [] more k h p = p
refused_later (r ∷ rows) more k h p = inr (h.0, refused_later rows more k h.1 p)

pub passed_both : (rows more : List Row) → Passed rows → Passed more → Passed (rows ++ more)
passed_both [] more h p = p
passed_both (r ∷ rows) more h p = (h.0, passed_both rows more h.1 p)

pub passed_first : (rows more : List Row) → Passed (rows ++ more) → Passed rows
passed_first [] more h = tt
passed_first (r ∷ rows) more h = (h.0, passed_first rows more h.1)

pub passed_later : (rows more : List Row) → Passed (rows ++ more) → Passed more
passed_later [] more h = h
passed_later (r ∷ rows) more h = passed_later rows more h.1

-- a value is known from its place
pub stored_one : (l s : List ℕ) (i : ℕ) (v w : Term) → Stored l s i v → Stored l s i w → v ≡ w
stored_one l s i v w x y = encode_one v w (sym x.bytes ∙ y.bytes)

pub filled_one : (p l s : List ℕ) (t u : Term) → Filled p l s t → Filled p l s u → t ≡ u
filled_one p l s t u x y =
    let e : x.term ≡ y.term = encode_one x.term y.term (sym x.table.0 ∙ y.table.0) in
    x.is
    ∙ fill_same x.φ y.φ x.term (λ i o. stored_one l s i (x.φ i) (y.φ i) (x.stored i o) (y.stored i (rw e at o)))
    ∙ ap (fill y.φ) e ∙ sym y.is
