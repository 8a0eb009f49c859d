-- Entries read from a line, the values that they give, and the variables that a table mentions. From the bytes of a line and the parts of a
-- table, by induction on the term. Assumes nothing.
use mathlib.Core.Path.{◌≡◌, refl, sym, ap, ap₂, ◌∙◌, subst}
use mathlib.Core.Bool.{Bool, true, false, not}
use mathlib.Core.List.{List}
use mathlib.Core.Logic.{◌⊎◌, inl, inr, ⊎_elim}
use Prim.Native.Nat.{ℕ, zero, suc, ◌+◌, ◌*◌, ◌-◌, ◌/◌, ◌≤◌, ◌<◌}
use native.Mathlib.Omega.{arith}
use native.Mathlib.Nat.{eq-or-lt_of_le}
use native.Mathlib.Decide.{ℕ_discrete, dec_lt}
use borrow.Author.Tests.{eq-eqb, ne_eqb}
use lib.Dec.{eqb}
use lib.ListN.{length, get_or, take, drop, length-take}
use Rattle.terms.specs.Figures.{variables, value_records}
use Rattle.terms.specs.Term.{Term, app, lam, loc, con, var, size, Occurs}
use Rattle.terms.specs.Table.{encode}
use Rattle.terms.specs.Layout.{word_at, Stored}
use Rattle.terms.proofs.Tests.{by_eqb}
use Rattle.terms.proofs.Table.{encode_length}
use Rattle.records.specs.Record.{number_at}
use Rattle.records.specs.Parts.{Part}
use Rattle.records.specs.Tests.{Says}
use Rattle.records.specs.Checks.{ValueTable}
use Rattle.records.proofs.Parts.{kind_at, number_at_lem, application_parts, abstraction_part, at_start}
use Rattle.assignments.specs.declared.Span.{Span}
use Rattle.assignments.specs.declared.Entry.{Entry}
use Rattle.assignments.specs.declared.Entry.TheVariants.{Open, Assigned}
use Rattle.assignments.specs.Entries.{entry_at, Read, Given, VariableAt, Mentions, Lacking}

-- a line's entries
pub open_at : (l : List ℕ) (i c : ℕ) → c ≡ word_at l (4 * i + 2) → c ≡ 0 → Open ≡ entry_at l i
unfolding entry_at
open_at l i c e z = simp (eq-eqb _ _ (sym e ∙ z))

pub assigned_at : (l : List ℕ) (i c f : ℕ) → c ≡ word_at l (4 * i + 2) → ¬ (c ≡ 0) → f ≡ word_at l (4 * i)
    → Assigned (record { first = f; count = c }) ≡ entry_at l i
unfolding entry_at
assigned_at l i c f e z g = simp (ne_eqb _ _ (λ (h : word_at l (4 * i + 2) ≡ 0). z (e ∙ h)), ← e, ← g)

pub open_span : {x : Span} → Open ≡ Assigned x → ⊥
open_span e = let z : ◌≡◌ {A = ℕ} 0 1 = cc in omega arith

pub span_inj : (x y : Span) → Assigned x ≡ Assigned y → x ≡ y
span_inj x y e = cc

-- a value that is given
module _ (s : List ℕ) (a : List Entry) (i : ℕ) where
  abbrev pub IsGiven : Type 0
  IsGiven = (v : Term) × Given s a i v

  module _ (x : Span) (e : get_or a i Open ≡ Assigned x) where
    pub same_span : (v : Term) (g : Given s a i v) → g.span ≡ x
    same_span v g = span_inj g.span x (sym g.is ∙ e)

    pub not_long : value_records < x.count → ¬ IsGiven
    not_long h g = omega (arith, g.1.most, ap (λ y. y.count) (same_span g.0 g.1))

    pub not_past : length s / 4 < x.first + x.count → ¬ IsGiven
    not_past h g =
        let p = ap (λ y. y.count) (same_span g.0 g.1) in
        let q = ap (λ y. y.first) (same_span g.0 g.1) in
        omega (arith, g.1.within)

    -- the records of the span are a value's
    pub is_value : x.count ≤ value_records → 4 * (x.first + x.count) ≤ length s
        → ValueTable (take (4 * x.count) (drop (4 * x.first) s)) → IsGiven
    is_value m w t = (t.tree, record { span = x; is = e; most = m; within = w; bytes = t.bytes; value = t.value })

    pub no_value_table : ¬ ValueTable (take (4 * x.count) (drop (4 * x.first) s)) → ¬ IsGiven
    no_value_table n g =
        let b = g.1.bytes in
        n (subst (λ y. ValueTable (take (4 * y.count) (drop (4 * y.first) s))) (same_span g.0 g.1)
        (record {
          tree = g.0;
          bytes = b;
          value = g.1.value;
          most = omega
              (arith, g.1.most, ap length b, encode_length g.0, length-take (4 * g.1.span.count) (drop (4 * g.1.span.first) s));
        }))

    pub says_given :
        x.count ≤ value_records → 4 * (x.first + x.count) ≤ length s → (l : List ℕ) (r : Bool)
        → l ≡ take (4 * x.count) (drop (4 * x.first) s) → Says r (ValueTable l) → Says r IsGiven
    says_given m w l true p t = is_value m w (rw p at t)
    says_given m w l false p t = no_value_table (rw p at t)

-- what an assigned entry says of the line
entry_span : (l : List ℕ) (i : ℕ) (x : Span) → entry_at l i ≡ Assigned x
    → (1 ≤ word_at l (4 * i + 2)) × (x.first ≡ word_at l (4 * i)) × (x.count ≡ word_at l (4 * i + 2))
entry_span l i x e = go (ℕ_discrete (word_at l (4 * i + 2)) 0)
  where
    go : Dec (word_at l (4 * i + 2) ≡ 0) → (1 ≤ word_at l (4 * i + 2)) × (x.first ≡ word_at l (4 * i)) × (x.count ≡ word_at l (4 * i + 2))
    go (yes z) = absurd (open_span (open_at l i (word_at l (4 * i + 2)) refl z ∙ e))
    go (no z) =
        let q = span_inj (record { first = word_at l (4 * i); count = word_at l (4 * i + 2) }) x
        (assigned_at l i (word_at l (4 * i + 2)) (word_at l (4 * i)) refl z refl ∙ e) in
        (omega arith, sym (ap (λ y. y.first) q), sym (ap (λ y. y.count) q))

-- what the line stores is what its entries give
module _ (l s : List ℕ) (a : List Entry) (r : Read l a variables) (i : ℕ) (h : i < variables) (v : Term) where
  pub given_stored : Given s a i v → Stored l s i v
  given_stored g =
      let e = entry_span l i g.span (sym (r i h) ∙ g.is) in
      record {
        least = e.0;
        most = omega (arith, g.most, e.2);
        within = omega (arith, g.within, e.1, e.2);
        bytes = ap₂ (λ (n m : ℕ). take (4 * n) (drop (4 * m) s)) (sym e.2) (sym e.1) ∙ g.bytes;
        value = g.value;
      }

  pub stored_given : Stored l s i v → Given s a i v
  stored_given x = record {
    span = record { first = word_at l (4 * i); count = word_at l (4 * i + 2) };
    is = r i h ∙ sym (assigned_at l i (word_at l (4 * i + 2)) (word_at l (4 * i)) refl (λ z. omega (arith, x.least)) refl);
    most = x.most;
    within = x.within;
    bytes = x.bytes;
    value = x.value;
  }

-- a variable has no value, or has one where it is mentioned
module _ (l s : List ℕ) (a : List Entry) where
  pub lacking_is : (i : ℕ) (b r : Bool) → Lacking l s a i b → b ≡ r → Lacking l s a i r
  lacking_is i b r x e = subst (Lacking l s a i) e x

  pub given_more : (k : ℕ) → ((i : ℕ) → i < k → Lacking l s a i false) → Lacking l s a k false → (i : ℕ) → i < k + 1 → Lacking l s a i false
  given_more k f g i h = ⊎_elim (λ (q : i ≡ k). rw q g) (λ (q : i < k). f i q) (eq-or-lt_of_le (omega arith))

-- the variables that a table mentions
module _ (l : List ℕ) (i : ℕ) where
  -- a variable of the part at byte `at` is one of its records
  occurs_at : (t : Term) (at : ℕ) → Part l at t → Occurs i t
      → (k : ℕ) × (k < size t) × ((q : ℕ) → q ≡ at + 4 * k → (get_or l q 0 ≡ 4) × (number_at l q ≡ i))
  occurs_at (app f a) at x (inl o) =
      let r = occurs_at f (at + 4) (application_parts l at f a x).0 o in
      (suc r.0, omega (arith, r.1), λ q e. r.2 q (omega arith))
  occurs_at (app f a) at x (inr o) =
      let r = occurs_at a (at + 4 + 4 * size f) (application_parts l at f a x).1 o in
      (suc (size f + r.0), omega (arith, r.1), λ q e. r.2 q (omega arith))
  occurs_at (lam b) at x o =
      let r = occurs_at b (at + 4) (abstraction_part l at b x) o in
      (suc r.0, omega (arith, r.1), λ q e. r.2 q (omega arith))
  occurs_at (loc n) at x o = absurd o
  occurs_at (con n) at x o = absurd o
  occurs_at (var n) at x o =
      (0, omega arith, λ q e. let p : q ≡ at = omega arith in (rw p (kind_at l at (var n) x), rw p (number_at_lem l at (var n) x ∙ sym o)))

  other_kind : (k at q : ℕ) → get_or l at 0 ≡ k → q ≡ at → ¬ (k ≡ 4) → get_or l q 0 ≡ 4 → ⊥
  other_kind k at q e p n h = n (sym e ∙ ap (λ (j : ℕ). get_or l j 0) (sym p) ∙ h)

  at_occurs : (t : Term) (at k q : ℕ) → Part l at t → q ≡ at + 4 * k → k < size t → get_or l q 0 ≡ 4 → number_at l q ≡ i → Occurs i t
  at_occurs (app f a) at zero q x e h p n = absurd (other_kind 0 at q (kind_at l at (app f a) x) (omega arith) (λ z. omega arith) p)
  at_occurs (app f a) at (suc k) q x e h p n =
      go (dec_lt k (size f)) (at_occurs f (at + 4) k q (application_parts l at f a x).0 (omega arith))
      (at_occurs a (at + 4 + 4 * size f) (k - size f) q (application_parts l at f a x).1)
    where
      go : Dec (k < size f) → (k < size f → get_or l q 0 ≡ 4 → number_at l q ≡ i → Occurs i f)
          → (q ≡ at + 4 + 4 * size f + 4 * (k - size f) → k - size f < size a → get_or l q 0 ≡ 4 → number_at l q ≡ i → Occurs i a)
          → Occurs i f ⊎ Occurs i a
      go (yes d) left right = inl (left d p n)
      go (no d) left right = inr (right (omega arith) (omega arith) p n)
  at_occurs (lam b) at zero q x e h p n = absurd (other_kind 1 at q (kind_at l at (lam b) x) (omega arith) (λ z. omega arith) p)
  at_occurs (lam b) at (suc k) q x e h p n = at_occurs b (at + 4) k q (abstraction_part l at b x) (omega arith) (omega arith) p n
  at_occurs (loc m) at k q x e h p n = absurd (other_kind 2 at q (kind_at l at (loc m) x) (omega arith) (λ z. omega arith) p)
  at_occurs (con m) at k q x e h p n = absurd (other_kind 3 at q (kind_at l at (con m) x) (omega arith) (λ z. omega arith) p)
  at_occurs (var m) at k q x e h p n = let z : q ≡ at = omega arith in sym n ∙ ap (number_at l) z ∙ number_at_lem l at (var m) x

  pub occurs_mentions : (t : Term) → l ≡ encode t → Occurs i t → Mentions l i
  occurs_mentions t e o =
      let r = occurs_at t 0 (at_start l t e) o in
      let m = r.2 (4 * r.0) (omega arith) in
      record { index = r.0; within = omega (arith, r.1, ap length e, encode_length t); is = record { kind = m.0; number = m.1 } }

  pub mentions_occurs : (t : Term) → l ≡ encode t → Mentions l i → Occurs i t
  mentions_occurs t e m = at_occurs t 0 m.index (4 * m.index) (at_start l t e) (omega arith)
      (omega (arith, m.within, ap length e, encode_length t)) m.is.kind m.is.number
