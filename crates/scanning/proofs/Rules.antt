-- The rules tried on one part, one after the other: what one rule and those behind it come to. By induction on the rules. Assumes nothing.
--   RulesLeft b r c i   what the rules from place i on show of the part with the table r, where the c pairs of other parts and those of the
--                       rules before were passed over, all rules show of it
use mathlib.Core.Path.{◌≡◌, refl, sym, ap, ◌∙◌, subst}
use mathlib.Core.List.{List, [], ◌∷◌, ◌++◌}
use mathlib.Core.Logic.{inl, inr}
use Prim.Native.Nat.{ℕ, zero, suc, ◌+◌, ◌-◌, ◌/◌, ◌≤◌, ◌<◌}
use native.Mathlib.Omega.{arith}
use lib.ListN.{length}
use Rattle.std.specs.declared.result.Result.{Result}
use Rattle.std.specs.declared.option.Option.{Option}
use Rattle.std.specs.declared.result.Result.TheVariants.{Ok, Err}
use Rattle.std.specs.declared.option.Option.TheVariants.{Some, None}
use Rattle.terms.specs.Figures.{place_bytes}
use Rattle.terms.specs.Term.{Term}
use Rattle.terms.specs.Table.{IsTable, encode}
use Rattle.terms.proofs.Table.{encode_one}
use Rattle.records.specs.Checks.{Recipe}
use Rattle.refusals.specs.declared.Refusal.{Refusal}
use Rattle.refusals.specs.Judged.{number}
use Rattle.rules.specs.Rules.{left_table, right_table, count_up, places}
use Rattle.rules.specs.Pairs.{Pair, with_rules}
use Rattle.rules.specs.Steps.{Rule}
use Rattle.replacing.specs.Replacing.{replaced}
use Rattle.attempts.specs.Pairs.{next, form, stop, Tried}
use Rattle.attempts.specs.Steps.{FormTable, PairAnswers, PairAnswered, PairTables}
use Rattle.scanning.specs.declared.Scan.{Scan}
use Rattle.scanning.specs.Search.{BookOutcome, refused, WholeSwept, SearchEnds}
use Rattle.scanning.specs.Steps.{RuleTables, RuleScan}

-- what a pair's answer says
module _ (p q : List ℕ) (t : Term) (a : Result (Option ℕ) Refusal) (f : List ℕ) (x : PairAnswered (Tried p q t) a f) where
  answers_as : (d : Result (Option ℕ) Refusal) → a ≡ d → PairAnswers d f x.outcome
  answers_as d e = subst (λ (b : Result (Option ℕ) Refusal). PairAnswers b f x.outcome) e x.answers

  tried_next : a ≡ (Ok None) → Tried p q t next
  unfolding PairAnswers
  tried_next e = subst (Tried p q t) (answers_as (Ok None) e) x.holds

  tried_stop : (c : Refusal) → a ≡ Err c → Tried p q t (stop (number c))
  unfolding PairAnswers
  tried_stop c e = subst (Tried p q t) (answers_as (Err c) e) x.holds

  tried_form : (n : ℕ) → a ≡ Ok (Some n) → (u : Term) × Tried p q t (form u) × FormTable f n u
  unfolding PairAnswers
  tried_form n e =
      let z = answers_as (Ok (Some n)) e in
      (z.0, subst (Tried p q t) z.1 x.holds, z.2)

-- what is lent for the rules behind it
pub same_tables : (b lines values work : List ℕ) → RuleTables b lines values work → (lines' values' work' : List ℕ)
    → length lines' ≡ length lines → length values' ≡ length values → length work' ≡ length work → RuleTables b lines' values' work'
same_tables b lines values work x lines' values' work' e f g = record {
  rules = x.rules;
  few = x.few;
  lines_length = e ∙ x.lines_length;
  values_length = f ∙ x.values_length;
  area = g ∙ x.area;
}

-- no rule is left
scan_none : (b : List ℕ) (t : Term) (i n c : ℕ) (f : List ℕ) → i ≡ n → RuleScan b t (count_up i (n - i)) c (Ok (Scan.PassedOver c)) f
unfolding RuleScan
scan_none b t i n c f e = let z : n - i ≡ 0 = omega arith in rw z refl

-- one rule more
module _ (b : List ℕ) (t : Term) (i n c : ℕ) (h : i < n) (a : Result (Option ℕ) Refusal) (f : List ℕ)
    (x : PairAnswered (Tried (left_table b i) (right_table b i) t) a f) where
  left_is : n - i ≡ suc (n - (i + 1))
  left_is = omega arith

  as_scan : (d : Result Scan Refusal) (k : List ℕ) → RuleScan b t (i ∷ count_up (suc i) (n - (i + 1))) c d k
      → RuleScan b t (count_up i (n - i)) c d k
  as_scan d k z = subst (λ (m : ℕ). RuleScan b t (count_up i m) c d k) (sym left_is) z

  scan_next : a ≡ (Ok None) → (d : Result Scan Refusal) (k : List ℕ) → RuleScan b t (count_up (i + 1) (n - (i + 1))) (c + 1) d k
      → RuleScan b t (count_up i (n - i)) c d k
  unfolding RuleScan
  scan_next e d k w =
      let s : i + 1 ≡ suc i = omega arith in
      let o : c + 1 ≡ suc c = omega arith in
      let v : RuleScan b t (count_up (suc i) (n - (i + 1))) (suc c) d k =
      subst (λ (j : ℕ). RuleScan b t (count_up (suc i) (n - (i + 1))) j d k) o
      (subst (λ (j : ℕ). RuleScan b t (count_up j (n - (i + 1))) (c + 1) d k) s w) in
      as_scan d k (inl (tried_next (left_table b i) (right_table b i) t a f x e, v))

  scan_form : (m : ℕ) → a ≡ Ok (Some m) → RuleScan b t (count_up i (n - i)) c (Ok (Scan.Form m (c + 1))) f
  unfolding RuleScan
  scan_form m e = as_scan (Ok (Scan.Form m (c + 1))) f (inr (omega arith, tried_form (left_table b i) (right_table b i) t a f x m e))

  scan_refused : (k : Refusal) → a ≡ Err k → RuleScan b t (count_up i (n - i)) c (Err k) f
  unfolding RuleScan
  scan_refused k e = as_scan (Err k) f (inr (tried_stop (left_table b i) (right_table b i) t a f x k e))

-- the rules from place i on are left
pub record RulesLeft (b r : List ℕ) (c i : ℕ) : Type 0 where
  pub all : (t : Term) → r ≡ encode t → (d : Result Scan Refusal) (f : List ℕ)
      → RuleScan b t (count_up i (length b / place_bytes - i)) (c + i) d f
      → RuleScan b t (places b) c d f

pub rules_left : (b r : List ℕ) (c : ℕ) → RulesLeft b r c 0
rules_left b r c = record { all = λ t e d f x. rw (← zero_left, ← none_more) x }
  where
    zero_left : length b / place_bytes - 0 ≡ length b / place_bytes
    zero_left = omega arith

    none_more : c + 0 ≡ c
    none_more = omega arith

module _ (b r : List ℕ) (c i : ℕ) (x : RulesLeft b r c i) where
  pub left_none : length b / place_bytes ≤ i → i ≤ length b / place_bytes → (t : Term) → r ≡ encode t → (f : List ℕ)
      → RuleScan b t (places b) c (Ok (Scan.PassedOver (c + length b / place_bytes))) f
  left_none h g t e f =
      let n : i ≡ length b / place_bytes = omega arith in
      subst (λ (k : ℕ). RuleScan b t (places b) c (Ok (Scan.PassedOver (c + k))) f) n
      (x.all t e (Ok (Scan.PassedOver (c + i))) f (scan_none b t i (length b / place_bytes) (c + i) f n))

  module _ (h : i < length b / place_bytes) (a : Result (Option ℕ) Refusal) (f : List ℕ)
      (y : (t : Term) → r ≡ encode t → PairAnswered (Tried (left_table b i) (right_table b i) t) a f) where
    pub left_next : a ≡ (Ok None) → RulesLeft b r c (i + 1)
    left_next p = record {
      all = λ t e d k z.
          let s : c + (i + 1) ≡ c + i + 1 = omega arith in
          x.all t e d k (scan_next b t i (length b / place_bytes) (c + i) h a f (y t e) p d k
          (subst (λ (j : ℕ). RuleScan b t (count_up (i + 1) (length b / place_bytes - (i + 1))) j d k) s z));
    }

    pub left_form : (m : ℕ) → a ≡ Ok (Some m) → (t : Term) → r ≡ encode t → RuleScan b t (places b) c (Ok (Scan.Form m (c + i + 1))) f
    left_form m p t e = x.all t e _ f (scan_form b t i (length b / place_bytes) (c + i) h a f (y t e) m p)

    pub left_refused : (k : Refusal) → a ≡ Err k → (t : Term) → r ≡ encode t → RuleScan b t (places b) c (Err k) f
    left_refused k p t e = x.all t e _ f (scan_refused b t i (length b / place_bytes) (c + i) h a f (y t e) k p)

-- how many pairs are passed over
count_most : (b : List ℕ) (t : Term) (is : List ℕ) (c m : ℕ) (f : List ℕ) → RuleScan b t is c (Ok (Scan.PassedOver m)) f → m ≤ c + length is
unfolding RuleScan
count_most b t [] c m f x = let e : m ≡ c = cc in omega (arith, e)
count_most b t (i ∷ is) c m f (inl x) = omega (arith, count_most b t is (suc c) m f x.1)
count_most b t (i ∷ is) c m f (inr x) = absurd x

length_count_up : (i n : ℕ) → length (count_up i n) ≡ n
length_count_up i zero = refl
length_count_up i (suc n) = ap suc (length_count_up (suc i) n)

pub scan_most : (b : List ℕ) (t : Term) (i n c : ℕ) (a : Result Scan Refusal) (f : List ℕ) → RuleScan b t (count_up i n) c a f → (m : ℕ)
    → a ≡ Ok (Scan.PassedOver m) → m ≤ c + n
scan_most b t i n c a f x m e =
    omega (
      arith,
      count_most b t (count_up i n) c m f (subst (λ (d : Result Scan Refusal). RuleScan b t (count_up i n) c d f) e x),
      length_count_up i n,
    )

-- the form that the scan ended with
pub scan_table : (b : List ℕ) (t : Term) (is : List ℕ) (c n m : ℕ) (f : List ℕ) → RuleScan b t is c (Ok (Scan.Form n m)) f
    → (u : Term) × FormTable f n u
unfolding RuleScan
scan_table b t [] c n m f x = absurd (let z : ◌≡◌ {A = ℕ} 0 1 = cc in omega arith)
scan_table b t (i ∷ is) c n m f (inl x) = scan_table b t is (suc c) n m f x.1
scan_table b t (i ∷ is) c n m f (inr x) = (x.1.0, x.1.2)

-- the pairs of one part, and the pairs behind them
module _ (b r : List ℕ) (s : Term) (k : ℕ) (t : Term) (rest : List Pair) where
  pub pairs_next : (is : List ℕ) (c m : ℕ) (f : List ℕ) (o : BookOutcome) → RuleScan b t is c (Ok (Scan.PassedOver m)) f
      → SearchEnds b r s rest m o → SearchEnds b r s (with_rules (k, t) is ++ rest) c o
  unfolding RuleScan
  pairs_next [] c m f o x y = let e : m ≡ c = cc in subst (λ (n : ℕ). SearchEnds b r s rest n o) e y
  pairs_next (i ∷ is) c m f o (inl x) y = inl (x.0, pairs_next is (suc c) m f o x.1 y)
  pairs_next (i ∷ is) c m f o (inr x) y = absurd x

  pub pairs_refused : (is : List ℕ) (c : ℕ) (e : Refusal) (f : List ℕ) → RuleScan b t is c (Err e) f
      → SearchEnds b r s (with_rules (k, t) is ++ rest) c (refused (number e))
  unfolding RuleScan
  pairs_refused [] c e f x = absurd (let z : ◌≡◌ {A = ℕ} 0 1 = cc in omega arith)
  pairs_refused (i ∷ is) c e f (inl x) = inl (x.0, pairs_refused is (suc c) e f x.1)
  pairs_refused (i ∷ is) c e f (inr x) = inr (inl (number e, x, refl))

  pub pairs_form : (is : List ℕ) (c n m : ℕ) (f : List ℕ) → RuleScan b t is c (Ok (Scan.Form n m)) f → (u : Term) → FormTable f n u
      → (w : Term)
      → IsTable (replaced r k t u) w → (o : BookOutcome) → WholeSwept w m o → SearchEnds b r s (with_rules (k, t) is ++ rest) c o
  unfolding RuleScan
  pairs_form [] c n m f x u y w z o v = absurd (let z : ◌≡◌ {A = ℕ} 0 1 = cc in omega arith)
  pairs_form (i ∷ is) c n m f (inl x) u y w z o v = inl (x.0, pairs_form is (suc c) n m f x.1 u y w z o v)
  pairs_form (i ∷ is) c n m f (inr x) u y w z o v =
      let e : x.1.0 ≡ u = encode_one x.1.0 u (sym x.1.2.begins.bytes ∙ y.begins.bytes) in
      inr (inr (
        u,
        w,
        subst (λ (d : Term). Tried (left_table b i) (right_table b i) t (form d)) e x.1.1,
        z,
        subst (λ (j : ℕ). WholeSwept w j o) x.0 v,
      ))
