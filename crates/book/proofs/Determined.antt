-- Nothing is left free: two answers that meet what a book's search promises on the same lent tables are equal, and so are two contents of
-- the output table. At most one row of refusal is given, none where all pass, and a book whose rules pass has one outcome for a recipe.
-- Assumes nothing.
use mathlib.Core.Path.{◌≡◌, sym, ap, ◌∙◌, subst}
use mathlib.Core.List.{List, ◌++◌}
use mathlib.Core.Logic.{◌⊎◌, inl, inr}
use Prim.Native.Nat.{ℕ}
use native.Mathlib.Omega.{arith}
use Rattle.std.specs.declared.result.Result.{Result}
use Rattle.std.specs.declared.result.Result.TheVariants.{Ok, Err}
use Rattle.terms.specs.Term.{Term, size}
use Rattle.terms.specs.Table.{encode}
use Rattle.terms.specs.Refusal.{Row, Refused, Passed, recipe_rows}
use Rattle.terms.proofs.Refusal.{refused_once, refused_passed, passed_first, passed_later}
use Rattle.refusals.specs.declared.Refusal.{Refusal}
use Rattle.refusals.specs.Judged.{number}
use Rattle.refusals.specs.Lent.{overwritten}
use Rattle.refusals.proofs.Numbers.{number_inj, refusal_one}
use Rattle.rules.specs.Rules.{places, rules_rows}
use Rattle.scanning.specs.Search.{BookOutcome, given, refused, Found}
use Rattle.scanning.proofs.Determined.{found_one}
use Rattle.book.specs.declared.NewRecipe.{NewRecipe}
use Rattle.book.specs.Operations.{book_table_rows, places_rows, lent_for_book, last_rows, WrittenRecipe, Stopped, Booked}

abbrev new_recipe : ℕ → ℕ → NewRecipe
new_recipe n c = record { records = n; pairs = c }

same_recipe : (u v : NewRecipe) → u.records ≡ v.records → u.pairs ≡ v.pairs → u ≡ v
same_recipe u v e f = ap (λ (n : ℕ). new_recipe n u.pairs) e ∙ ap (new_recipe v.records) f

module _ (b r o w : List ℕ) where
  abbrev lent : List Row
  lent = lent_for_book b r o w

  found_same : Passed lent → (x y : BookOutcome) → Found b r x → Found b r y → x ≡ y
  found_same h =
      found_one b r
      (passed_first (rules_rows b (places b)) (recipe_rows r)
      (passed_later (book_table_rows b o w ++ places_rows b) (rules_rows b (places b) ++ recipe_rows r) h))

  -- why an outcome is refused
  abbrev Cause : BookOutcome → ℕ → Type 0
  Cause x k = (x ≡ refused k) ⊎ ((v : Term) × (c : ℕ) × (x ≡ given v c) × Refused (last_rows v o) k)

  cause_one : (x : BookOutcome) (k m : ℕ) → Cause x k → Cause x m → k ≡ m
  cause_one x k m (inl e) (inl f) = cc
  cause_one x k m (inl e) (inr (v, c, f, y)) = absurd (let z : ◌≡◌ {A = ℕ} 0 1 = cc in omega arith)
  cause_one x k m (inr (v, c, e, y)) (inl f) = absurd (let z : ◌≡◌ {A = ℕ} 0 1 = cc in omega arith)
  cause_one x k m (inr (v, c, e, y)) (inr (u, d, f, z)) =
      let g : u ≡ v = cc in
      refused_once (last_rows v o) k m y (subst (λ (t : Term). Refused (last_rows t o) m) g z)

  cause_given : (v : Term) (c k : ℕ) → Passed (last_rows v o) → Cause (given v c) k → ⊥
  cause_given v c k h (inl e) = let z : ◌≡◌ {A = ℕ} 0 1 = cc in omega arith
  cause_given v c k h (inr (u, d, e, x)) =
      let g : u ≡ v = cc in
      refused_passed (last_rows v o) k (subst (λ (t : Term). Refused (last_rows t o) k) g x) h

  stopped_cause : Passed lent → (x : BookOutcome) → Found b r x → (k : ℕ) → Stopped b r o k → Cause x k
  stopped_cause h x f k y = subst (λ (z : BookOutcome). Cause z k) (found_same h y.outcome x y.found f) y.cause

  -- why an answer is a refusal
  abbrev Why : Refusal → Type 0
  Why c = Refused lent (number c) ⊎ (Passed lent × Stopped b r o (number c))

  why_one : (c d : Refusal) → Why c → Why d → c ≡ d
  why_one c d (inl x) (inl y) = refusal_one lent c d x y
  why_one c d (inl x) (inr y) = absurd (refused_passed lent (number c) x y.0)
  why_one c d (inr x) (inl y) = absurd (refused_passed lent (number d) y x.0)
  why_one c d (inr (h, x)) (inr (g, y)) =
      number_inj c d
      (cause_one y.outcome (number c) (number d) (stopped_cause h y.outcome y.found (number c) x) y.cause)

  module _ (n c : ℕ) (after : List ℕ) (h : Passed lent) (x : WrittenRecipe b r o n c after) where
    why_written : (d : Refusal) → Why d → ⊥
    why_written d (inl y) = refused_passed lent (number d) y h
    why_written d (inr (g, y)) =
        cause_given x.form c (number d) x.room (stopped_cause h (given x.form c) x.found (number d) y)

    written_one : (m d : ℕ) (later : List ℕ) → WrittenRecipe b r o m d later → (n ≡ m) × (c ≡ d) × (after ≡ later)
    written_one m d later y =
        let e = found_same h (given x.form c) (given y.form d) x.found y.found in
        let f : x.form ≡ y.form = cc in (
          x.records ∙ ap size f ∙ sym y.records,
          cc,
          x.bytes ∙ ap (λ (t : Term). overwritten (encode t) o) f ∙ sym y.bytes,
        )

  pub booked_one : (a d : Result NewRecipe Refusal) (m n : List ℕ) → Booked b r o w a m → Booked b r o w d n → (a ≡ d) × (m ≡ n)
  unfolding Booked
  booked_one (Ok u) (Ok v) m n x y =
      let e = written_one u.records u.pairs m x.0 x.1 v.records v.pairs n y.1 in
      (ap Ok (same_recipe u v e.0 e.1), e.2)
  booked_one (Ok u) (Err d) m n x y = absurd (why_written u.records u.pairs m x.0 x.1 d y.0)
  booked_one (Err c) (Ok v) m n x y = absurd (why_written v.records v.pairs n y.0 y.1 c x.0)
  booked_one (Err c) (Err d) m n x y = (ap Err (why_one c d x.0 y.0), x.1 ∙ sym y.1)
