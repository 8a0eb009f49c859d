-- What is answered, from the search, the whole and what is written. Assumes nothing.
use mathlib.Core.Path.{◌≡◌, refl, sym, ap, ◌∙◌, subst}
use mathlib.Core.List.{List, ◌++◌}
use mathlib.Core.Logic.{inl, inr}
use Prim.Native.Nat.{ℕ, ◌+◌, ◌*◌, ◌-◌, ◌/◌, ◌≤◌, ◌<◌}
use native.Mathlib.Omega.{arith}
use lib.ListN.{length, take, drop}
use lib.Seq.{sets, sets-eq}
use Rattle.std.specs.declared.result.Result.{Result}
use Rattle.std.specs.declared.result.Result.TheVariants.{Ok, Err}
use Rattle.normalizing.specs.declared.NormalFault.{NormalFault}
use Rattle.terms.specs.Figures.{recipe_records, swept_records}
use Rattle.terms.specs.Term.{Term, size}
use Rattle.terms.specs.Table.{encode}
use Rattle.terms.specs.Refusal.{Passed}
use Rattle.terms.proofs.Table.{encode_length}
use Rattle.sweeping.specs.Swept.{sweep_records}
use Rattle.normalizing.specs.Normalized.{of_fault}
use Rattle.normalizing.proofs.Rows.{rows_long, rows_none, rows_form, rows_passed}
use Rattle.refusals.specs.declared.Refusal.{Refusal}
use Rattle.refusals.specs.Judged.{number, Judged}
use Rattle.refusals.proofs.Judging.{passed}
use Rattle.rules.specs.Pairs.{Parts}
use Rattle.replacing.specs.Wholes.{FormStands, WholeNormalized}
use Rattle.replacing.proofs.Wholes.{recipe_hole, recipe_part}
use Rattle.scanning.specs.declared.SearchEnd.{SearchEnd}
use Rattle.scanning.specs.Search.{BookOutcome, given, refused, Found}
use Rattle.scanning.specs.Steps.{PartForm, Rest, Sought}
use Rattle.book.specs.declared.NewRecipe.{NewRecipe}
use Rattle.book.specs.Operations.{lent_for_book, Booked}
use Rattle.book.specs.Steps.{BookTables, RecipeGiven, OutcomeGiven, WholeGiven, BookAnswered}

-- a new recipe
module _ (f o : List ℕ) (c : ℕ) (v : Term) (e : f ≡ encode v) where
  form_length : length f ≡ 4 * size v
  form_length = ap length e ∙ encode_length v

  pub recipe_long : recipe_records < length f / 4 → RecipeGiven v c o (Err Refusal.LongRecipe) o
  unfolding RecipeGiven
  recipe_long h = (inl (omega (arith, form_length), refl), refl)

  pub recipe_short : length f / 4 ≤ recipe_records → length o < length f → RecipeGiven v c o (Err Refusal.Output) o
  unfolding RecipeGiven
  recipe_short h g = (inr (λ k. omega (arith, k, form_length), inl (omega (arith, form_length), refl)), refl)

  pub recipe_written : length f / 4 ≤ recipe_records → length f ≤ length o → (after : List ℕ) → after ≡ sets o 0 f
      → RecipeGiven v c o (Ok (record { records = length f / 4; pairs = c })) after
  unfolding RecipeGiven
  recipe_written h g after q =
      let z : 0 + length (encode v) ≡ length (encode v) = omega arith in (
        (λ k. omega (arith, k, form_length), (λ k. omega (arith, k, form_length), tt)),
        omega (arith, form_length),
        refl,
        q ∙ ap (sets o 0) e ∙ sets-eq (encode v) o 0 (omega (arith, ap length e)) ∙ ap (λ (k : ℕ). encode v ++ drop k o) z,
      )

-- the whole
module _ (r : List ℕ) (k : ℕ) (f : List ℕ) (a : Result ℕ NormalFault) (whole : List ℕ) (x : WholeNormalized r k f a whole) (c : ℕ)
    (o : List ℕ) where
  pub whole_fault : (e : NormalFault) → a ≡ Err e → WholeGiven r k f c o (Err (of_fault e)) o
  unfolding OutcomeGiven
  whole_fault NormalFault.TooLong e t u p q =
      let z = x t u p q in
      (z.0, z.1, (refused 12, inl (12, rows_long (λ d. d ≡ z.0) 0 z.0 refl (λ d i. i) a whole z.2 e, refl), (refl, refl)))
  whole_fault NormalFault.NotReached e t u p q =
      let z = x t u p q in
      (z.0, z.1, (refused 15, inl (15, rows_none (λ d. d ≡ z.0) 0 z.0 refl (λ d i. i) a whole z.2 e, refl), (refl, refl)))

  module _ (n : ℕ) (e : a ≡ Ok n) where
    pub whole_few : FormStands r k f → (n ≤ sweep_records) × (n * 4 ≤ length whole)
    whole_few h =
        let z = x (recipe_hole r h.checked k h.within).here h.term (recipe_part r h.checked k h.within) h.bytes in
        let y = rows_form (λ d. d ≡ z.0) 0 z.0 refl (λ d i. i) a whole z.2 n e in
        (y.2.few, y.2.within)

    pub whole_form : (b : Result NewRecipe Refusal) (after : List ℕ)
        → ((v : Term) → take (n * 4 - 0) (drop 0 whole) ≡ encode v → RecipeGiven v c o b after) → WholeGiven r k f c o b after
    unfolding OutcomeGiven
    whole_form b after g t u p q =
        let z = x t u p q in
        let y = rows_form (λ d. d ≡ z.0) 0 z.0 refl (λ d i. i) a whole z.2 n e in
        let s = rows_passed (λ d. d ≡ z.0) 0 z.0 refl (λ d i. i) a whole z.2 n e in
        (z.0, z.1, (given y.0 c, inr (s, (y.0, y.1, refl)), g y.0 y.2.bytes))

-- the search
module _ (b r w : List ℕ) (x : BookTables b r w) (a : Result SearchEnd Refusal) (f : List ℕ) (y : Sought b r 0 (length r / 4) 0 a f) where
  sought_as : (d : Result SearchEnd Refusal) → a ≡ d → Sought b r 0 (length r / 4) 0 d f
  sought_as d e = subst (λ (z : Result SearchEnd Refusal). Sought b r 0 (length r / 4) 0 z f) e y

  abbrev s : Term
  s = x.recipe.tree

  found : (d : Result SearchEnd Refusal) (z : Sought b r 0 (length r / 4) 0 d f) (o : BookOutcome) → Rest r d f z.form_of s o → Found b r o
  found d z o g =
      let n : length r / 4 ≡ size s = omega (arith, ap length x.recipe.table.0 ∙ encode_length s) in
      record {
        term = s;
        table = x.recipe.table;
        parts = z.parts;
        closed = subst (λ (m : ℕ). Parts r 0 m z.parts) n z.closed;
        searched = z.reaches s o g;
      }

  pub answered_refused : (c : Refusal) → a ≡ Err c → (o : List ℕ) → BookAnswered b r o (Err c) o
  unfolding OutcomeGiven
  answered_refused c e o =
      (refused (number c), found (Err c) (sought_as (Err c) e) (refused (number c)) refl, (refl, refl))

  pub answered_nothing : (m : ℕ) → a ≡ Ok (SearchEnd.Nothing m) → (o : List ℕ) (d : Result NewRecipe Refusal) (after : List ℕ)
      → ((v : Term) → r ≡ encode v → RecipeGiven v m o d after) → BookAnswered b r o d after
  unfolding OutcomeGiven
  answered_nothing m e o d after g =
      (given s m, found (Ok (SearchEnd.Nothing m)) (sought_as (Ok (SearchEnd.Nothing m)) e) (given s m) refl, g s x.recipe.table.0)

  module _ (k n m : ℕ) (e : a ≡ Ok (SearchEnd.Form k n m)) where
    pub answered_form : (o : List ℕ) (d : Result NewRecipe Refusal) (after : List ℕ)
        → WholeGiven r k (take (n * 4 - 0) (drop 0 f)) m o d after
        → BookAnswered b r o d after
    answered_form o d after g =
        let y = sought_as (Ok (SearchEnd.Form k n m)) e in
        let z = y.form_of in
        let h = g z.part z.term z.stands z.table.begins.bytes in
        (h.2.0, found (Ok (SearchEnd.Form k n m)) y h.2.0 (h.0, h.1, h.2.1), h.2.2)

-- the operation
module _ (b r o w : List ℕ) where
  pub booked_lent : (c : Refusal) → Judged (lent_for_book b r o w) (BookTables b r w) (Err c) → Booked b r o w (Err c) o
  unfolding Booked Judged
  booked_lent c x = (inl x, refl)

  booked_given : Passed (lent_for_book b r o w) → (y : BookOutcome) → Found b r y → (a : Result NewRecipe Refusal) (after : List ℕ)
      → OutcomeGiven y o a after → Booked b r o w a after
  unfolding Booked OutcomeGiven RecipeGiven
  booked_given p (given u c) f (Ok n) after z = (
    p,
    record {
      form = u;
      found = subst (λ (d : ℕ). Found b r (given u d)) (sym z.2) f;
      room = z.0;
      records = z.1;
      bytes = z.3;
    },
  )
  booked_given p (given u c) f (Err k) after z =
      (inr (p, record { outcome = given u c; found = f; cause = inr (u, c, refl, z.0) }), z.1)
  booked_given p (refused k) f (Ok n) after z = absurd z
  booked_given p (refused k) f (Err d) after z =
      (inr (p, record { outcome = refused k; found = f; cause = inl (ap refused z.0) }), z.1)

  pub booked_answered : Judged (lent_for_book b r o w) (BookTables b r w) (Ok tt) → (a : Result NewRecipe Refusal) (after : List ℕ)
      → BookAnswered b r o a after → Booked b r o w a after
  booked_answered x a after y = booked_given (passed (lent_for_book b r o w) (BookTables b r w) x) y.0 y.1 a after y.2
