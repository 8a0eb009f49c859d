-- Judging the tables one after the other: a step's refusal is the first cause that holds, since no earlier one did. From the rows of each
-- step, joined. Assumes nothing.
use mathlib.Core.Path.{◌≡◌, refl, sym, ap, ◌∙◌, subst}
use mathlib.Core.Bool.{Bool, true, false, not}
use mathlib.Core.List.{List, ◌++◌}
use mathlib.Core.Logic.{◌⊎◌, inl, inr, ⊎_elim}
use Prim.Native.Nat.{ℕ, ◌*◌, ◌%◌, ◌≤◌, ◌<◌}
use native.Mathlib.Decide.{dec_lt}
use native.Mathlib.Omega.{arith}
use lib.Dec.{eqb}
use lib.ListN.{length}
use Rattle.std.specs.Prelude.{IsErrAnd, ⊤}
use Rattle.std.specs.Result.{result_and}
use Rattle.std.proofs.lemmas.Result.{err_from_is_err_and}
use Rattle.std.specs.declared.result.Result.{Result}
use Rattle.std.specs.declared.result.Result.TheVariants.{Ok, Err}
use Rattle.terms.specs.Figures.{variables, table_bytes}
use Rattle.terms.specs.Term.{Term, Occurs}
use Rattle.terms.specs.Layout.{Stored}
use Rattle.terms.specs.Refusal.{Row, Refused, Passed, BadTable, Filled, OccursIn, assignment_table_rows, assignment_rows}
use Rattle.terms.specs.Sweep.{fill}
use Rattle.terms.proofs.Tests.{by_eqb}
use Rattle.terms.proofs.Refusal.{refused_first, refused_later, passed_both}
use Rattle.terms.proofs.Table.{encode_one}
use Rattle.terms.proofs.Occurs.{occurs_below, ChosenValues, chosen_values}
use Rattle.records.specs.Tests.{Says}
use Rattle.records.specs.declared.PatternFault.{PatternFault}
use Rattle.records.specs.declared.RecipeFault.{RecipeFault}
use Rattle.records.specs.Checks.{Answers, Pattern, pattern_refusal, recipe_refusal}
use Rattle.assignments.specs.declared.Entry.{Entry}
use Rattle.assignments.specs.Entries.{Read, Given, AllGiven}
use Rattle.assignments.proofs.Entries.{given_stored, stored_given, occurs_mentions, mentions_occurs}
use Rattle.refusals.specs.declared.Refusal.{Refusal}
use Rattle.refusals.specs.Judged.{number, of_pattern, of_recipe, Judged, table_row, area_row, FilledTables}

-- what a verdict shows
module _ (rows : List Row) (W : Type 0) where
  pub known : Judged rows W (Ok tt) → W
  unfolding Judged
  known x = x.1

  pub passed : Judged rows W (Ok tt) → Passed rows
  unfolding Judged
  passed x = x.0

  pub refused : (c : Refusal) → Judged rows W (Err c) → Refused rows (number c)
  unfolding Judged
  refused c x = x

  -- a refusal that is handed on
  pub judged_on : (r : Result ⊤ Refusal) (c : Refusal) → IsErrAnd r (λ e. e ≡ c) → Judged rows W (Err c) → Judged rows W r
  judged_on r c e x = let p = err_from_is_err_and r e in subst (Judged rows W) (sym (p.1 ∙ ap Err p.2)) x

  -- one step after the other
  pub judged_stop : (more : List Row) (X : Type 0) (c : Refusal) → Judged rows W (Err c) → Judged (rows ++ more) X (Err c)
  unfolding Judged
  judged_stop more X c x = refused_first rows more (number c) x

  pub judged_both : (more : List Row) (X : Type 0) (u : Result ⊤ Refusal) → Judged rows W (Ok tt) → Judged more X u
      → Judged (rows ++ more) (W × X) u
  unfolding Judged
  judged_both more X (Ok tt) x y = (passed_both rows more x.0 y.0, (x.1, y.1))
  judged_both more X (Err c) x y = refused_later rows more (number c) x.0 y

  pub judged_and : (more : List Row) (X : Type 0) (a b : Result ⊤ Refusal) → Judged rows W a → Judged more X b
      → Judged (rows ++ more) (W × X) (result_and a b)
  judged_and more X (Ok tt) b x y = judged_both more X b x y
  judged_and more X (Err c) b x y = judged_stop more (W × X) c x

  -- what a verdict shows, weakened
  pub judged_more : (X : Type 0) (v : Result ⊤ Refusal) → (W → X) → Judged rows W v → Judged rows X v
  unfolding Judged
  judged_more X (Ok tt) f z = (z.0, f z.1)
  judged_more X (Err c) f z = z

-- a verdict on other faults
abbrev pub map_err : {E : Type 0} → (E → Refusal) → Result ⊤ E → Result ⊤ Refusal
map_err f (Ok tt) = Ok tt
map_err f (Err e) = Err (f e)

-- checks of tables, as verdicts
pub pattern_judged : (rows : List Row) (W : Type 0) (r : Result ⊤ PatternFault) → Answers rows W (pattern_refusal r)
    → Judged rows W (map_err of_pattern r)
unfolding Judged
pattern_judged rows W (Ok tt) x = x
pattern_judged rows W (Err PatternFault.BadLength) x = x
pattern_judged rows W (Err PatternFault.BadRecord) x = x
pattern_judged rows W (Err PatternFault.NoTerm) x = x

pub recipe_judged : (rows : List Row) (W : Type 0) (r : Result ⊤ RecipeFault) → Answers rows W (recipe_refusal r)
    → Judged rows W (map_err of_recipe r)
unfolding Judged
recipe_judged rows W (Ok tt) x = x
recipe_judged rows W (Err RecipeFault.BadLength) x = x
recipe_judged rows W (Err RecipeFault.BadRecord) x = x
recipe_judged rows W (Err RecipeFault.NoTerm) x = x
recipe_judged rows W (Err RecipeFault.NotNormal) x = x

-- the rows of tables
module _ (place : ℕ) (l : List ℕ) where
  pub bad_table : BadTable place l → Judged (table_row place l) (length l ≤ table_bytes) (Err Refusal.Tables)
  unfolding Judged
  bad_table b = inl (b, refl)

  pub good_table : ¬ BadTable place l → Judged (table_row place l) (length l ≤ table_bytes) (Ok tt)
  unfolding Judged
  good_table b = ((b, tt), go (dec_lt table_bytes (length l)))
    where
      go : Dec (table_bytes < length l) → length l ≤ table_bytes
      go (yes h) = absurd (b (inl h))
      go (no h) = omega arith

module _ (w : List ℕ) where
  pub bad_area : ¬ (length w ≡ table_bytes) → Judged (area_row w) (length w ≡ table_bytes) (Err Refusal.Tables)
  unfolding Judged
  bad_area n = inl (n, refl)

  pub good_area : length w ≡ table_bytes → Judged (area_row w) (length w ≡ table_bytes) (Ok tt)
  unfolding Judged
  good_area e = ((λ x. x e, tt), e)

module _ (l s w : List ℕ) where
  pub bad_line : ¬ (length l ≡ 4 * variables)
      → Judged (assignment_table_rows l s w) (length l ≡ 4 * variables) (Err Refusal.Tables)
  unfolding Judged
  bad_line n = inl (n, refl)

  pub good_line :
      (W : Type 0) (v : Result ⊤ Refusal) → length l ≡ 4 * variables → Judged (table_row 4 s ++ area_row w) W v
      → Judged (assignment_table_rows l s w) (length l ≡ 4 * variables) v
  unfolding Judged
  good_line W (Ok tt) e x = ((λ n. n e, x.0), e)
  good_line W (Err c) e x = inr (λ n. n e, x)

-- each variable of a pattern has a value, or one has none
module _ (p l s : List ℕ) (a : List Entry) (e : length l ≡ 4 * variables) (r : Read l a variables) (x : Pattern p) where
  given_at : AllGiven p s a true → (i : ℕ) → Occurs i x.tree → (v : Term) × Given s a i v
  given_at g i o = g i (occurs_below variables i x.tree x.below o) (occurs_mentions p i x.tree x.table.0 o)

  pub all_ready : (b : Bool) → AllGiven p s a b → b ≡ true → Judged (assignment_rows (OccursIn p) l s) (FilledTables p l s) (Ok tt)
  unfolding Judged
  all_ready b g q =
      ((λ c. missing c.0 c.1 c.2, tt), record { checked = x; line = e; term = fill given.φ x.tree; filled = filled })
    where
      stored_at : (i : ℕ) → Occurs i x.tree → (v : Term) × Stored l s i v
      stored_at i o =
          let w = given_at (subst (AllGiven p s a) q g) i o in
          (w.0, given_stored l s a r i (occurs_below variables i x.tree x.below o) w.0 w.1)

      missing : (i : ℕ) → OccursIn p i → ((v : Term) → ¬ Stored l s i v) → ⊥
      missing i o n =
          let t : o.0 ≡ x.tree = encode_one o.0 x.tree (sym o.1.0 ∙ x.table.0) in
          let w = stored_at i (rw t at o.2) in
          n w.0 w.1

      given : ChosenValues (Stored l s) x.tree
      given = chosen_values (Stored l s) x.tree stored_at

      filled : Filled p l s (fill given.φ x.tree)
      filled = record { term = x.tree; table = x.table; φ = given.φ; stored = given.holds; is = refl }

  pub one_missing : (b : Bool) → AllGiven p s a b → b ≡ false
      → Judged (assignment_rows (OccursIn p) l s) (FilledTables p l s) (Err Refusal.Assignment)
  unfolding Judged
  one_missing b g q =
      let m = subst (AllGiven p s a) q g in
      inl (
        (
          m.0,
          (x.tree, x.table, mentions_occurs p m.0 x.tree x.table.0 m.2.0),
          λ v w. m.2.1 v (stored_given l s a r m.0 m.1 v w),
        ),
        refl,
      )

-- a variable of either side
module _ (S R : ℕ → Type 0) (l s : List ℕ) where
  abbrev OfEither : ℕ → Type 0
  OfEither i = S i ⊎ R i

  pub side_stop : (W X : Type 0) (c : Refusal) → Judged (assignment_rows S l s) W (Err c) → Judged (assignment_rows OfEither l s) X (Err c)
  unfolding Judged
  side_stop W X c x = go x
    where
      go : Refused (assignment_rows S l s) (number c) → Refused (assignment_rows OfEither l s) (number c)
      go (inl m) = inl ((m.0.0, inl m.0.1, m.0.2), m.1)
      go (inr m) = absurd m.1

  pub side_next : (W X : Type 0) (u : Result ⊤ Refusal) → Judged (assignment_rows S l s) W (Ok tt) → Judged (assignment_rows R l s) X u
      → Judged (assignment_rows OfEither l s) (W × X) u
  unfolding Judged
  side_next W X u x y = go x u y
    where
      go : Passed (assignment_rows S l s) × W → (u : Result ⊤ Refusal) → Judged (assignment_rows R l s) X u
          → Judged (assignment_rows OfEither l s) (W × X) u
      go p (Ok tt) q = ((λ m. ⊎_elim (λ o. p.0.0 (m.0, o, m.2)) (λ o. q.0.0 (m.0, o, m.2)) m.1, tt), (p.1, q.1))
      go p (Err c) (inl m) = inl ((m.0.0, inr m.0.1, m.0.2), m.1)
      go p (Err c) (inr m) = absurd m.1
