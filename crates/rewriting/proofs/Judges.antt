-- The verdicts on all that an operation is lent, from those on its tables, in the documents' order: the assignment's tables, then the other
-- tables and terms, then the assignment. Assumes nothing.
use mathlib.Core.Path.{◌≡◌, sym, subst}
use mathlib.Core.List.{List, ◌++◌}
use mathlib.Core.Logic.{◌⊎◌}
use Prim.Native.Nat.{ℕ, ◌*◌, ◌≤◌}
use lib.ListN.{length}
use Rattle.std.specs.Prelude.{⊤}
use Rattle.std.specs.Result.{result_and}
use Rattle.std.specs.declared.result.Result.{Result}
use Rattle.std.specs.declared.result.Result.TheVariants.{Ok, Err}
use Rattle.terms.specs.Figures.{variables, table_bytes}
use Rattle.terms.specs.Refusal.{Row, OccursIn, assignment_table_rows, output_table_rows, pattern_rows, recipe_rows, assignment_rows}
use Rattle.records.specs.Checks.{Pattern, Recipe}
use Rattle.refusals.specs.declared.Refusal.{Refusal}
use Rattle.refusals.specs.Judged.{Judged, FilledTables}
use Rattle.refusals.proofs.Judging.{known, judged_stop, judged_both, judged_and, judged_more}
use Rattle.rewriting.specs.Operations.{lent_for_check, lent_for_sweep, lent_for_rewrite}

-- rows T of the assignment's tables, M of the others and of the terms, A of the assignment in the variables of S
module _ (l s w : List ℕ) (M : List Row) (S : ℕ → Type 0) (WM WA W : Type 0) (x y : Result ⊤ Refusal)
    (jx : Judged (assignment_table_rows l s w) (length l ≡ 4 * variables) x) (jy : Judged M WM y) where
  abbrev T : List Row
  T = assignment_table_rows l s w

  abbrev WT : Type 0
  WT = length l ≡ 4 * variables

  abbrev A : List Row
  A = assignment_rows S l s

  both : (v : Result ⊤ Refusal) → v ≡ result_and x y → Judged (T ++ M) (WT × WM) v
  both v e = subst (Judged (T ++ M) (WT × WM)) (sym e) (judged_and T WT M WM x y jx jy)

  lent_stop : (c : Refusal) → Err c ≡ result_and x y → Judged ((T ++ M) ++ A) W (Err c)
  lent_stop c e = judged_stop (T ++ M) (WT × WM) A W c (both (Err c) e)

  lent_known : Ok tt ≡ result_and x y → WT × WM
  lent_known e = known (T ++ M) (WT × WM) (both (Ok tt) e)

  lent_judged : (WM → WA → W) → Ok tt ≡ result_and x y → (v : Result ⊤ Refusal) → Judged A WA v → Judged ((T ++ M) ++ A) W v
  lent_judged f e v j =
      judged_more ((T ++ M) ++ A) ((WT × WM) × WA) W v (λ k. f k.0.1 k.1)
      (judged_both (T ++ M) (WT × WM) A WA v (both (Ok tt) e) j)

pub rewrite_terms :
    (p q r o : List ℕ) (a b d e : Result ⊤ Refusal) → Judged (output_table_rows o) (length o ≤ table_bytes) a
    → Judged (pattern_rows p) (Pattern p) b → Judged (recipe_rows r) (Recipe r) d → Judged (pattern_rows q) (Pattern q) e
    → Judged (output_table_rows o ++ (pattern_rows p ++ (recipe_rows r ++ pattern_rows q)))
    ((length o ≤ table_bytes) × (Pattern p × (Recipe r × Pattern q))) (result_and a (result_and b (result_and d e)))
rewrite_terms p q r o a b d e ja jb jd je =
    judged_and _ _ (pattern_rows p ++ (recipe_rows r ++ pattern_rows q)) _ a _ ja
    (judged_and _ _ (recipe_rows r ++ pattern_rows q) _ b _ jb (judged_and _ _ (pattern_rows q) _ d e jd je))

module _ (l s w : List ℕ) (x : Result ⊤ Refusal) (jx : Judged (assignment_table_rows l s w) (length l ≡ 4 * variables) x) where
  -- check
  module _ (p r : List ℕ) where
    abbrev CheckRows : List Row
    CheckRows = pattern_rows p ++ recipe_rows r

    abbrev CheckTerms : Type 0
    CheckTerms = Pattern p × Recipe r

    abbrev CheckFilled : Type 0
    CheckFilled = FilledTables p l s

    abbrev CheckKnown : Type 0
    CheckKnown = FilledTables p l s × Recipe r

    abbrev CheckAsks : ℕ → Type 0
    CheckAsks = OccursIn p

    module _ (y : Result ⊤ Refusal) (jy : Judged CheckRows CheckTerms y) where
      pub check_stop : (c : Refusal) → Err c ≡ result_and x y → Judged (lent_for_check p r l s w) CheckKnown (Err c)
      check_stop = lent_stop l s w CheckRows CheckAsks CheckTerms CheckFilled CheckKnown x y jx jy

      pub check_known : Ok tt ≡ result_and x y → Pattern p × (length l ≡ 4 * variables)
      check_known e =
          let k = lent_known l s w CheckRows CheckAsks CheckTerms CheckFilled CheckKnown x y jx jy e in
          (k.1.0, k.0)

      pub check_judged : Ok tt ≡ result_and x y → (v : Result ⊤ Refusal) → Judged (assignment_rows CheckAsks l s) CheckFilled v
          → Judged (lent_for_check p r l s w) CheckKnown v
      check_judged = lent_judged l s w CheckRows CheckAsks CheckTerms CheckFilled CheckKnown x y jx jy (λ m a. (a, m.1))

  -- sweep
  module _ (p o : List ℕ) where
    abbrev SweepRows : List Row
    SweepRows = output_table_rows o ++ pattern_rows p

    abbrev SweepTerms : Type 0
    SweepTerms = (length o ≤ table_bytes) × Pattern p

    abbrev SweepFilled : Type 0
    SweepFilled = FilledTables p l s

    abbrev SweepKnown : Type 0
    SweepKnown = FilledTables p l s

    abbrev SweepAsks : ℕ → Type 0
    SweepAsks = OccursIn p

    module _ (y : Result ⊤ Refusal) (jy : Judged SweepRows SweepTerms y) where
      pub sweep_stop : (c : Refusal) → Err c ≡ result_and x y → Judged (lent_for_sweep p l s o w) SweepKnown (Err c)
      sweep_stop = lent_stop l s w SweepRows SweepAsks SweepTerms SweepFilled SweepKnown x y jx jy

      pub sweep_known : Ok tt ≡ result_and x y → Pattern p × (length l ≡ 4 * variables)
      sweep_known e =
          let k = lent_known l s w SweepRows SweepAsks SweepTerms SweepFilled SweepKnown x y jx jy e in
          (k.1.1, k.0)

      pub sweep_judged : Ok tt ≡ result_and x y → (v : Result ⊤ Refusal) → Judged (assignment_rows SweepAsks l s) SweepFilled v
          → Judged (lent_for_sweep p l s o w) SweepKnown v
      sweep_judged = lent_judged l s w SweepRows SweepAsks SweepTerms SweepFilled SweepKnown x y jx jy (λ m a. a)

  -- rewrite: left side p, right side q
  module _ (p q r o : List ℕ) where
    abbrev RewriteRows : List Row
    RewriteRows = output_table_rows o ++ (pattern_rows p ++ (recipe_rows r ++ pattern_rows q))

    abbrev RewriteTerms : Type 0
    RewriteTerms = (length o ≤ table_bytes) × (Pattern p × (Recipe r × Pattern q))

    abbrev RewriteFilled : Type 0
    RewriteFilled = FilledTables p l s × FilledTables q l s

    abbrev RewriteKnown : Type 0
    RewriteKnown = (FilledTables p l s × FilledTables q l s) × Recipe r

    abbrev RewriteAsks : ℕ → Type 0
    RewriteAsks i = OccursIn p i ⊎ OccursIn q i

    module _ (y : Result ⊤ Refusal) (jy : Judged RewriteRows RewriteTerms y) where
      pub rewrite_stop : (c : Refusal) → Err c ≡ result_and x y → Judged (lent_for_rewrite p q r l s o w) RewriteKnown (Err c)
      rewrite_stop = lent_stop l s w RewriteRows RewriteAsks RewriteTerms RewriteFilled RewriteKnown x y jx jy

      pub rewrite_known : Ok tt ≡ result_and x y → Pattern p × Pattern q × (length l ≡ 4 * variables)
      rewrite_known e =
          let k = lent_known l s w RewriteRows RewriteAsks RewriteTerms RewriteFilled RewriteKnown x y jx jy e in
          (k.1.1.0, k.1.1.1.1, k.0)

      pub rewrite_judged : Ok tt ≡ result_and x y → (v : Result ⊤ Refusal) → Judged (assignment_rows RewriteAsks l s) RewriteFilled v
          → Judged (lent_for_rewrite p q r l s o w) RewriteKnown v
      rewrite_judged = lent_judged l s w RewriteRows RewriteAsks RewriteTerms RewriteFilled RewriteKnown x y jx jy (λ m a. (a, m.1.1.0))
