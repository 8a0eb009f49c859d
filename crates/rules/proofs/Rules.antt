-- The sides of rules, read and judged: a side by its count and its records, a rule by its two sides, and the rules from one place on by the
-- first of them and the others. From the laws of verdicts. Assumes nothing.
--   RulesLeft b i   the verdict on the rules from place i on is that on all rules
use mathlib.Core.Path.{◌≡◌, refl, ap, subst}
use mathlib.Core.List.{List}
use mathlib.Core.Logic.{inl, inr}
use Prim.Native.Nat.{ℕ, suc, ◌+◌, ◌-◌, ◌*◌, ◌/◌, ◌≤◌, ◌<◌}
use native.Mathlib.Decide.{ℕ_discrete}
use native.Mathlib.Omega.{arith}
use lib.ListN.{length, take, drop}
use Rattle.std.specs.Prelude.{⊤}
use Rattle.std.specs.declared.result.Result.{Result}
use Rattle.std.specs.declared.result.Result.TheVariants.{Ok, Err}
use Rattle.terms.specs.Figures.{pattern_records, place_bytes}
use Rattle.terms.specs.Layout.{word_at}
use Rattle.terms.specs.Refusal.{Passed, pattern_rows}
use Rattle.records.specs.Checks.{Pattern}
use Rattle.refusals.specs.declared.Refusal.{Refusal}
use Rattle.refusals.specs.Judged.{Judged}
use Rattle.refusals.proofs.Judging.{judged_both, judged_more, judged_stop}
use Rattle.rules.specs.Rules.{count_up, places, side_rows, left_count, left_table, right_count, right_table, rule_rows, rules_rows}
use Rattle.rules.specs.Steps.{side_table, Side, Rule, Rules, RulesFrom}

-- its count, and then its records
module _ (n : ℕ) (l : List ℕ) (m : ℕ) (e : m ≡ n) where
  pub side_long : pattern_records < m → Judged (side_rows n l) (Side n l) (Err Refusal.PatternLength)
  unfolding Judged
  side_long h = inl (omega arith, refl)

  pub side_short : m ≤ pattern_records → (k : List ℕ) (v : Result ⊤ Refusal) → k ≡ l → Judged (pattern_rows k) (Pattern k) v
      → Judged (side_rows n l) (Side n l) v
  unfolding Judged
  side_short h k v f x = go v (subst (λ (y : List ℕ). Judged (pattern_rows y) (Pattern y) v) f x)
    where
      go : (v : Result ⊤ Refusal) → Judged (pattern_rows l) (Pattern l) v → Judged (side_rows n l) (Side n l) v
      go (Ok tt) y = ((λ g. omega arith, y.0), (omega arith, y.1))
      go (Err c) y = inr (λ g. omega arith, y)

-- the rule at a place
module _ (b : List ℕ) (i : ℕ) where
  abbrev Left : Type 0
  Left = Side (left_count b i) (left_table b i)

  abbrev Right : Type 0
  Right = Side (right_count b i) (right_table b i)

  pub left_side : (c : Refusal) → Judged (side_rows (left_count b i) (left_table b i)) Left (Err c)
      → Judged (rule_rows b i) (Rule b i) (Err c)
  left_side c x =
      judged_stop (side_rows (left_count b i) (left_table b i)) Left (side_rows (right_count b i) (right_table b i)) (Rule b i) c x

  pub rule_judged : (v : Result ⊤ Refusal) → place_bytes * i + place_bytes ≤ length b
      → Judged (side_rows (left_count b i) (left_table b i)) Left (Ok tt)
      → Judged (side_rows (right_count b i) (right_table b i)) Right v → Judged (rule_rows b i) (Rule b i) v
  rule_judged v h x y =
      judged_more (rule_rows b i) (Left × Right) (Rule b i) v (λ s. record { within = h; left = s.0; right = s.1 })
      (judged_both (side_rows (left_count b i) (left_table b i)) Left (side_rows (right_count b i) (right_table b i)) Right v x y)

-- the rules at a place and behind it
module _ (b : List ℕ) (i : ℕ) where
  rules_none : i ≡ length b / place_bytes
      → Judged (rules_rows b (count_up i (length b / place_bytes - i))) (RulesFrom b i) (Ok tt)
  unfolding Judged
  rules_none e =
      let n : 0 ≡ length b / place_bytes - i = omega arith in
      (subst (λ (k : ℕ). Passed (rules_rows b (count_up i k))) n tt, λ k l g. absurd (omega arith))

  module _ (h : i < length b / place_bytes) where
    one_more : suc (length b / place_bytes - suc i) ≡ length b / place_bytes - i
    one_more = omega arith

    rules_stop : (c : Refusal) → Judged (rule_rows b i) (Rule b i) (Err c)
        → Judged (rules_rows b (count_up i (length b / place_bytes - i))) (RulesFrom b i) (Err c)
    rules_stop c x =
        subst (λ (k : ℕ). Judged (rules_rows b (count_up i k)) (RulesFrom b i) (Err c)) one_more
        (judged_stop (rule_rows b i) (Rule b i) _ (RulesFrom b i) c x)

    rules_next : (u : Result ⊤ Refusal) → Judged (rule_rows b i) (Rule b i) (Ok tt)
        → Judged (rules_rows b (count_up (i + 1) (length b / place_bytes - (i + 1)))) (RulesFrom b (i + 1)) u
        → Judged (rules_rows b (count_up i (length b / place_bytes - i))) (RulesFrom b i) u
    rules_next u x y =
        subst (λ (k : ℕ). Judged (rules_rows b (count_up i k)) (RulesFrom b i) u) one_more
        (judged_more _ _ (RulesFrom b i) u (λ z k l g. at z.0 z.1 k l g (ℕ_discrete i k))
        (judged_both (rule_rows b i) (Rule b i) (rules_rows b (count_up (suc i) (length b / place_bytes - suc i))) (RulesFrom b (suc i)) u x
        (subst (λ (k : ℕ). Judged (rules_rows b (count_up k (length b / place_bytes - k))) (RulesFrom b k) u) (omega arith) y)))
      where
        at : Rule b i → RulesFrom b (suc i) → (k : ℕ) → i ≤ k → k < length b / place_bytes → Dec (i ≡ k) → Rule b k
        at w r k l g (yes z) = subst (Rule b) z w
        at w r k l g (no z) = r k (omega arith) g

-- the rules from place i on are left
pub record RulesLeft (b : List ℕ) (i : ℕ) : Type 0 where
  pub all : (v : Result ⊤ Refusal) → Judged (rules_rows b (count_up i (length b / place_bytes - i))) (RulesFrom b i) v
      → Judged (rules_rows b (places b)) (Rules b) v

pub rules_left : (b : List ℕ) → RulesLeft b 0
rules_left b = record {
  all = λ v x.
      let n : length b / place_bytes - 0 ≡ length b / place_bytes = omega arith in
      judged_more (rules_rows b (places b)) (RulesFrom b 0) (Rules b) v (λ r k l. r k (omega arith) l)
      (subst (λ (k : ℕ). Judged (rules_rows b (count_up 0 k)) (RulesFrom b 0) v) n x);
}

module _ (b : List ℕ) (i : ℕ) (x : RulesLeft b i) where
  pub left_none : length b / place_bytes ≤ i → i ≤ length b / place_bytes → Judged (rules_rows b (places b)) (Rules b) (Ok tt)
  left_none h g = x.all (Ok tt) (rules_none b i (omega arith))

  module _ (h : i < length b / place_bytes) where
    pub left_stop : (c : Refusal) → Judged (rule_rows b i) (Rule b i) (Err c) → Judged (rules_rows b (places b)) (Rules b) (Err c)
    left_stop c y = x.all (Err c) (rules_stop b i h c y)

    pub left_next : Judged (rule_rows b i) (Rule b i) (Ok tt) → RulesLeft b (i + 1)
    left_next y = record { all = λ u z. x.all u (rules_next b i h u y z) }
