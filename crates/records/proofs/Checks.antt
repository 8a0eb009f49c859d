-- The checks of a table: what each way through them shows of the rows of document 01's table. By the rows in turn; a table of good records
-- is a term's where a pass over its kinds comes to its end. Assumes nothing.
use mathlib.Core.Path.{◌≡◌, refl, sym, ap, ◌∙◌, subst}
use mathlib.Core.Bool.{Bool, true, false}
use mathlib.Core.Option.{none}
use mathlib.Core.Logic.{inl, inr, ⊎_elim}
use mathlib.Core.List.{List, [], ◌∷◌, ◌++◌, append-nil}
use Prim.Native.Nat.{ℕ, ◌*◌, ◌/◌, ◌%◌, ◌≤◌, ◌<◌}
use native.Mathlib.Omega.{arith}
use lib.Dec.{ltb}
use lib.ListN.{length, length-append}
use Rattle.terms.specs.Figures.{variables, constants, pattern_records, value_records}
use Rattle.terms.specs.Term.{Term, app, lam, loc, con, var, size, Normal, Closed, Below, Ground}
use Rattle.terms.specs.Table.{record_bytes, encode, good_records, IsTable}
use Rattle.terms.specs.OldForm.{Bytes, NumbersBelow}
use Rattle.terms.specs.Refusal.{Row, Refused, Passed, BadLength, NoTerm, pattern_rows, normal_rows}
use Rattle.terms.proofs.Refusal.{refused_passed}
use Rattle.terms.proofs.Tests.{by_ltb, not_both}
use Rattle.terms.proofs.Table.{encode_length, good_below, table_good}
use Rattle.terms.proofs.OldForm.{numbers_below}
use Rattle.terms.proofs.Variables.{ground_below}
use Rattle.terms.proofs.Substitute.{size_pos}
use Rattle.std.specs.declared.option.Option.TheVariants.{Some, None}
use Rattle.std.specs.Prelude.{⊤, is_ok}
use Rattle.std.specs.declared.result.Result.{Result}
use Rattle.std.specs.declared.result.Result.TheVariants.{Ok, Err}
use Rattle.records.specs.declared.PatternFault.{PatternFault}
use Rattle.records.specs.declared.RecipeFault.{RecipeFault}
use Rattle.records.specs.Parts.{Ended, Tree}
use Rattle.records.specs.Tests.{Says, Tells}
use Rattle.records.specs.Checks.{pattern_refusal, recipe_refusal, Answers, Pattern, NormalTable, ValueTable, OneTerm, Good}
use Rattle.records.specs.Checks.{TableChecked, of_recipe}
use Rattle.records.proofs.Record.{rest_bytes, number_fits}
use Rattle.records.proofs.Parts.{at_start, tree}
use Rattle.records.proofs.Tests.{says}

-- lengths
pub length_most : (m : ℕ) (l : List ℕ) → ¬ BadLength m l → length l ≤ 4 * m
length_most m l b = let h : ¬ (4 * m < length l) = λ p. b (inr (inl p)) in omega arith

size_most : (m : ℕ) (l : List ℕ) (t : Term) → ¬ BadLength m l → l ≡ encode t → size t ≤ m
size_most m l t b e = omega (arith, length_most m l b, ap length e, encode_length t)

length_right : (m : ℕ) (l : List ℕ) (t : Term) → l ≡ encode t → size t ≤ m → ¬ BadLength m l
length_right m l t e h b =
    let n : length l ≡ 4 * size t = ap length e ∙ encode_length t in
    ⊎_elim (λ (x : length l ≡ 0). omega (arith, size_pos t))
    (λ c. ⊎_elim (λ (x : 4 * m < length l). omega arith) (λ f. f (omega arith)) c) b

-- one term, from where the part that the table begins with ends
pub none_found_lem : (l : List ℕ) → Ended l None → ¬ OneTerm l
unfolding Ended
none_found_lem l x o = x o.tree (at_start l o.tree o.table.0)

pub more_behind : (l : List ℕ) (n : ℕ) → Ended l (Some n) → n < length l → ¬ OneTerm l
unfolding Ended
more_behind l n x h o =
    let p = x.0.exact o.tree (at_start l o.tree o.table.0) in
    omega (arith, ap length o.table.0, encode_length o.tree)

length_zero : (l : List ℕ) → length l ≡ 0 → l ≡ []
length_zero [] e = refl
length_zero (x ∷ l) e = absurd (omega arith)

pub tree_found : (l : List ℕ) (n : ℕ) → Good l → Ended l (Some n) → length l ≤ n → Tree l
unfolding Ended
tree_found l n g x h =
    let w = x.1 g.allowed g.good in
    let q = x.0.exact w.tree w.part in
    let z = length_zero w.part.rest
    (omega (arith, ap length w.part.bytes, length-append (encode w.tree) w.part.rest, encode_length w.tree)) in
    tree l w.tree (w.part.bytes ∙ ap (encode w.tree ++◌) z ∙ append-nil (encode w.tree))

pub one_term : (l : List ℕ) (r : Bool) → Tree l → Tells l (Closed 0) r → Says r (OneTerm l)
one_term l true x c = record { tree = x.tree; table = (x.bytes, c x.tree x.bytes) }
one_term l false x c = λ o. c o.tree o.table.0 o.table.1

-- the answers of `check_table`, by what its tests say
module _ (m : ℕ) (l : List ℕ) (b : Bool) (bad : Says b (BadLength m l)) where
  pub length_checked : (v : ℕ) → b ≡ true → TableChecked m v l (Err PatternFault.BadLength)
  unfolding TableChecked
  length_checked v p = says (BadLength m l) b true bad p

  module _ (p : b ≡ false) where
    pub found_most : length l ≤ 4 * m
    found_most = length_most m l (says (BadLength m l) b false bad p)

    pub found_record : (v : ℕ) → good_records v l ≡ false → TableChecked m v l (Err PatternFault.BadRecord)
    unfolding TableChecked
    found_record v q = (says (BadLength m l) b false bad p, q)

    pub found_term : (v : ℕ) → good_records v l ≡ true → OneTerm l → TableChecked m v l (Ok tt)
    unfolding TableChecked
    found_term v q o = (says (BadLength m l) b false bad p, q, o)

    pub found_none : (v : ℕ) → good_records v l ≡ true → ¬ OneTerm l → TableChecked m v l (Err PatternFault.NoTerm)
    unfolding TableChecked
    found_none v q o = (says (BadLength m l) b false bad p, q, λ t x. o (record { tree = t; table = x }))

-- the first three rows, whatever their numbers and whatever rows follow
module _ (m v : ℕ) (l : List ℕ) (a b c : ℕ) (more : List Row) where
  abbrev rows : List Row
  rows = (a, BadLength m l) ∷ (b, good_records v l ≡ false) ∷ (c, NoTerm l) ∷ more

  pub refused_length : TableChecked m v l (Err PatternFault.BadLength) → Refused rows a
  unfolding TableChecked
  refused_length x = inl (x, refl)

  pub refused_record : TableChecked m v l (Err PatternFault.BadRecord) → Refused rows b
  unfolding TableChecked
  refused_record x = inr (x.0, inl (x.1, refl))

  pub refused_term : TableChecked m v l (Err PatternFault.NoTerm) → Refused rows c
  unfolding TableChecked
  refused_term x = inr (x.0, inr (not_both (good_records v l) x.1, inl (x.2, refl)))

  pub passed_three : (k : ℕ) → TableChecked m v l (Ok tt) → Refused more k → Refused rows k
  unfolding TableChecked
  passed_three k x y = inr (x.0, inr (not_both (good_records v l) x.1, inr (λ n. n x.2.tree x.2.table, y)))

  pub checked_passed : TableChecked m v l (Ok tt) → Passed more → Passed rows
  unfolding TableChecked
  checked_passed x y = (x.0, (not_both (good_records v l) x.1, (λ n. n x.2.tree x.2.table, y)))

table_below : (v : ℕ) (l : List ℕ) (t : Term) → good_records v l ≡ true → l ≡ encode t → Below v t
table_below v l t g e = (good_below v t [] (ap (good_records v) (append-nil (encode t) ∙ sym e) ∙ g)).0

pub pattern_answer : (l : List ℕ) (r : Result ⊤ PatternFault) → TableChecked pattern_records variables l r
    → Answers (pattern_rows l) (Pattern l) (pattern_refusal r)
unfolding TableChecked
pattern_answer l (Ok tt) x = (
  checked_passed pattern_records variables l 1 2 3 [] x tt,
  record {
    tree = x.2.tree;
    table = x.2.table;
    below = table_below variables l x.2.tree x.1 x.2.table.0;
    most = size_most pattern_records l x.2.tree x.0 x.2.table.0;
  },
)
pattern_answer l (Err PatternFault.BadLength) x = refused_length pattern_records variables l 1 2 3 [] x
pattern_answer l (Err PatternFault.BadRecord) x = refused_record pattern_records variables l 1 2 3 [] x
pattern_answer l (Err PatternFault.NoTerm) x = refused_term pattern_records variables l 1 2 3 [] x

-- the constants of a table of bytes fit
ground : (t : Term) → NumbersBelow constants t → Below 0 t → Ground t
ground (app f a) n h = (ground f n.0 h.0, ground a n.1 h.1)
ground (lam b) n h = ground b n h
ground (loc k) n h = tt
ground (con k) n h = n
ground (var k) n h = absurd (omega arith)

ground_table : (l : List ℕ) (t : Term) → Bytes l → l ≡ encode t → Below 0 t → Ground t
ground_table l t b e h =
    let n = numbers_below record_bytes (λ k n r s. refl) constants Bytes number_fits rest_bytes t []
    (subst Bytes (e ∙ sym (append-nil (encode t))) b) in
    ground t n.0 h

-- the last row of a recipe's
abbrev last : List ℕ → List Row
last l = (7, (t : Term) → IsTable l t → ¬ Normal t) ∷ []

pub normal_faulty : (m : ℕ) (l : List ℕ) (f : PatternFault) → TableChecked m 0 l (Err f)
    → Answers (normal_rows m l) (NormalTable m l) (recipe_refusal (Err (of_recipe f)))
normal_faulty m l PatternFault.BadLength x = refused_length m 0 l 4 5 6 (last l) x
normal_faulty m l PatternFault.BadRecord x = refused_record m 0 l 4 5 6 (last l) x
normal_faulty m l PatternFault.NoTerm x = refused_term m 0 l 4 5 6 (last l) x

pub normal_right : (m : ℕ) (l : List ℕ) → Bytes l → TableChecked m 0 l (Ok tt) → Tells l Normal true
    → Answers (normal_rows m l) (NormalTable m l) none
unfolding TableChecked
normal_right m l b x n =
    let t = x.2.tree in
    let e = x.2.table.0 in (
      checked_passed m 0 l 4 5 6 (last l) x ((λ f. f t x.2.table (n t e)), tt),
      record {
        tree = t;
        table = x.2.table;
        normal = n t e;
        ground = ground_table l t b e (table_below 0 l t x.1 e);
        most = size_most m l t x.0 e;
      },
    )

pub normal_not : (m : ℕ) (l : List ℕ) → TableChecked m 0 l (Ok tt) → Tells l Normal false → Refused (normal_rows m l) 7
normal_not m l x n = passed_three m 0 l 4 5 6 (last l) 7 x (inl ((λ t y. n t y.0), refl))

pub tree_checked : (m v : ℕ) (l : List ℕ) → TableChecked m v l (Ok tt) → Tree l
unfolding TableChecked
tree_checked m v l x = tree l x.2.tree x.2.table.0

pub most_checked : (m v : ℕ) (l : List ℕ) → TableChecked m v l (Ok tt) → length l ≤ 4 * m
unfolding TableChecked
most_checked m v l x = length_most m l x.0

-- values
value_passed : (l : List ℕ) → ValueTable l → Passed (normal_rows value_records l)
value_passed l x =
    let t = x.tree in
    let g : good_records 0 l ≡ true =
    ap (good_records 0) x.bytes ∙ table_good 0 t (omega arith) x.value.0 (omega (arith, x.most)) (ground_below t x.value.2) in (
      length_right value_records l t x.bytes x.most,
      (not_both (good_records 0 l) g, ((λ n. n t (x.bytes, x.value.0)), ((λ f. f t (x.bytes, x.value.0) x.value.1), tt))),
    )

pub value_says : (l : List ℕ) (r : Result ⊤ RecipeFault)
    → Answers (normal_rows value_records l) (NormalTable value_records l) (recipe_refusal r) → Says (is_ok r) (ValueTable l)
value_says l (Ok o) x =
    let n = x.1 in
    record { tree = n.tree; bytes = n.table.0; value = (n.table.1, n.normal, n.ground); most = n.most }
value_says l (Err RecipeFault.BadLength) x = λ y. refused_passed (normal_rows value_records l) 4 x (value_passed l y)
value_says l (Err RecipeFault.BadRecord) x = λ y. refused_passed (normal_rows value_records l) 5 x (value_passed l y)
value_says l (Err RecipeFault.NoTerm) x = λ y. refused_passed (normal_rows value_records l) 6 x (value_passed l y)
value_says l (Err RecipeFault.NotNormal) x = λ y. refused_passed (normal_rows value_records l) 7 x (value_passed l y)
