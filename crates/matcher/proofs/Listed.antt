-- The answers of list, from the verdict on its tables and from what its search came to; and 9 is given exactly if every full listing has
-- more lines than were lent. The rows before 9 have other numbers, and there is one full listing only. Assumes nothing.
use mathlib.Core.Path.{◌≡◌, refl, sym, ap, ◌∙◌, subst, subst₂}
use mathlib.Core.Bool.{Bool, true, false}
use mathlib.Core.List.{List, [], ◌∷◌, ◌++◌, append-nil}
use mathlib.Core.Logic.{◌⊎◌, inl, inr}
use Prim.Native.Nat.{ℕ, ◌≤◌, ◌<◌}
use native.Mathlib.Omega.{arith}
use lib.Dec.{lit<}
use lib.ListN.{length}
use Rattle.std.specs.Prelude.{⊤}
use Rattle.std.specs.Result.{result_and}
use Rattle.std.specs.declared.result.Result.{Result}
use Rattle.std.specs.declared.result.Result.TheVariants.{Ok, Err}
use Rattle.terms.specs.Figures.{variables, table_bytes}
use Rattle.terms.specs.Term.{Term, Below}
use Rattle.terms.specs.Table.{encode, good_records, IsTable}
use Rattle.terms.specs.Listing.{Line, Full}
use Rattle.terms.specs.Refusal.{Row, Refused, Passed, list_table_rows, pattern_rows, recipe_rows, listing_rows}
use Rattle.terms.proofs.Table.{encode_one, good_below}
use Rattle.terms.proofs.Refusal.{refused_passed}
use Rattle.matching.proofs.Listing.{unique}
use Rattle.records.specs.Checks.{Pattern, Recipe}
use Rattle.refusals.specs.declared.Refusal.{Refusal}
use Rattle.refusals.specs.Judged.{number, Judged}
use Rattle.refusals.proofs.Judging.{passed, refused, judged_more, judged_and}
use Rattle.refusals.proofs.Numbers.{number_inj}
use Rattle.enumeration.specs.Written.{lent_lines, lent_records, ListingOf, NoRoom, Enumerated}
use Rattle.matcher.specs.Operations.{lent_for_list, Listed, TooMany, NineExactly}
use Rattle.enumeration.specs.Steps.{ListTables}

-- the tables that list is lent, judged
pub judged_list :
    (p t l s w : List ℕ) (a b : Result ⊤ Refusal)
    → Judged (list_table_rows l s w) ((length l ≤ table_bytes) × ((length s ≤ table_bytes) × (length w ≡ table_bytes))) a
    → Judged (pattern_rows p ++ recipe_rows t) (Pattern p × Recipe t) b
    → Judged (lent_for_list p t l s w) (ListTables p t l s w) (result_and a b)
judged_list p t l s w a b x y =
    judged_more _ _ _ (result_and a b)
    (λ z. record { pattern_checked = z.1.0; recipe_checked = z.1.1; lines_most = z.0.0; values_most = z.0.1.0; area = z.0.1.1 })
    (judged_and (list_table_rows l s w) _ (pattern_rows p ++ recipe_rows t) _ a b x y)

-- the numbers of the rows before 9
abbrev Low : List Row → Type 0
Low [] = Unit {0}
Low (r ∷ rows) = (r.0 < 9) × Low rows

low_refused : (rows : List Row) (k : ℕ) → Low rows → Refused rows k → k < 9
low_refused [] k h p = absurd p
low_refused (r ∷ rows) k h (inl p) = omega (arith, p.1, h.0)
low_refused (r ∷ rows) k h (inr p) = low_refused rows k h.1 p.1

module _ (p r l s w : List ℕ) where
  abbrev lent : List Row
  lent = lent_for_list p r l s w

  low_lent : Low lent
  low_lent = (lit< tt, (lit< tt, (lit< tt, (lit< tt, (lit< tt, (lit< tt, (lit< tt, (lit< tt, (lit< tt, (lit< tt, tt))))))))))

  -- one full listing
  below_passed : Passed lent → (x : Term) → IsTable p x → Below variables x
  below_passed h x i = go (good_records variables p) refl
    where
      go : (b : Bool) → good_records variables p ≡ b → Below variables x
      go true e = (good_below variables x [] (ap (good_records variables) (append-nil (encode x) ∙ sym i.0) ∙ e)).0
      go false e = absurd (h.1.1.1.1.0 e)

  pub listing_one : Passed lent → (ls ms : List Line) → ListingOf p r ls → ListingOf p r ms → ls ≡ ms
  listing_one h ls ms f g =
      let x = f.pattern_term in
      let y = f.recipe_term in
      unique variables x y (below_passed h x f.pattern_table) ls ms f.full
      (subst₂ (λ (u v : Term). Full variables u v ms)
      (encode_one g.pattern_term x (sym g.pattern_table.0 ∙ f.pattern_table.0))
      (encode_one g.recipe_term y (sym g.recipe_table.0 ∙ f.recipe_table.0)) g.full)

  -- 9, exactly
  nine_many : (m q : List ℕ) → Listed p r l s w (Err Refusal.LineRoom) m q → TooMany p r l s w
  unfolding Listed
  nine_many m q x = go x.0
    where
      more : (h : Passed lent) (n : NoRoom p r l s 9) → Refused (listing_rows (lent_lines l) (lent_records s) n.lines) 9 → TooMany p r l s w
      more h n (inl c) = (h, λ ls f. omega (arith, c.0, ap length (listing_one h n.lines ls n.listing_of f)))
      more h n (inr (d, inl c)) = absurd (omega (arith, c.1))
      more h n (inr (d, inr c)) = absurd c.1

      go : Refused lent 9 ⊎ (Passed lent × NoRoom p r l s 9) → TooMany p r l s w
      go (inl c) = absurd (omega (arith, low_refused lent 9 low_lent c))
      go (inr (h, n)) = more h n n.cause

  many_nine : (a : Result ℕ Refusal) (m q : List ℕ) → Listed p r l s w a m q → TooMany p r l s w → a ≡ Err Refusal.LineRoom
  unfolding Listed
  many_nine (Ok n) m q x z = absurd (x.1.room.0 (z.1 x.1.lines x.1.listing_of))
  many_nine (Err c) m q x z = go x.0
    where
      more : (n : NoRoom p r l s (number c)) → Refused (listing_rows (lent_lines l) (lent_records s) n.lines) (number c)
          → ◌≡◌ {A = Result ℕ Refusal} (Err c) (Err Refusal.LineRoom)
      more n (inl d) = ap Err (number_inj c Refusal.LineRoom d.1)
      more n (inr d) = absurd (d.0 (z.1 n.lines n.listing_of))

      go : Refused lent (number c) ⊎ (Passed lent × NoRoom p r l s (number c)) → ◌≡◌ {A = Result ℕ Refusal} (Err c) (Err Refusal.LineRoom)
      go (inl d) = absurd (refused_passed lent (number c) d z.0)
      go (inr (h, n)) = more n n.cause

  listed_nine : (a : Result ℕ Refusal) (m q : List ℕ) → Listed p r l s w a m q → NineExactly p r l s w a
  unfolding NineExactly
  listed_nine a m q x = (λ e. nine_many m q (subst (λ (b : Result ℕ Refusal). Listed p r l s w b m q) e x), many_nine a m q x)

  -- an answer, that 9 is exact, and what else is promised with them
  pub listed_all : (A : Type 0) (a : Result ℕ Refusal) (m q : List ℕ) → Listed p r l s w a m q → A
      → Listed p r l s w a m q × (NineExactly p r l s w a × A)
  listed_all A a m q x y = (x, (listed_nine a m q x, y))

  -- from the verdict and the search
  pub listed_lent : (c : Refusal) → Judged lent (ListTables p r l s w) (Err c) → Listed p r l s w (Err c) l s
  unfolding Listed
  listed_lent c x = (inl (refused lent (ListTables p r l s w) c x), refl, refl)

  pub listed_enumerated : Judged lent (ListTables p r l s w) (Ok tt) → (a : Result ℕ Refusal) (m q : List ℕ)
      → Enumerated p r l s a m q → Listed p r l s w a m q
  unfolding Listed Enumerated
  listed_enumerated x (Ok n) m q z = (passed lent (ListTables p r l s w) x, z)
  listed_enumerated x (Err c) m q z = (inr (passed lent (ListTables p r l s w) x, z.0), z.1, z.2)
